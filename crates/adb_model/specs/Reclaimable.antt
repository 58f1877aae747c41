-- Which pairs may be dropped, and which keys are looked at.
use Rattle.std.specs.Prelude.{ℕ, ◌==◌, nat_lt, nat_le, ◌&&◌, ◌||◌, not, Bool, List, ◌++◌, length, map, filter}
use Rattle.std.specs.List.{list_any}
use Rattle.std.specs.Ordering.{nat_cmp}
use Rattle.std.specs.declared.cmp.Ordering.{Ordering}
use Rattle.std.specs.Cmp.Lexicographic.{slice_cmp}
use Rattle.std.specs.Str.{bytes_eq}
use Rattle.adb_model.specs.Lists.{distinct, rising}
use Rattle.adb_model.specs.State.{State}
use Rattle.adb_model.specs.Presence.{is_named, is_present, is_held, ends_in_tomb, slots_of}

-- it is named, and a root above it up to the cleaned slot has the key present
abbrev pub is_shadowed : State → ℕ → List ℕ → Bool
is_shadowed m s k = is_named m s k && list_any (λ r. (nat_lt s r && nat_le r m.cleaned) && is_present m r k) m.roots

-- some slot below has the key present or held
abbrev pub is_there_below : State → ℕ → List ℕ → Bool
is_there_below m s k = list_any (λ q. nat_lt q s && (is_present m q k || is_held m q k)) (slots_of m)

-- it is named, a tomb, up to the cleaned slot, and hides nothing below
abbrev pub is_spent : State → ℕ → List ℕ → Bool
is_spent m s k = ((is_named m s k && ends_in_tomb m s k) && nat_le s m.cleaned) && not (is_there_below m s k)

-- the slots that have the key present, each once
abbrev pub present_slots : State → List ℕ → List ℕ
present_slots m k = filter (λ s. is_present m s k) (distinct ◌==◌ (slots_of m))

-- it has two or more present slots, or a named pair that ends in a tomb
abbrev pub is_crowded : State → List ℕ → Bool
is_crowded m k = nat_lt 1 (length (present_slots m k)) || list_any (λ p. bytes_eq p.key k && ends_in_tomb m p.slot k) m.named

-- keys are ordered byte by byte
abbrev pub key_cmp : List ℕ → List ℕ → Ordering
key_cmp a b = slice_cmp nat_cmp a b

-- rising
abbrev pub crowded_keys : State → List (List ℕ)
crowded_keys m = filter (is_crowded m) (rising key_cmp (map (λ t. t.key) m.stores ++ map (λ p. p.key) m.named))
