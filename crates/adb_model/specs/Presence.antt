-- Which pairs of a slot and a key are cached, named, present or held.
use Rattle.std.specs.Prelude.{ℕ, ◌==◌, ◌&&◌, ◌||◌, not, Bool, true, false, List, ◌++◌, map}
use Rattle.std.specs.List.{list_any}
use Rattle.std.specs.Option.{option_map_or}
use Rattle.std.specs.Str.{bytes_eq}
use Rattle.adb_model.specs.Lists.{among}
use Rattle.adb_model.specs.Account.{is_tomb}
use Rattle.adb_model.specs.State.{Row, Phase, Filling, Live, Retired, Storage, Pair, State}
use Rattle.adb_model.specs.Load.{is_of, last_store}

-- the key has a store in the slot
abbrev pub has_store : State → ℕ → List ℕ → Bool
has_store m s k = list_any (is_of s k) m.stores

-- it has a store, and its slot is not flushed
abbrev pub is_cached : State → ℕ → List ℕ → Bool
is_cached m s k = has_store m s k && not (among s m.flushed)

-- the pair is of this slot and key
abbrev pub is_pair : ℕ → List ℕ → Pair → Bool
is_pair s k p = p.slot == s && bytes_eq p.key k

-- a load finds the key's version of the slot in a storage
abbrev pub is_named : State → ℕ → List ℕ → Bool
is_named m s k = list_any (is_pair s k) m.named

-- it is cached or named
abbrev pub is_present : State → ℕ → List ℕ → Bool
is_present m s k = is_cached m s k || is_named m s k

-- a row is of the key
abbrev pub has_row : List ℕ → List Row → Bool
has_row k rows = list_any (λ r. bytes_eq r.key k) rows

-- the phase is Live
abbrev pub is_live_phase : Phase → Bool
is_live_phase Live = true
is_live_phase Filling = false
is_live_phase Retired = false

-- the storage is in use
abbrev pub is_live : Storage → Bool
is_live t = is_live_phase t.phase

-- a Live storage of the slot has a row of the key
abbrev pub is_held : State → ℕ → List ℕ → Bool
is_held m s k = list_any (λ t. (is_live t && t.slot == s) && has_row k t.rows) m.storages

-- its last store is a tomb
abbrev pub ends_in_tomb : State → ℕ → List ℕ → Bool
ends_in_tomb m s k = option_map_or (λ t. is_tomb t.account) (last_store m s k) false

-- every slot that has a store, a named pair or a storage
abbrev pub slots_of : State → List ℕ
slots_of m = map (λ t. t.slot) m.stores ++ map (λ p. p.slot) m.named ++ map (λ t. t.slot) m.storages
