-- What contracts see of an index: what is kept of each key, by rising key.
use Rattle.std.specs.Prelude.{◌≡◌, ℕ, nat_lt, ◌&&◌, ◌||◌, Bool, true, false, if◌then◌else◌, List, [], length, Option, Some, None, unwrap_or, find, filter, map, option_map, AllPairs}
use Rattle.std.specs.List.{list_any}
use Rattle.std.specs.Map.{lookup}
use Rattle.std.specs.Str.{bytes_eq}
use Rattle.std.specs.Ordering.{nat_cmp, is_lt}
use Rattle.std.specs.Cmp.Lexicographic.{slice_cmp}
use Rattle.std.specs.declared.cmp.Ordering.{Ordering}
use Rattle.std.specs.declared.cmp.Ordering.TheVariants.{Less}
use Rattle.slot_list.specs.declared.Place.{Place}
use Rattle.slot_list.specs.declared.Place.TheVariants.{Cached, Stored}
use Rattle.slot_list.specs.declared.Version.{Version}
use Rattle.slot_list.specs.Versions.{KeySlots, VersionsRise}
use Rattle.adb_model.specs.declared.key.Key.{Key}
use denote.Ref.{Bor}

-- what is kept of a key: its versions by rising slot, the slots in which it is held, and those in which it is expected to be
pub record Kept : Type 0 where
  pub versions : List Version
  pub held : List ℕ
  pub expected : List ℕ

abbrev pub nothing : Kept
nothing = record { versions = []; held = []; expected = [] }

-- keys with what is kept of them
abbrev pub Index : Type 0
Index = List (List ℕ × Kept)

abbrev pub kept : Index → List ℕ → Kept
kept index key = unwrap_or (lookup (λ k. bytes_eq k key) index) nothing

-- new keeps this of the key, and of every other key what old keeps
abbrev pub IsWith : Index → Index → List ℕ → Kept → Type 0
IsWith old new key of_key = (q : List ℕ) → kept new q ≡ (if bytes_eq key q then of_key else kept old q)

-- the keys with the versions of each
abbrev pub versions_of : Index → List (List ℕ × List Version)
versions_of index = map (λ e. (e.0, e.1.versions)) index

-- a key that is lent with its list, and the versions of this
abbrev pub shown : Bor Key × Bor KeySlots → List ℕ × List Version
shown lent = (lent.0.now.0, lent.1.now.versions)

-- the order of keys, byte by byte
abbrev pub key_cmp : List ℕ → List ℕ → Ordering
key_cmp a b = slice_cmp nat_cmp a b

-- each key is below all later ones
abbrev pub IsOrdered : Index → Type 0
IsOrdered index = AllPairs (λ a b. key_cmp a.0 b.0 ≡ Less) index

-- the versions of each key are of rising slots
abbrev pub ListsRise : Index → Type 0
ListsRise index = (k : List ℕ) → VersionsRise (kept index k).versions

-- the key is above another one, if one is given
abbrev pub is_above : Option (List ℕ) → List ℕ → Bool
is_above None key = true
is_above (Some after) key = is_lt (key_cmp after key)

abbrev pub is_stored : Place → Bool
is_stored Cached = false
is_stored (Stored cell offset) = true

-- two or more versions, or a stored one that is a tomb
abbrev pub is_crowded : List Version → Bool
is_crowded versions = nat_lt 1 (length versions) || list_any (λ v. v.tomb && is_stored v.place) versions

-- the first key above another that has a version
abbrev pub key_after : Index → Option (List ℕ) → Option (List ℕ)
key_after index after = option_map (λ e. e.0) (find (λ e. is_above after e.0 && nat_lt 0 (length e.1.versions)) index)

-- the crowded keys above another, rising
abbrev pub crowded_after : Index → Option (List ℕ) → List (List ℕ)
crowded_after index after = map (λ e. e.0) (filter (λ e. is_above after e.0 && is_crowded e.1.versions) index)
