-- What the entries of an index stand for, and what holds of them.
use Rattle.std.specs.Prelude.{◌≡◌, ◌≢◌, ℕ, ◌≤◌, ◌<◌, ◌+◌, List, ◌++◌, length, map, flat_map, All, AllPairs, slice_index_or}
use Rattle.accounts_index.specs.declared.entry.Entry.{Entry}
use Rattle.accounts_index.specs.declared.entry.Lists.{Lists}
use Rattle.std.specs.declared.vec.Vec.{Vec}
use Rattle.std.specs.declared.cmp.Ordering.TheVariants.{Less}
use Rattle.accounts_index.specs.Index.{Kept, Index, key_cmp}

abbrev pub kept_of : Lists → Kept
kept_of lists = record { versions = lists.list.versions; held = lists.list.held; expected = lists.expected.items }

-- the entries with their keys
abbrev pub seen : List Entry → Index
seen entries = map (λ e. (e.key.0, kept_of e.lists.value)) entries

-- each key is below all later ones
abbrev pub KeysRise : List Entry → Type 0
KeysRise entries = AllPairs (λ a b. key_cmp a.key.0 b.key.0 ≡ Less) entries

-- something is kept of the key
abbrev pub IsUsed : Lists → Type 0
IsUsed lists = 0 < length lists.list.versions + length lists.list.held + length lists.expected.items

-- each expected slot has room among the held ones
abbrev pub HasRoom : Lists → Type 0
HasRoom lists = length lists.expected.items ≤ lists.list.spare

-- what holds between calls
pub record AreEntries (entries : List Entry) : Type 0 where
  pub rise : KeysRise entries
  pub room : All (λ e. HasRoom e.lists.value) entries
  pub used : All (λ e. IsUsed e.lists.value) entries

-- the same while one entry may be of no use
pub record AreEntriesBut (entries : List Entry) (place : ℕ) : Type 0 where
  pub in_range : place < length entries
  pub rise : KeysRise entries
  pub room : All (λ e. HasRoom e.lists.value) entries
  pub used : (k : ℕ) (d : Entry) → k ≢ place → k < length entries → IsUsed (slice_index_or entries k d).lists.value

-- the bins that are left of a group, and those of the groups after it
abbrev pub bins_left : {B : Type 0} → List Index → List (Vec Index B) → List Index
bins_left bins groups = bins ++ flat_map (λ group. group.items) groups
