-- How the bins of an index are numbered and grouped, and what they are together.
use Rattle.std.specs.Prelude.{◌≡◌, ◌≢◌, ◌==◌, if◌then◌else◌, ℕ, ◌+◌, ◌*◌, ◌/◌, ◌<◌, min, List, [], ◌∷◌, length, replicate, Option, Some, None, All, slice_index, slice_index_or}
use Rattle.std.specs.List.{flat_map}
use Rattle.std.specs.declared.vec.Vec.{Vec}
use Rattle.accounts_index.specs.Index.{Index, nothing, IsOrdered}

-- the number of a key's first two bytes
abbrev pub first_two : List ℕ → ℕ
first_two key = 256 * slice_index key 0 + min (slice_index key 1) 255

-- the number of the 14 bits after these
abbrev pub next_bits : List ℕ → ℕ
next_bits key = min (64 * slice_index key 2 + min (slice_index key 3 / 4) 63) 16383

-- the number of a key's bin: keys that begin with two zeros are told apart by the bits after these, and all others by their first two bytes
abbrev pub bin_of : List ℕ → ℕ
bin_of key = if first_two key == 0 then next_bits key else 16383 + first_two key

-- the number of the first bin that may have keys above another one, if one is given
abbrev pub start_of : Option (List ℕ) → ℕ
start_of None = 0
start_of (Some after) = bin_of after

-- the keys of all bins, bin after bin
abbrev pub joined : List Index → Index
joined bins = flat_map (λ bin. bin) bins

-- the 256 bins of a group, which has none of them before a key came into it
unfoldable pub bins_in : List Index → List Index
bins_in [] = replicate 256 []
bins_in (bin ∷ bins) = bin ∷ bins

-- the bins of all groups, group after group
abbrev pub all_bins : {B : Type 0} → List (Vec Index B) → List Index
all_bins groups = flat_map (λ group. bins_in group.items) groups

-- something is kept of each key
abbrev pub AreUsed : Index → Type 0
AreUsed keys = All (λ e. e.1 ≢ nothing) keys

-- every key of the bin has its number
abbrev pub HasNumber : ℕ → Index → Type 0
HasNumber number bin = All (λ e. bin_of e.0 ≡ number) bin

-- what holds of the bins between calls
pub record AreBins (bins : List Index) : Type 0 where
  pub every_number : length bins ≡ 81920
  pub numbered : (k : ℕ) (d : Index) → k < length bins → HasNumber k (slice_index_or bins k d)
  pub used : All AreUsed bins
  pub ordered : All IsOrdered bins

-- what holds of the groups between calls
pub record AreGroups {B : Type 0} (groups : List (Vec Index B)) : Type 0 where
  pub every_group : length groups ≡ 320
  pub whole : All (λ group. length (bins_in group.items) ≡ 256) groups
  pub bins : AreBins (all_bins groups)
