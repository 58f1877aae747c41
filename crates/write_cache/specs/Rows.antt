-- What contracts see of a cache: of each slot that has some, its rows, in the order in which their keys were first stored.
use Rattle.std.specs.Prelude.{◌≡◌, ℕ, ◌≤◌, ◌<◌, ◌==◌, if◌then◌else◌, List, [], length, Option, Some, None, option_map, unwrap_or, find, sum_by}
use Rattle.std.specs.Map.{lookup, values_of}
use Rattle.std.specs.Str.{bytes_eq}
use Rattle.adb_model.specs.Account.{Account}
use Rattle.adb_model.specs.State.{Row}

-- slots with their rows, by rising slot
abbrev pub Cache : Type 0
Cache = List (ℕ × List Row)

-- the rows of a slot
abbrev pub rows : Cache → ℕ → List Row
rows cache slot = unwrap_or (lookup (λ s. s == slot) cache) []

-- how many rows there are in all
abbrev pub total : Cache → ℕ
total cache = sum_by length (values_of cache)

-- the account of a key
abbrev pub account_at : List Row → List ℕ → Option Account
account_at rows key = option_map (λ r. r.account) (find (λ r. bytes_eq r.key key) rows)

-- new has these rows in the slot, and in every other what old has
abbrev pub IsWith : Cache → Cache → ℕ → List Row → Type 0
IsWith old new slot made = (q : ℕ) → rows new q ≡ (if slot == q then made else rows old q)

-- the least slot from one on that has rows
abbrev pub IsNextSlot : Cache → ℕ → Option ℕ → Type 0
IsNextSlot cache from None = (q : ℕ) → from ≤ q → rows cache q ≡ []
IsNextSlot cache from (Some slot) = (from ≤ slot) × (0 < length (rows cache slot)) × ((q : ℕ) → from ≤ q → q < slot → rows cache q ≡ [])
