-- What is looked up in the list of a key.
use Rattle.std.specs.Prelude.{◌≡◌, ℕ, ◌≤◌, ◌<◌, true, false, List, Option, Some, None}
use Rattle.slot_list.specs.declared.Version.{Version}
use Rattle.book_parts.specs.Reclaims.{is_stored_at, IsLowestTomb}

-- the least slot from one on and below another whose version is stored, where there is one
abbrev pub IsNextStored : List Version → ℕ → ℕ → Option ℕ → Type 0
IsNextStored versions from bound None = (s : ℕ) → from ≤ s → s < bound → is_stored_at versions s ≡ false
IsNextStored versions from bound (Some slot) =
    (from ≤ slot) × (slot < bound) × (is_stored_at versions slot ≡ true) × ((s : ℕ) → from ≤ s → s < slot → is_stored_at versions s ≡ false)

-- no version is stored above the slot and below the other one, which is higher
pub record IsAloneBelow (versions : List Version) (slot next : ℕ) : Type 0 where
  pub higher : slot < next
  pub none : (s : ℕ) → slot < s → s < next → is_stored_at versions s ≡ false

-- the slot whose version is a stored tomb that hides nothing below, where there is one
abbrev pub TellsLowestTomb : ℕ → List Version → List ℕ → Option ℕ → Type 0
TellsLowestTomb cleaned versions held None = (s : ℕ) → IsLowestTomb cleaned versions held s → ⊥
TellsLowestTomb cleaned versions held (Some slot) = IsLowestTomb cleaned versions held slot
