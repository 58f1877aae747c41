-- What the fields of a table stand for, and what holds of them.
use Rattle.std.specs.Prelude.{◌≡◌, ◌≢◌, ℕ, ◌-◌, ◌<◌, ◌≤◌, ◌↔◌, ◌++◌, ◌∷◌, [], ◌⊎◌, Bool, true, List, length, count_by, All, AllPairs, Option, Some}
use Rattle.std.specs.List.{repeat}
use Rattle.cell_table.specs.declared.phase.Phase.{Phase}
use Rattle.cell_table.specs.declared.phase.Phase.TheVariants.{Free}
use Rattle.cell_table.specs.declared.table.CellFault.{CellFault}
use Rattle.cell_table.specs.declared.table.CellFault.TheVariants.{Full, NoCell, NoMemory}
use Rattle.cell_table.specs.declared.table.Counts.{Counts}
use Rattle.cell_table.specs.Phases.{has_id, is_free, is_idle}
use Rattle.cell_table.specs.Cells.{cell_at, used, counts_of}

module _ {T : Type 0} where
  -- the cells that were used once, and then free ones
  abbrev pub all_cells : ℕ → List (Phase T) → List (Phase T)
  all_cells most cells = cells ++ repeat (most - length cells) (Free ∷ [])

  -- the places of the cells that pass a test, each once
  pub record ArePlaces (test : Phase T → Bool) (cells : List (Phase T)) (places : List ℕ) : Type 0 where
    pub each : All (λ k. (k < length cells) × (test (cell_at cells k) ≡ true)) places
    pub apart : AllPairs (λ a b. a ≢ b) places
    pub every : length places ≡ count_by test cells

  -- the place of each id in use
  abbrev pub AreIds : List (Phase T) → (ℕ → Option ℕ) → Type 0
  AreIds cells find = (id k : ℕ) → (find id ≡ Some k) ↔ (has_id id (cell_at cells k) ≡ true)

  -- what holds between calls
  pub record IsSound (cells : List (Phase T)) (free idle : List ℕ) (find : ℕ → Option ℕ) (bytes limit : ℕ) (counts : Counts) : Type 0 where
    pub free_places : ArePlaces is_free cells free
    pub idle_places : ArePlaces is_idle cells idle
    pub ids : AreIds cells find
    pub total : bytes ≡ used cells
    pub within : bytes ≤ limit
    pub tally : counts ≡ counts_of cells

  -- the lists of places have room for every cell
  pub record HaveRoom (cells : List (Phase T)) (most free_room idle_room : ℕ) : Type 0 where
    pub few : length cells ≤ most
    pub free : length cells ≤ free_room
    pub idle : length cells ≤ idle_room

module _ {T : Type 0} where
  -- nothing changes, or one more cell is used for the first time
  abbrev pub Grows : ℕ → List (Phase T) → List ℕ → List (Phase T) → List ℕ → Type 0
  Grows most cells free new_cells new_free =
      ((new_cells ≡ cells) × (new_free ≡ free))
      ⊎ ((free ≡ []) × (length cells < most) × (new_cells ≡ cells ++ Free ∷ []) × (new_free ≡ length cells ∷ []))

  -- why no free cell is at hand
  abbrev pub IsLack : ℕ → List (Phase T) → List ℕ → CellFault → Type 0
  IsLack most cells free (Full used wanted limit) = ⊥
  IsLack most cells free (NoCell limit) = (limit ≡ most) × (free ≡ []) × (length cells ≡ most)
  IsLack most cells free NoMemory = (free ≡ []) × (length cells < most)
