-- What contracts see of a table: its cells, and the limit of their bytes.
use Rattle.std.specs.Prelude.{◌≡◌, ℕ, ◌+◌, ◌<◌, ◌≤◌, false, List, length, sum_by, count_by, slice_index_or, slice_set}
use Rattle.cell_table.specs.declared.phase.Phase.{Phase}
use Rattle.cell_table.specs.declared.phase.Phase.TheVariants.{Free, Filling}
use Rattle.cell_table.specs.declared.table.CellFault.{CellFault}
use Rattle.cell_table.specs.declared.table.CellFault.TheVariants.{Full, NoCell, NoMemory}
use Rattle.cell_table.specs.declared.table.Counts.{Counts}
use Rattle.cell_table.specs.Phases.{bytes_of, pins_of, has_id, is_free, is_filling, is_live, is_retired, is_idle}

-- as many cells as the table was made with
pub record Table (T : Type 0) : Type 0 where
  pub cells : List (Phase T)
  pub limit : ℕ

module _ {T : Type 0} where
  -- a cell; one past the list is free
  abbrev pub cell_at : List (Phase T) → ℕ → Phase T
  cell_at cells cell = slice_index_or cells cell Free

  abbrev pub used : List (Phase T) → ℕ
  used cells = sum_by bytes_of cells

  abbrev pub pins : List (Phase T) → ℕ
  pins cells = sum_by pins_of cells

  abbrev pub counts_of : List (Phase T) → Counts
  counts_of cells = record {
    filling = count_by is_filling cells;
    live = count_by is_live cells;
    retired = count_by is_retired cells;
    free = count_by is_idle cells;
    pins = pins cells;
  }

  -- no cell is in use under the id
  abbrev pub IsUnused : ℕ → List (Phase T) → Type 0
  IsUnused id cells = (cell : ℕ) → has_id id (cell_at cells cell) ≡ false

  -- a free cell is filling, and all fits
  pub record Begins (old new : Table T) (id bytes cell : ℕ) : Type 0 where
    pub within : cell < length old.cells
    pub was_free : cell_at old.cells cell ≡ Free
    pub fits : used old.cells + bytes ≤ old.limit
    pub now : new ≡ record old { cells = slice_set old.cells cell (Filling id bytes) }

  -- so many bytes fit, and a cell is free
  abbrev pub CanBegin : Table T → ℕ → Type 0
  CanBegin table bytes = (used table.cells + bytes ≤ table.limit) × (0 < count_by is_free table.cells)

  -- the cause of a refusal
  abbrev pub IsCause : Table T → ℕ → CellFault → Type 0
  IsCause table bytes (Full used_bytes wanted limit) =
      (used_bytes ≡ used table.cells) × (wanted ≡ bytes) × (limit ≡ table.limit) × (limit < used_bytes + wanted)
  IsCause table bytes (NoCell limit) =
      (limit ≡ length table.cells) × (count_by is_free table.cells ≡ 0) × (used table.cells + bytes ≤ table.limit)
  IsCause table bytes NoMemory =
      (0 < count_by is_free table.cells) × (used table.cells + bytes ≤ table.limit)
