-- A book's cells are the storages of a state.
use Rattle.std.specs.Prelude.{◌≡◌, ℕ, ◌+◌, true, IsTrue, List, length, Option, Some, option_and_then, count_by}
use Rattle.vec_scan.specs.Image.{Image}
use Rattle.vec_scan.specs.Seal.{rows_in, row_there}
use Rattle.cell_table.specs.declared.phase.Phase.{Phase}
use Rattle.cell_table.specs.declared.phase.Phase.TheVariants as cells
use Rattle.cell_table.specs.Phases.{has_id, is_free, value_of}
use Rattle.cell_table.specs.Cells.{cell_at}
use Rattle.adb_model.specs.State.{Row, Storage, State}
use Rattle.adb_model.specs.Presence.{is_live}
use Rattle.adb_model.specs.Storages.{storage_with, is_filling, is_retired, pin_count}
use Rattle.adb_model.specs.Laws.{SameRows}
use Rattle.book_parts.specs.Parts.{Shared}

-- the image has the storage's slot, id and rows, those of each key in their order
pub record IsImageOf (t : Storage) (image : Image) : Type 0 where
  pub slot : image.slot ≡ t.slot
  pub id : image.id ≡ t.id
  pub rows : SameRows (rows_in image) t.rows

-- the cell is that of the storage, which is pinned so many times
abbrev pub IsCellOf : Storage → ℕ → Phase Shared → Type 0
IsCellOf t count cells.Free = ⊥
IsCellOf t count (cells.Filling id bytes) = IsTrue (is_filling t) × (bytes ≡ t.bytes)
IsCellOf t count (cells.Live id bytes pins image) = IsTrue (is_live t) × (bytes ≡ t.bytes) × (pins ≡ count) × IsImageOf t image.value
IsCellOf t count (cells.Retired id bytes pins image) = IsTrue (is_retired t) × (bytes ≡ t.bytes) × (pins ≡ count) × IsImageOf t image.value

-- each id leads to a cell and a storage that are one, or to none of both, and there are 1,048,576 cells
abbrev pub CellsFit : State → List (Phase Shared) → Type 0
CellsFit m cells = record {
  all : length cells ≡ 1048576;
  free : count_by is_free cells + length m.storages ≡ 1048576;
  apart : (a b id : ℕ) → has_id id (cell_at cells a) ≡ true → has_id id (cell_at cells b) ≡ true → a ≡ b;
  each : (cell id : ℕ) → has_id id (cell_at cells cell) ≡ true → (t : Storage) × (storage_with m id ≡ Some t) × IsCellOf t (pin_count m id) (cell_at cells cell);
  every : (id : ℕ) (t : Storage) → storage_with m id ≡ Some t → (cell : ℕ) × (has_id id (cell_at cells cell) ≡ true);
}

-- the row whose record stands at a place of a cell's image
abbrev pub row_in : Phase Shared → ℕ → Option Row
row_in phase offset = option_and_then (λ image. row_there image.value.rows offset) (value_of phase)
