-- A pass lets go of a storage that is pinned.
use Rattle.std.proofs.Common.{◌≡◌, ℕ, ◌<◌, Bool, true, not, IsTrue, IsFalse, Option, Some, None, is_some, refl, sym, ap, subst}
use Rattle.std.specs.List.{list_any}
use Rattle.std.proofs.lemmas.Bool.{false≢true}
use Rattle.cell_table.specs.Phases.{has_id, pins_of}
use Rattle.cell_table.specs.Cells.{cell_at}
use Rattle.adb_model.specs.State.{Storage, State}
use Rattle.adb_model.specs.Storages.{is_filling, storage_with, pin_count}
use Rattle.adb_model.specs.Call.{Unpin, NotPinned, Done}
use Rattle.adb_model.specs.Outcome.{unless, refused_if}
use Rattle.adb_model.specs.Callers.{is_pin, unpinned}
use Rattle.adb_model.specs.Step.{step}
use Rattle.book_parts.specs.Parts.{Parts}
use Rattle.book_parts.specs.Reflects.{Reflects}
use Rattle.book_parts.proofs.CellOfStorage.{filled_cell}

pub unpin_is : (m : State) (pass id : ℕ) (b : Bool) → list_any (is_pin pass id) m.pins ≡ b
    → step m pass (Unpin id) ≡ unless (refused_if (not b) (NotPinned id)) m (unpinned m pass id, Done)
unpin_is m pass id b e = ap (λ b. unless (refused_if (not b) (NotPinned id)) m (unpinned m pass id, Done)) e

module _ (p : Parts) (m : State) (id : ℕ) (r : Reflects p m) where
  -- a storage that is there has a cell
  pub cell_there : IsTrue (is_some (storage_with m id)) → (cell : ℕ) × (has_id id (cell_at p.cells.cells cell) ≡ true)
  cell_there some = by (storage_with m id) refl some
    where
      by : (o : Option Storage) → storage_with m id ≡ o → IsTrue (is_some o) → (cell : ℕ) × (has_id id (cell_at p.cells.cells cell) ≡ true)
      by None e t = absurd (false≢true t)
      by (Some t) e s = r.cells.every id t e

  -- a pinned storage's cell has pins
  pub cell_pinned : (cell : ℕ) → has_id id (cell_at p.cells.cells cell) ≡ true → 0 < pin_count m id → ((t : Storage) → storage_with m id ≡ Some t → IsFalse (is_filling t)) → 0 < pins_of (cell_at p.cells.cells cell)
  cell_pinned cell has some filled =
      let of_cell = r.cells.each cell id has in
      let all = filled_cell of_cell.0 (pin_count m id) (cell_at p.cells.cells cell) (filled of_cell.0 of_cell.1) of_cell.2 in
      subst (λ (n : ℕ). 0 < n) (sym all) some
