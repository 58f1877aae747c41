-- A book's map leads to the storages of a state, and its index to their rows.
use Rattle.std.specs.Prelude.{◌≡◌, ℕ, true, List, length, Option, Some, None}
use Rattle.cell_table.specs.declared.phase.Phase.{Phase}
use Rattle.cell_table.specs.Phases.{has_id}
use Rattle.cell_table.specs.Cells.{cell_at}
use Rattle.storage_map.specs.declared.entry.Live.{Live}
use Rattle.storage_map.specs.declared.entry.Begun.{Begun}
use Rattle.storage_map.specs.Slots.{Slots, live_at, begun_at}
use Rattle.adb_model.specs.Account.{Account}
use Rattle.adb_model.specs.State.{Storage, State}
use Rattle.adb_model.specs.Storages.{live_storage, filling_storage}
use Rattle.adb_model.specs.Shrink.{named_in}
use Rattle.adb_model.specs.Sound.{last_account}
use Rattle.book_parts.specs.Parts.{Shared}
use Rattle.book_parts.specs.Cells.{row_in}

-- an entry in use is of the storage, and counts its rows and those that are named; or there is neither
abbrev pub IsLiveOf : List (Phase Shared) → ℕ → Option Live → Option Storage → Type 0
IsLiveOf cells named None None = Unit {0}
IsLiveOf cells named (Some live) (Some t) = (has_id t.id (cell_at cells live.cell) ≡ true) × (live.alive ≡ named) × (live.total ≡ length t.rows)
IsLiveOf cells named live t = ⊥

-- an entry that has begun is of the storage, and counts its rows; or there is neither
abbrev pub IsBegunOf : List (Phase Shared) → Option Begun → Option Storage → Type 0
IsBegunOf cells None None = Unit {0}
IsBegunOf cells (Some begun) (Some t) = (has_id t.id (cell_at cells begun.cell) ≡ true) × (begun.rows ≡ length t.rows)
IsBegunOf cells begun t = ⊥

-- each slot leads to the cells of its storages
abbrev pub SlotsFit : State → List (Phase Shared) → Slots → Type 0
SlotsFit m cells map = record {
  lives : (s : ℕ) → IsLiveOf cells (named_in m s) (live_at map s) (live_storage m s);
  begins : (s : ℕ) → IsBegunOf cells (begun_at map s) (filling_storage m s);
}

-- the pair's last account stands at the place, in the cell of the slot's Live storage
abbrev pub IsPlacedAt : State → List (Phase Shared) → ℕ → List ℕ → ℕ → ℕ → Type 0
IsPlacedAt m cells s k cell offset = record {
  storage : Storage;
  account : Account;
  live : live_storage m s ≡ Some storage;
  there : has_id storage.id (cell_at cells cell) ≡ true;
  row : row_in (cell_at cells cell) offset ≡ Some (record { key = k; account = account });
  last : last_account m s k ≡ Some account;
}
