-- What a flush changes of a book's index, cells and map.
use Rattle.std.specs.Prelude.{◌≡◌, ◌≢◌, ℕ, ◌+◌, ◌==◌, ◌&&◌, ◌||◌, not, Bool, true, false, if◌then◌else◌, List, [], length, AllPairs, Option, Some, None, IsSome, option_map, map, zip, slice_set}
use Rattle.std.specs.Map.{lookup}
use Rattle.std.specs.Str.{bytes_eq}
use Rattle.slot_list.specs.declared.Place.{Place}
use Rattle.slot_list.specs.declared.Place.TheVariants.{Stored}
use Rattle.accounts_index.specs.Index.{Index, kept}
use Rattle.write_cache.specs.Rows.{Cache, rows, total, IsWith}
use Rattle.cell_table.specs.declared.phase.Phase.TheVariants.{Free}
use Rattle.cell_table.specs.Phases.{published, is_filling, has_id}
use Rattle.cell_table.specs.Cells.{Table, Begins, cell_at}
use Rattle.storage_map.specs.Slots.{Slots, live_at, begun_at, alive_sum, total_sum, begun_with, Becomes}
use Rattle.storage_map.specs.Slots as maps
use Rattle.adb_model.specs.Lists.{among}
use Rattle.adb_model.specs.State.{Row}
use Rattle.adb_model.specs.Presence.{has_row}
use Rattle.adb_model.specs.Storages.{bytes_of}
use Rattle.book_parts.specs.Parts.{Shared}
use Rattle.book_parts.specs.Reflects.{indexed}

-- the pair is of the slot and of one of the rows
abbrev pub is_in : ℕ → List Row → ℕ → List ℕ → Bool
is_in slot rows s k = slot == s && has_row k rows

-- the rows' keys are expected to be held in the slot, and all else is as before
pub record Expects (slot : ℕ) (rows : List Row) (old new : Index) : Type 0 where
  pub versions : (k : List ℕ) (s : ℕ) → indexed new s k ≡ indexed old s k
  pub held : (k : List ℕ) (s : ℕ) → among s (kept new k).held ≡ among s (kept old k).held
  pub expected : (k : List ℕ) (s : ℕ) → among s (kept new k).expected ≡ (is_in slot rows s k || among s (kept old k).expected)

-- they are expected no longer, and all else is as before
pub record Unexpects (slot : ℕ) (rows : List Row) (old new : Index) : Type 0 where
  pub versions : (k : List ℕ) (s : ℕ) → indexed new s k ≡ indexed old s k
  pub held : (k : List ℕ) (s : ℕ) → among s (kept new k).held ≡ among s (kept old k).held
  pub expected : (k : List ℕ) (s : ℕ) → among s (kept new k).expected ≡ (not (is_in slot rows s k) && among s (kept old k).expected)

-- the place that goes with the first row of a key
abbrev pub place_of : List Row → List ℕ → List ℕ → Option ℕ
place_of rows places k = lookup (λ key. bytes_eq key k) (zip (map (λ r. r.key) rows) places)

-- what is found of a pair whose record came to a place of the cell, or which stays where it is
abbrev pub moved : ℕ → Option ℕ → Option (Bool × Place) → Option (Bool × Place)
moved cell None found = found
moved cell (Some offset) found = option_map (λ i. (i.0, Stored cell offset)) found

-- the rows' versions in the slot are found at their places in the cell, held, and expected no longer
pub record Moves (slot cell : ℕ) (rows : List Row) (places : List ℕ) (old new : Index) : Type 0 where
  pub versions : (k : List ℕ) (s : ℕ) → indexed new s k ≡ moved cell (if slot == s then place_of rows places k else None) (indexed old s k)
  pub held : (k : List ℕ) (s : ℕ) → among s (kept new k).held ≡ (is_in slot rows s k || among s (kept old k).held)
  pub expected : (k : List ℕ) (s : ℕ) → among s (kept new k).expected ≡ (not (is_in slot rows s k) && among s (kept old k).expected)

-- a flush of these rows of the slot has begun: a cell is being filled under the id, and all else is as before
pub record FlushBegins (slot id cell : ℕ) (written : List Row) (old_index new_index : Index) (old_cells new_cells : Table Shared) (old_map new_map : Slots) : Type 0 where
  pub index : Expects slot written old_index new_index
  pub cells : Begins old_cells new_cells id (bytes_of written) cell
  pub slots : Becomes old_map new_map slot (live_at old_map slot) (Some (begun_with cell (length written)))

-- the flush of these rows is open, and has what its end needs
pub record IsOpenIn (slot id cell : ℕ) (written : List Row) (index : Index) (cells : Table Shared) (slots : Slots) : Type 0 where
  pub begun : begun_at slots slot ≡ Some (begun_with cell (length written))
  pub of_id : has_id id (cell_at cells.cells cell) ≡ true
  pub fills : is_filling (cell_at cells.cells cell) ≡ true
  pub differ : AllPairs (λ r q. r.key ≢ q.key) written
  pub there : (k : List ℕ) → has_row k written ≡ true → IsSome (indexed index slot k)
  pub expected : (k : List ℕ) → has_row k written ≡ true → among slot (kept index k).expected ≡ true
  pub unheld : (k : List ℕ) → has_row k written ≡ true → among slot (kept index k).held ≡ false

-- the map has the same storages
pub record SameSlots (old new : Slots) : Type 0 where
  pub lives : (s : ℕ) → live_at new s ≡ live_at old s
  pub begins : (s : ℕ) → begun_at new s ≡ begun_at old s
  pub alive : alive_sum new ≡ alive_sum old
  pub total : total_sum new ≡ total_sum old

-- the flush has ended: its cell has the image, in which the rows stand at these places, and the slot's cached rows are gone
pub record FlushEnds (slot cell : ℕ) (written : List Row) (image : Shared) (places : List ℕ) (old_cache new_cache : Cache) (old_index new_index : Index) (old_cells new_cells : Table Shared) (old_map new_map : Slots) : Type 0 where
  pub index : Moves slot cell written places old_index new_index
  pub dropped : IsWith old_cache new_cache slot []
  pub counted : total old_cache ≡ total new_cache + length (rows old_cache slot)
  pub cells : new_cells ≡ record old_cells { cells = slice_set old_cells.cells cell (published image (cell_at old_cells.cells cell)) }
  pub slots : Becomes old_map new_map slot (maps.published (live_at old_map slot) (begun_at old_map slot)) None

-- the flush was given up: its cell is free, and its rows are expected no longer
pub record FlushLeaves (slot cell : ℕ) (written : List Row) (old_index new_index : Index) (old_cells new_cells : Table Shared) (old_map new_map : Slots) : Type 0 where
  pub index : Unexpects slot written old_index new_index
  pub cells : new_cells ≡ record old_cells { cells = slice_set old_cells.cells cell Free }
  pub slots : Becomes old_map new_map slot (live_at old_map slot) None
