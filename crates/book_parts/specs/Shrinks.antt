-- What a shrink asks of a book's index, cells and map, and what it and a recycling change of them.
use Rattle.std.specs.Prelude.{◌≡◌, ◌≢◌, ◌<◌, ℕ, ◌==◌, ◌&&◌, not, Bool, true, false, if◌then◌else◌, List, length, filter, map, AllPairs, Some, None, is_some, slice_set}
use Rattle.std.specs.Option.{option_map_or}
use Rattle.std.specs.List.Sorted.{IsStrictlyIncreasing}
use Rattle.slot_list.specs.declared.Place.{Place}
use Rattle.slot_list.specs.declared.Place.TheVariants.{Cached, Stored}
use Rattle.slot_list.specs.Versions.{at}
use Rattle.accounts_index.specs.Index.{Index, kept}
use Rattle.vec_scan.specs.Image.{Image, Placed}
use Rattle.vec_scan.specs.Seal.{offsets_of}
use Rattle.cell_table.specs.declared.phase.Phase.{Phase}
use Rattle.cell_table.specs.declared.phase.Phase.TheVariants.{Free}
use Rattle.cell_table.specs.Phases.{has_id, is_filling, is_live, pins_of, value_of, pinned, unpinned, retired, published, recycled}
use Rattle.cell_table.specs.Cells.{Table, Begins, cell_at}
use Rattle.storage_map.specs.declared.entry.Live.{Live}
use Rattle.storage_map.specs.Slots as maps
use Rattle.storage_map.specs.Slots.{Slots, live_at, begun_at, begun_with, Becomes}
use Rattle.adb_model.specs.Lists.{among}
use Rattle.adb_model.specs.State.{Row, Filling, Storage, Shrink, State}
use Rattle.adb_model.specs.Presence.{has_row}
use Rattle.adb_model.specs.Storages.{bytes_of, storage_with, open_shrink}
use Rattle.adb_model.specs.Laws.{SameRows}
use Rattle.book_parts.specs.Parts.{Shared}
use Rattle.book_parts.specs.Reflects.{indexed}
use Rattle.book_parts.specs.Flushes.{is_in, place_of, moved}

-- the record stands at this place of this cell
abbrev pub is_at : ℕ → ℕ → Place → Bool
is_at cell offset Cached = false
is_at cell offset (Stored c o) = c == cell && o == offset

-- the index finds the row's key in the slot just where the row stands in the cell
abbrev pub is_found_there : Index → ℕ → ℕ → Placed → Bool
is_found_there index slot cell placed = option_map_or (λ v. is_at cell placed.offset v.place) (at slot (kept index placed.row.key).versions) false

-- it finds no version of the row's key in the slot
abbrev pub is_dead : Index → ℕ → Placed → Bool
is_dead index slot placed = not (is_some (at slot (kept index placed.row.key).versions))

-- the rows of the image that a copy of the slot's storage has
abbrev pub copied_rows : Index → ℕ → ℕ → Image → List Row
copied_rows index slot cell image = map (λ placed. placed.row) (filter (is_found_there index slot cell) image.rows)

-- those whose keys it leaves out
abbrev pub dead_rows : Index → ℕ → Image → List Row
dead_rows index slot image = map (λ placed. placed.row) (filter (is_dead index slot) image.rows)

-- the slot's storage in use, in whose image the records stand at rising places
pub record IsInUse (slot : ℕ) (live : Live) (image : Shared) (cells : Table Shared) (slots : Slots) : Type 0 where
  pub entry : live_at slots slot ≡ Some live
  pub filled : value_of (cell_at cells.cells live.cell) ≡ Some image
  pub places : IsStrictlyIncreasing (offsets_of image.value.rows)

-- a shrink in hand: its slot, the ids of the storage and of its copy, and the bytes and the rows of the copy; and rows whose keys it leaves out
pub record Copy : Type 0 where
  pub slot : ℕ
  pub old : ℕ
  pub id : ℕ
  pub bytes : ℕ
  pub rows : List Row
  pub dead : List Row

-- what is copied of the slot's storage in the cell, which has the image, under a new id
abbrev pub copy_of : Index → ℕ → ℕ → Image → ℕ → Copy
copy_of index slot cell image id = record {
  slot = slot;
  old = image.id;
  id = id;
  bytes = bytes_of (copied_rows index slot cell image);
  rows = copied_rows index slot cell image;
  dead = dead_rows index slot image;
}

-- its shrink
abbrev pub shrink_of : Copy → Shrink
shrink_of copy = record { slot = copy.slot; old = copy.old; new = copy.id }

-- the storage that it fills
abbrev pub storage_of : Copy → Storage
storage_of copy = record { id = copy.id; slot = copy.slot; rows = copy.rows; bytes = copy.bytes; phase = Filling }

-- the shrink in hand is the one of its slot that is open in the state, between these storages, and the keys of the old one are copied or left out
pub record IsOpenCopy (copy : Copy) (m : State) : Type 0 where
  pub opened : open_shrink m copy.slot ≡ Some (shrink_of copy)
  pub old : Storage
  pub new : Storage
  pub old_there : storage_with m copy.old ≡ Some old
  pub new_there : storage_with m copy.id ≡ Some new
  pub same : SameRows copy.rows new.rows
  pub differ : AllPairs (λ r q. r.key ≢ q.key) copy.rows
  pub left : (k : List ℕ) → has_row k copy.dead ≡ (has_row k old.rows && not (has_row k copy.rows))

-- the table with another phase of one cell
abbrev pub with_phase : (Phase Shared → Phase Shared) → ℕ → Table Shared → Table Shared
with_phase change cell table = record table { cells = slice_set table.cells cell (change (cell_at table.cells cell)) }

-- a shrink has begun: a cell is being filled under the id with bytes of these rows, the old storage's cell has one pin more, and all else is as before
pub record ShrinkBegins (slot id from cell : ℕ) (copied : List Row) (old_cells new_cells : Table Shared) (old_map new_map : Slots) : Type 0 where
  pub filling : Table Shared
  pub begun : Begins old_cells filling id (bytes_of copied) cell
  pub pinned : new_cells ≡ with_phase pinned from filling
  pub slots : Becomes old_map new_map slot (live_at old_map slot) (Some (begun_with cell (length copied)))

-- the shrink is open in the parts: its copy fills a cell, and the old storage's cell is pinned
pub record IsCopyIn (copy : Copy) (from cell : ℕ) (cells : Table Shared) (slots : Slots) : Type 0 where
  pub begun : begun_at slots copy.slot ≡ Some (begun_with cell (length copy.rows))
  pub of_id : has_id copy.id (cell_at cells.cells cell) ≡ true
  pub fills : is_filling (cell_at cells.cells cell) ≡ true
  pub of_old : has_id copy.old (cell_at cells.cells from) ≡ true
  pub pinned : 0 < pins_of (cell_at cells.cells from)
  pub in_use : (live : Live) → live_at slots copy.slot ≡ Some live → is_live (cell_at cells.cells live.cell) ≡ true
  pub differ : AllPairs (λ r q. r.key ≢ q.key) copy.rows

-- the slot's storage in use is in the cell
abbrev pub is_in_use_at : Slots → ℕ → ℕ → Bool
is_in_use_at slots slot cell = option_map_or (λ live. live.cell == cell) (live_at slots slot) false

-- the rows' versions in the slot that are there still are found at their places in the cell, and the dead keys are held no longer
pub record Rehomes (slot cell : ℕ) (rows : List Row) (places : List ℕ) (dead : List Row) (old new : Index) : Type 0 where
  pub versions : (k : List ℕ) (s : ℕ) → indexed new s k ≡ moved cell (if slot == s then place_of rows places k else None) (indexed old s k)
  pub held : (k : List ℕ) (s : ℕ) → among s (kept new k).held ≡ (not (is_in slot dead s k) && among s (kept old k).held)
  pub expected : (k : List ℕ) (s : ℕ) → among s (kept new k).expected ≡ among s (kept old k).expected

-- the copy took the old storage's place: the old cell has one pin fewer and is retired, and its own has the image, in which the rows stand at these places
pub record ShrinkInstalls (copy : Copy) (from cell : ℕ) (image : Shared) (places : List ℕ) (old_index new_index : Index) (old_cells new_cells : Table Shared) (old_map new_map : Slots) : Type 0 where
  pub index : Rehomes copy.slot cell copy.rows places copy.dead old_index new_index
  pub cells : new_cells ≡ with_phase (published image) cell (with_phase retired from (with_phase unpinned from old_cells))
  pub slots : Becomes old_map new_map copy.slot (maps.published (live_at old_map copy.slot) (begun_at old_map copy.slot)) None

-- the copy was given up: the old cell has one pin fewer, and its own is free
pub record ShrinkLeaves (slot from cell : ℕ) (old_cells new_cells : Table Shared) (old_map new_map : Slots) : Type 0 where
  pub cells : new_cells ≡ with_phase (λ phase. Free) cell (with_phase unpinned from old_cells)
  pub slots : Becomes old_map new_map slot (live_at old_map slot) None

-- every retired cell without pins is free
abbrev pub Recycles : Table Shared → Table Shared → Type 0
Recycles old new = new ≡ record old { cells = map recycled old.cells }
