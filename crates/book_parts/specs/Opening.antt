-- What a book's parts are opened from, and what the opening of one image changes of them.
use Rattle.std.specs.Prelude.{◌≡◌, ◌<◌, ◌≤◌, ℕ, ◌+◌, ◌||◌, false, if◌then◌else◌, List, length, filter, map, All, AllPairs, Option, Some, None, option_map, slice_set}
use Rattle.std.specs.List.{enumerate_from}
use Rattle.std.specs.List.Sorted.{IsStrictlyIncreasing}
use Rattle.std.specs.Str.{bytes_eq}
use Rattle.slot_list.specs.declared.Place.TheVariants.{Stored}
use Rattle.accounts_index.specs.Index.{Index, kept}
use Rattle.vec_scan.specs.Image.{Image, Placed}
use Rattle.vec_scan.specs.Seal.{offsets_of, rows_in}
use Rattle.cell_table.specs.Phases.{published}
use Rattle.cell_table.specs.Cells.{Table, Begins, cell_at}
use Rattle.storage_map.specs.Slots.{Slots, Becomes}
use Rattle.adb_model.specs.Lists.{among, last, distinct}
use Rattle.adb_model.specs.Account.{is_tomb}
use Rattle.adb_model.specs.State.{Row}
use Rattle.adb_model.specs.Opened as machine
use Rattle.book_parts.specs.Parts.{Shared}
use Rattle.book_parts.specs.Reflects.{indexed}
use Rattle.book_parts.specs.Flushes.{is_in}
use Rattle.book_parts.specs.Snaps.{ids_of}

-- images that a book can be opened from at a slot: each has rows, their slots rise up to this one, and their ids are 1, 2, and so on
pub record AreOpenable (slot : ℕ) (images : List Image) : Type 0 where
  pub some : All (λ i. 0 < length i.rows) images
  pub rise : AllPairs (λ i j. i.slot < j.slot) images
  pub upto : All (λ i. i.slot ≤ slot) images
  pub ids : ids_of images ≡ map (λ n. n.0) (enumerate_from 1 images)

-- further slots that become roots: they rise up to the slot, and none is an image's
pub record AreFurther (slot : ℕ) (images : List Image) (more : List ℕ) : Type 0 where
  pub rise : IsStrictlyIncreasing more
  pub upto : All (λ s. s ≤ slot) more
  pub apart : All (λ i. among i.slot more ≡ false) images

-- the sizes of images, in bytes
abbrev pub sizes_of : List Image → List ℕ
sizes_of images = map (λ i. length i.bytes) images

-- what the next image has of a state that is opened at the slot, after these
pub record MayFollow (slot : ℕ) (images : List machine.Image) (image : Image) : Type 0 where
  pub some : 0 < length image.rows
  pub above : All (λ i. i.slot < image.slot) images
  pub upto : image.slot ≤ slot
  pub id : image.id ≡ length images + 1

-- the last row of a key, with its place
abbrev pub last_placed : List Placed → List ℕ → Option Placed
last_placed placed k = last (filter (λ p. bytes_eq p.row.key k) placed)

-- how many different keys rows have
abbrev pub distinct_keys : List Row → ℕ
distinct_keys rows = length (distinct bytes_eq (map (λ r. r.key) rows))

-- the keys of a cell's rows have versions in the slot, found where their last rows stand, and are held there, and all else is as before
pub record Indexes (slot cell : ℕ) (placed : List Placed) (old new : Index) : Type 0 where
  pub versions : (k : List ℕ) (s : ℕ) → indexed new s k
      ≡ (if is_in slot (map (λ p. p.row) placed) s k then option_map (λ p. (is_tomb p.row.account, Stored cell p.offset)) (last_placed placed k) else indexed old s k)
  pub held : (k : List ℕ) (s : ℕ) → among s (kept new k).held ≡ (is_in slot (map (λ p. p.row) placed) s k || among s (kept old k).held)
  pub expected : (k : List ℕ) (s : ℕ) → among s (kept new k).expected ≡ among s (kept old k).expected

-- an image, in which the records stand at rising places, is in use in the cell: its rows are found, and its different keys are counted as alive
pub record ImageOpens (cell : ℕ) (image : Shared) (old_index new_index : Index) (old_cells new_cells : Table Shared) (old_map new_map : Slots) : Type 0 where
  pub places : IsStrictlyIncreasing (offsets_of image.value.rows)
  pub index : Indexes image.value.slot cell image.value.rows old_index new_index
  pub filling : Table Shared
  pub begun : Begins old_cells filling image.value.id (length image.value.bytes) cell
  pub cells : new_cells ≡ record filling { cells = slice_set filling.cells cell (published image (cell_at filling.cells cell)) }
  pub slots : Becomes old_map new_map image.value.slot (Some (record { cell = cell; alive = distinct_keys (rows_in image.value); total = length image.value.rows })) None
