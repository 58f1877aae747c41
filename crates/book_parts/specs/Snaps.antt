-- What a snapshot asks of a book's parts, and what it changes of the cells.
use Rattle.std.specs.Prelude.{◌≡◌, ◌≢◌, ◌<◌, ◌≤◌, ℕ, nat_le, ◌&&◌, Bool, true, List, [], ◌∷◌, map, All, AllPairs, Option, Some, None, is_some, option_map, option_and_then}
use Rattle.vec_scan.specs.Image.{Image}
use Rattle.write_cache.specs.Rows.{Cache, rows}
use Rattle.cell_table.specs.Phases.{has_id, is_live, pins_of, value_of, pinned, unpinned}
use Rattle.cell_table.specs.Cells.{Table, cell_at}
use Rattle.storage_map.specs.Slots.{Slots, live_at}
use Rattle.adb_model.specs.Lists.{among}
use Rattle.adb_model.specs.State.{Storage, State}
use Rattle.adb_model.specs.Storages.{storage_with}
use Rattle.book_parts.specs.Parts.{Shared}
use Rattle.book_parts.specs.Cells.{IsImageOf}
use Rattle.book_parts.specs.Shrinks.{with_phase}

-- the ids of images
abbrev pub ids_of : List Image → List ℕ
ids_of images = map (λ i. i.id) images

-- the image of the slot's storage in use
abbrev pub image_at : Table Shared → Slots → ℕ → Option Image
image_at cells slots s = option_and_then (λ live. option_map (λ image. image.value) (value_of (cell_at cells.cells live.cell))) (live_at slots s)

-- the images of the storages in use, by rising slot, of the slots that pass
pub record AreInUse (passes : ℕ → Bool) (cells : Table Shared) (slots : Slots) (images : List Image) : Type 0 where
  pub of : List ℕ
  pub rise : AllPairs (λ r s. r < s) of
  pub each : map (image_at cells slots) of ≡ map Some images
  pub all : (s : ℕ) → among s of ≡ (passes s && is_some (live_at slots s))

-- of the slots up to one
abbrev pub AreUpto : ℕ → Table Shared → Slots → List Image → Type 0
AreUpto slot cells slots images = AreInUse (λ s. nat_le s slot) cells slots images

-- the least root up to the slot that has a row in the cache
abbrev pub IsFirstUnflushed : List ℕ → Cache → ℕ → Option ℕ → Type 0
IsFirstUnflushed roots cache slot None = (q : ℕ) → q ≤ slot → among q roots ≡ true → rows cache q ≡ []
IsFirstUnflushed roots cache slot (Some r) =
    (among r roots ≡ true) × (r ≤ slot) × (rows cache r ≢ []) × ((q : ℕ) → q < r → among q roots ≡ true → rows cache q ≡ [])

-- no snapshot is open, and the slot is a root that is not below the cleaned slot, up to which each root is flushed
pub record MaySnap (snap : Option ℕ) (roots : List ℕ) (cleaned : ℕ) (cache : Cache) (slot : ℕ) : Type 0 where
  pub closed : snap ≡ None
  pub root : among slot roots ≡ true
  pub new : cleaned ≤ slot
  pub flushed : IsFirstUnflushed roots cache slot None

-- each image's id is that of a live cell
abbrev pub MayPin : List Image → Table Shared → Type 0
MayPin images cells = All (λ i. (cell : ℕ) × (has_id i.id (cell_at cells.cells cell) ≡ true) × (is_live (cell_at cells.cells cell) ≡ true)) images

-- the ids differ, and each is that of a cell that is pinned
pub record MayUnpin (images : List Image) (cells : Table Shared) : Type 0 where
  pub differ : AllPairs (λ i j. i.id ≢ j.id) images
  pub pinned : All (λ i. (cell : ℕ) × (has_id i.id (cell_at cells.cells cell) ≡ true) × (0 < pins_of (cell_at cells.cells cell))) images

-- the live cells with these ids are pinned once more, one after another
abbrev pub PinsEach : List ℕ → Table Shared → Table Shared → Type 0
PinsEach [] old new = new ≡ old
PinsEach (id ∷ ids) old new =
    (cell : ℕ) × (has_id id (cell_at old.cells cell) ≡ true) × (is_live (cell_at old.cells cell) ≡ true) × PinsEach ids (with_phase pinned cell old) new

-- they are pinned once less
abbrev pub UnpinsEach : List ℕ → Table Shared → Table Shared → Type 0
UnpinsEach [] old new = new ≡ old
UnpinsEach (id ∷ ids) old new =
    (cell : ℕ) × (has_id id (cell_at old.cells cell) ≡ true) × (0 < pins_of (cell_at old.cells cell)) × UnpinsEach ids (with_phase unpinned cell old) new

-- a snapshot in hand: its slot, and the images of its storages
pub record Snapshot : Type 0 where
  pub slot : ℕ
  pub storages : List Image

-- the snapshot in hand is the one that is open in the state, and its images are those of the storages, by rising slot up to its own
pub record IsOpenSnap (job : Snapshot) (m : State) : Type 0 where
  pub opened : m.snap ≡ Some (record { slot = job.slot; ids = ids_of job.storages })
  pub each : All (λ i. (t : Storage) × (storage_with m i.id ≡ Some t) × IsImageOf t i) job.storages
  pub rise : AllPairs (λ i j. i.slot < j.slot) job.storages
  pub upto : All (λ i. i.slot ≤ job.slot) job.storages
