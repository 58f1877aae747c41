-- What a reclaim asks of a book's parts, and what it changes of them.
use Rattle.std.specs.Prelude.{◌≡◌, ℕ, ◌<◌, ◌≤◌, ◌&&◌, not, Bool, true, false, List, Option, Some, None, IsSome, IsTrue, IsFalse, slice_set}
use Rattle.std.specs.Option.{option_map_or}
use Rattle.slot_list.specs.declared.Version.{Version}
use Rattle.slot_list.specs.Versions.{at, without}
use Rattle.accounts_index.specs.Index.{Index, kept, is_stored, IsWith}
use Rattle.vec_scan.specs.Seal.{rows_in}
use Rattle.cell_table.specs.Phases.{has_id, is_live, retired}
use Rattle.cell_table.specs.Cells.{Table, cell_at}
use Rattle.storage_map.specs.Slots.{Slots, begun_at, Becomes}
use Rattle.adb_model.specs.Lists.{among}
use Rattle.adb_model.specs.State.{Row, Storage, State}
use Rattle.adb_model.specs.Storages.{live_storage}
use Rattle.adb_model.specs.Shrink.{named_in}
use Rattle.adb_model.specs.Sound.{IsSoundMidway}
use Rattle.adb_model.specs.Once.{IsOnce}
use Rattle.book_parts.specs.Parts.{Shared, Parts}
use Rattle.book_parts.specs.Flushes.{is_in}

-- what holds between the parts of a reclaim
pub record IsMidway (m : State) : Type 0 where
  pub sound : IsSoundMidway m
  pub once : IsOnce m

-- the version of the slot is in a storage
abbrev pub is_stored_at : List Version → ℕ → Bool
is_stored_at versions slot = option_map_or (λ v. is_stored v.place) (at slot versions) false

-- and is a tomb
abbrev pub is_stored_tomb : List Version → ℕ → Bool
is_stored_tomb versions slot = option_map_or (λ v. v.tomb && is_stored v.place) (at slot versions) false

-- a root up to the cleaned slot has one of the versions
pub record IsShadow (roots : List ℕ) (cleaned : ℕ) (versions : List Version) (root : ℕ) : Type 0 where
  pub is_root : IsTrue (among root roots)
  pub upto : root ≤ cleaned
  pub version : IsSome (at root versions)

-- the greatest such root, where there is one
abbrev pub IsNewestShadow : List ℕ → ℕ → List Version → Option ℕ → Type 0
IsNewestShadow roots cleaned versions None = (r : ℕ) → IsShadow roots cleaned versions r → ⊥
IsNewestShadow roots cleaned versions (Some root) =
    IsShadow roots cleaned versions root × ((r : ℕ) → root < r → IsShadow roots cleaned versions r → ⊥)

-- the version of the slot is a stored tomb, up to the cleaned slot, and in no lower slot the key has a version or is held
pub record IsLowestTomb (cleaned : ℕ) (versions : List Version) (held : List ℕ) (slot : ℕ) : Type 0 where
  pub tomb : IsTrue (is_stored_tomb versions slot)
  pub upto : slot ≤ cleaned
  pub lowest : (q : ℕ) → q < slot → (at q versions ≡ None) × IsFalse (among q held)

-- the key's version of the slot is gone, and all else is as before
abbrev pub DropsVersion : ℕ → List ℕ → Index → Index → Type 0
DropsVersion slot key old new = IsWith old new key (record (kept old key) { versions = without slot (kept old key).versions })

-- the rows' keys are held in the slot no longer, and all else is as before
pub record Unholds (slot : ℕ) (rows : List Row) (old new : Index) : Type 0 where
  pub versions : (k : List ℕ) → (kept new k).versions ≡ (kept old k).versions
  pub held : (k : List ℕ) (s : ℕ) → among s (kept new k).held ≡ (not (is_in slot rows s k) && among s (kept old k).held)
  pub expected : (k : List ℕ) → (kept new k).expected ≡ (kept old k).expected

-- the slot's storage in use has this cell, and no row of it is named
pub record IsEmptied (p : Parts) (m : State) (slot cell : ℕ) (t : Storage) : Type 0 where
  pub live : live_storage m slot ≡ Some t
  pub unnamed : named_in m slot ≡ 0
  pub there : has_id t.id (cell_at p.cells.cells cell) ≡ true
  pub in_use : is_live (cell_at p.cells.cells cell) ≡ true

-- the slot's storage has retired: its cell is retired, and the rows of its image are held no longer
pub record Retires (slot cell : ℕ) (image : Shared) (old_index new_index : Index) (old_cells new_cells : Table Shared) (old_map new_map : Slots) : Type 0 where
  pub index : Unholds slot (rows_in image.value) old_index new_index
  pub cells : new_cells ≡ record old_cells { cells = slice_set old_cells.cells cell (retired (cell_at old_cells.cells cell)) }
  pub slots : Becomes old_map new_map slot None (begun_at old_map slot)
