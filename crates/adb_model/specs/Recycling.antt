-- Words of the laws of storages that leave, and of those that stay.
use Rattle.std.specs.Prelude.{◌≡◌, ◌&&◌, not, Bool, ℕ, List, ◌++◌, filter, Some, IsTrue}
use Rattle.adb_model.specs.State.{Storage, State}
use Rattle.adb_model.specs.Storages.{is_retired, is_pinned, storage_with, without_id}
use Rattle.adb_model.specs.Call.{Event}
use Rattle.adb_model.specs.History.{state_after}

-- the storage is Retired and not pinned
abbrev pub is_spare : State → Storage → Bool
is_spare m t = is_retired t && not (is_pinned m t.id)

-- the storages that recycling frees
abbrev pub spares : State → List Storage
spares m = filter (is_spare m) m.storages

-- the storage leaves
abbrev pub without_storage : State → Storage → State
without_storage m t = record m { storages = without_id t.id m.storages }

-- the storage's id is of one with its slot, its rows and its bytes
pub record StandsIn (m : State) (t : Storage) : Type 0 where
  pub there : Storage
  pub with_id : storage_with m t.id ≡ Some there
  pub slot : there.slot ≡ t.slot
  pub rows : there.rows ≡ t.rows
  pub bytes : there.bytes ≡ t.bytes

-- the id is pinned in each state of the history
abbrev pub StaysPinned : State → List Event → ℕ → Type 0
StaysPinned m events id = (before after : List Event) → events ≡ before ++ after → IsTrue (is_pinned (state_after m before) id)
