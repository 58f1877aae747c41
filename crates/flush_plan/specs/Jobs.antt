-- What contracts see of a flush in hand.
use Rattle.std.specs.Prelude.{◌≡◌, ℕ, List, map, Some}
use Rattle.adb_model.specs.State.{Row, Filling, Storage, State}
use Rattle.adb_model.specs.Storages.{open_flush}
use Rattle.vec_scan.specs.Image.{Image}
use Rattle.vec_scan.specs.Seal.{row_there}

-- the slot, the id of its storage, and the bytes and the rows that it writes
pub record Job : Type 0 where
  pub slot : ℕ
  pub id : ℕ
  pub bytes : ℕ
  pub rows : List Row

-- each place is that of its row in the image
abbrev pub StandAt : Image → List ℕ → List Row → Type 0
StandAt image places rows = map (row_there image.rows) places ≡ map Some rows

-- the storage that the flush is filling
abbrev pub storage_of : Job → Storage
storage_of job = record { id = job.id; slot = job.slot; rows = job.rows; bytes = job.bytes; phase = Filling }

-- the flush in hand is the one of its slot that is open in the state
abbrev pub IsOpenJob : Job → State → Type 0
IsOpenJob job m = open_flush m job.slot ≡ Some (storage_of job)
