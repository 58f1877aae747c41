-- Why a snapshot was not written.
use Rattle.std.specs.Prelude.{◌≡◌, ℕ, ◌≤◌, Bool, true, false, List, codes, Result, Err}
use Rattle.stream_io.specs.Stream.{Rose}
use Rattle.dir_io.specs.declared.fault.DirError.{DirError}
use Rattle.dir_io.specs.declared.fault.DirError.TheVariants as errors
use Rattle.snap_write.specs.declared.fault.SnapFault.{SnapFault}
use Rattle.snap_write.specs.declared.fault.SnapFault.TheVariants as faults

-- the error of a call of the directory, which is never that a file is missing
abbrev pub snap_fault_of : DirError → SnapFault
snap_fault_of errors.Missing = faults.DirFault
snap_fault_of errors.Failed = faults.DirFault
snap_fault_of errors.NoMemory = faults.NoMemory

-- a fault in words
abbrev pub snap_fault_text : SnapFault → List ℕ
snap_fault_text faults.Exists = codes "exists"
snap_fault_text faults.DirFault = codes "directory fault"
snap_fault_text faults.NoMemory = codes "no memory"

-- a file of the snapshot's name was there
abbrev pub is_exists : {X : Type 0} → Result X SnapFault → Bool
is_exists (Err faults.Exists) = true
is_exists _ = false

-- a call of the directory failed
abbrev pub is_dir_fault : {X : Type 0} → Result X SnapFault → Bool
is_dir_fault (Err faults.DirFault) = true
is_dir_fault _ = false

-- the directory's count does not fall; it failed only where the count rose, and anything else is answered only where it did not
pub record HasSnapCause {X : Type 0} (before now : ℕ) (result : Result X SnapFault) : Type 0 where
  pub later : before ≤ now
  pub failed : is_dir_fault result ≡ true → Rose before now
  pub kept : is_dir_fault result ≡ false → now ≡ before
