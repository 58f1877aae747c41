-- What contracts see of a directory in memory, which fails at listed calls, and of one over a folder.
use Rattle.std.specs.Prelude.{ℕ, Bool, List}
use Rattle.std.specs.declared.result.Result.{Result}
use Rattle.stream_io.specs.Stream.{raised}
use Rattle.stream_io.specs.Doubles.{Calls}
use Rattle.dir_io.specs.declared.fault.DirError.{DirError}
use Rattle.dir_io.specs.Files.{Files}
use Rattle.dir_io.specs.Faults.{faults_then}

-- a directory in memory: its files, its calls, and whether all that was written is synced
pub record DirState : Type 0 where
  pub files : Files
  pub calls : Calls
  pub synced : Bool

-- after one more call, which answered this
abbrev pub called : {T : Type 0} → Calls → Result T DirError → Calls
called calls result = record {
  made = raised calls.made;
  failing = calls.failing;
  faults = faults_then calls.faults result;
}

-- a directory over a folder: the folder's path, how often it failed, and whether all that was written is synced
pub record FolderState : Type 0 where
  pub path : List ℕ
  pub faults : ℕ
  pub synced : Bool
