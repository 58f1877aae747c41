-- What the writing of a snapshot does to the files of a directory.
use Rattle.std.specs.Prelude.{◌≡◌, ℕ, true, false, List, Option, Some, None, is_some, IfSome, IsSomeAnd, OnOk, Result, Ok, Err, ⊤}
use Rattle.std.specs.Option.{option_or}
use Rattle.dir_io.specs.Files.{Files, file_of, has_prefix}
use Rattle.snap_write.specs.declared.fault.SnapFault.{SnapFault}
use Rattle.snap_write.specs.declared.fault.SnapFault.TheVariants.{Exists, DirFault, NoMemory}
use Rattle.snap_write.specs.Faults.{HasSnapCause, is_exists}

-- no file's name begins with the prefix
abbrev pub HasNone : List ℕ → Files → Type 0
HasNone prefix files = (path : List ℕ) → has_prefix prefix path ≡ true → file_of files path ≡ None

-- some file's name does
abbrev pub HasSome : List ℕ → Files → Type 0
HasSome prefix files = (path : List ℕ) × (has_prefix prefix path ≡ true) × (is_some (file_of files path) ≡ true)

-- where the files are told: it was done only where none of them has the prefix, and `Exists` is answered only where one has
abbrev pub AnswersNew : {X : Type 0} → List ℕ → Option Files → Result X SnapFault → Type 0
AnswersNew prefix files (Ok x) = IfSome files (HasNone prefix)
AnswersNew prefix files (Err Exists) = IfSome files (HasSome prefix)
AnswersNew prefix files (Err DirFault) = ⊤
AnswersNew prefix files (Err NoMemory) = ⊤

-- files that were told are told again, and those whose names don't begin with the prefix are as they were
abbrev pub LeavesOutside : List ℕ → Option Files → Option Files → Type 0
LeavesOutside prefix None new = ⊤
LeavesOutside prefix (Some old) None = ⊥
LeavesOutside prefix (Some old) (Some new) = (path : List ℕ) → has_prefix prefix path ≡ false → file_of new path ≡ file_of old path

-- files that were told are told again, and this is so of them
abbrev pub StillTold : Option Files → Option Files → (Files → Type 0) → Type 0
StillTold old new P = IfSome old (λ _. IsSomeAnd new P)

-- files that were told are told again, with the added ones in place of what had their names, and all others as they were
abbrev pub Puts : Files → Option Files → Option Files → Type 0
Puts added None new = ⊤
Puts added (Some old) None = ⊥
Puts added (Some old) (Some new) = (path : List ℕ) → file_of new path ≡ option_or (file_of added path) (file_of old path)

-- files that were told are told again, and those of other names than the added ones' are as they were
abbrev pub TouchesOnly : Files → Option Files → Option Files → Type 0
TouchesOnly added None new = ⊤
TouchesOnly added (Some old) None = ⊥
TouchesOnly added (Some old) (Some new) = (path : List ℕ) → file_of added path ≡ None → file_of new path ≡ file_of old path

-- the added files stand, each with its bytes
abbrev pub HasFiles : Files → Files → Type 0
HasFiles added files = (path bytes : List ℕ) → file_of added path ≡ Some bytes → file_of files path ≡ Some bytes

-- files that were told are told again; where there was none of this name there is one only where the added ones stand
abbrev pub StandsLast : List ℕ → Files → Option Files → Option Files → Type 0
StandsLast name added None new = ⊤
StandsLast name added (Some old) None = ⊥
StandsLast name added (Some old) (Some new) = file_of old name ≡ None → is_some (file_of new name) ≡ true → HasFiles added new

-- a part of the writing: where it is done the files are added, and whatever it answers all others stay
pub record IsWriting {X : Type 0} (added : Files) (old new : Option Files) (before now : ℕ) (result : Result X SnapFault) : Type 0 where
  pub puts : OnOk result (Puts added old new)
  pub others : TouchesOnly added old new
  pub cause : HasSnapCause before now result
  pub not_there : is_exists result ≡ false
