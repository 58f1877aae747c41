-- Why a call of a directory ended without an answer, and its count of faults.
use Rattle.std.specs.Prelude.{◌≡◌, ℕ, ◌≤◌, Bool, true, false, List, codes, Option, IfSome, is_none, not, ◌&&◌, if◌then◌else◌}
use Rattle.std.specs.declared.result.Result.{Result}
use Rattle.std.specs.declared.result.Result.TheVariants.{Ok, Err}
use Rattle.stream_io.specs.Stream.{Rose, raised}
use Rattle.dir_io.specs.declared.fault.DirError.{DirError}
use Rattle.dir_io.specs.declared.fault.DirError.TheVariants.{Missing, Failed, NoMemory}
use Rattle.dir_io.specs.Files.{Files, file_of}

-- an error in words
abbrev pub error_text : DirError → List ℕ
error_text Missing = codes "no file of this name"
error_text Failed = codes "a call of the directory failed"
error_text NoMemory = codes "no memory"

-- the call answered that there is no such file
abbrev pub is_missing : {T : Type 0} → Result T DirError → Bool
is_missing (Ok x) = false
is_missing (Err Missing) = true
is_missing (Err Failed) = false
is_missing (Err NoMemory) = false

-- the call answered that it failed
abbrev pub is_failed : {T : Type 0} → Result T DirError → Bool
is_failed (Ok x) = false
is_failed (Err Missing) = false
is_failed (Err Failed) = true
is_failed (Err NoMemory) = false

-- a count of faults after a call that answered this
abbrev pub faults_then : {T : Type 0} → ℕ → Result T DirError → ℕ
faults_then before result = if is_failed result then raised before else before

-- a count of faults does not fall; a call fails only where it rose, and answers anything else only where it did not
pub record HasCause {T : Type 0} (before now : ℕ) (result : Result T DirError) : Type 0 where
  pub later : before ≤ now
  pub failed : is_failed result ≡ true → Rose before now
  pub kept : is_failed result ≡ false → now ≡ before

-- where the files are told: missing is answered exactly where there is no file of this name and the call did not fail
abbrev pub MissingIffNone : {T : Type 0} → Option Files → List ℕ → Result T DirError → Type 0
MissingIffNone files name result = IfSome files (λ told. is_missing result ≡ (is_none (file_of told name) && not (is_failed result)))
