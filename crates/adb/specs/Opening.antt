-- The accounts that a snapshot has.
use Rattle.std.specs.Prelude.{◌≡◌, ◌≢◌, ◌⊎◌, ℕ, ◌≤◌, List, [], ◌++◌, Option, Some, None, IfSome, IfErr, OnOk, Result, option_map, All, AllPairs, Contains, flat_map}
use Rattle.std.specs.declared.cmp.Ordering.TheVariants.{Less}
use Rattle.std.specs.Io.KnownBytes.{Appends, Keeps}
use Rattle.stream_io.specs.Stream.{Rose, AppendsFront}
use Rattle.adb_model.specs.declared.key.Key.{Key}
use Rattle.adb_model.specs.State.{Stored, State}
use Rattle.adb_model.specs.Opened as machine
use Rattle.adb_model.specs.Laws.{at_root}
use Rattle.adb_model.specs.Load.{answer}
use Rattle.adb_model.specs.Reclaimable.{key_cmp}
use Rattle.dir_io.specs.Files.{Files}
use Rattle.book.specs.declared.loading.Answer.{Answer}
use Rattle.book.specs.Answers.{told}
use Rattle.script.specs.Text.{account_line}
use Rattle.script.specs.Said.{default_budget, open_line}
use Rattle.replay.specs.declared.stops.Stop.{Stop}
use Rattle.replay.specs.declared.stops.Stop.TheVariants as stops
use Rattle.replay.specs.Journaled.{Opened, IsOpened, IsRefusal, EndsWith, directory_fault_line, not_opened_line}
use Rattle.snap_open.specs.declared.fault.OpenFault.{OpenFault}
use Rattle.snap_open.specs.declared.fault.OpenFault.TheVariants as opens
use Rattle.snap_open.specs.Faults.{WhyNotOpened}
use Rattle.adb.specs.declared.ending.End.{End}
use Rattle.adb.specs.declared.ending.End.TheVariants as ends

-- ---- which accounts a snapshot has

-- the accounts that a state has at a slot: by rising key, each is the answer of its key, and each key that has an answer is there
pub record AreAnswers (m : State) (slot : ℕ) (found : List Stored) : Type 0 where
  pub rise : AllPairs (λ t u. key_cmp t.key u.key ≡ Less) found
  pub each : All (λ t. answer m (at_root slot) t.key ≡ Some t) found
  pub all : (key : List ℕ) (t : Stored) → answer m (at_root slot) key ≡ Some t → Contains found t

-- the line of an account
abbrev pub line_of : Stored → List ℕ
line_of t = account_line t.key t.slot t.account

-- the lines of a snapshot that was opened, and of its accounts
abbrev pub listing : List ℕ → ℕ → List Stored → List ℕ
listing name slot found = open_line name slot ++ flat_map line_of found

-- the sink took the line of a snapshot and those of all its accounts
abbrev pub ListedAll : State → List ℕ → ℕ → Option (List ℕ) → Option (List ℕ) → Type 0
ListedAll m name slot taken taken' = (found : List Stored) × AreAnswers m slot found × Appends taken taken' (listing name slot found)

-- the sink took some of the front of the line of a snapshot, or of this and the lines of its accounts
abbrev pub ListedFront : State → List ℕ → ℕ → Option (List ℕ) → Option (List ℕ) → Type 0
ListedFront m name slot taken taken' =
    AppendsFront taken taken' (open_line name slot)
    ⊎ ((found : List Stored) × AreAnswers m slot found × AppendsFront taken taken' (listing name slot found))

-- the files hold a snapshot of this name, and this is so of its slot and of the state that is opened from it
pub record OpensTo (files : Option Files) (name : List ℕ) (Is : ℕ → State → Type 0) : Type 0 where
  pub opened : Opened
  pub from : IsOpened files (Some name) (Some opened)
  pub is : Is opened.slot (machine.opened default_budget opened.slot opened.images opened.more)

-- the sink took the line of the snapshot and then those of all its accounts
abbrev pub ListsAll : Option Files → Option (List ℕ) → Option (List ℕ) → List ℕ → Type 0
ListsAll files taken taken' name = OpensTo files name (λ slot m. ListedAll m name slot taken taken')

-- the sink took some of the front of the line of the snapshot and of those of its accounts
abbrev pub ListsFront : Option Files → Option (List ℕ) → Option (List ℕ) → List ℕ → Type 0
ListsFront files taken taken' name = OpensTo files name (λ slot m. ListedFront m name slot taken taken')

-- the files hold no snapshot of this name that can be opened, as the last line says
pub record OpenRefused (files : Option Files) (taken taken' : Option (List ℕ)) (faults faults' : ℕ) (name : List ℕ) : Type 0 where
  pub fault : OpenFault
  pub refusal : IsRefusal fault
  pub why : IfSome files (λ told. WhyNotOpened told name default_budget fault)
  pub ends : EndsWith taken taken' faults faults' [] (not_opened_line name fault)

-- the line of the answer of a key, where it has one
abbrev pub answer_line : Option Stored → List ℕ
answer_line None = []
answer_line (Some t) = line_of t

-- the line of what was read of a key
abbrev pub read_line : Key × Option Answer → List ℕ
read_line read = answer_line (option_map (told read.0.0) read.1)

-- ---- how the command ends

-- the sink's count rose where the sink failed, and stands still where memory was wanted
abbrev pub StopCause : ℕ → ℕ → Stop → Type 0
StopCause k k' stops.NoMemory = k' ≡ k
StopCause k k' stops.SinkFault = Rose k k'

-- it does not fall, and rose only for that cause
pub record HasStopCause {X : Type 0} (k k' : ℕ) (result : Result X Stop) : Type 0 where
  pub later : k ≤ k'
  pub kept : OnOk result (k' ≡ k)
  pub stopped : IfErr result (StopCause k k')

-- how the command ended, by its cause
abbrev pub OpenEnded : Option Files → Option (List ℕ) → Option (List ℕ) → ℕ → ℕ → List ℕ → End → Type 0
OpenEnded files taken taken' k k' name ends.Done = ListsAll files taken taken' name
OpenEnded files taken taken' k k' name ends.SinkFault = ListsFront files taken taken' name
OpenEnded files taken taken' k k' name ends.DirFault = EndsWith taken taken' k k' [] directory_fault_line
OpenEnded files taken taken' k k' name ends.NoMemory = Keeps taken taken' ⊎ ListsFront files taken taken' name
OpenEnded files taken taken' k k' name ends.SnapRefused = OpenRefused files taken taken' k k' name
OpenEnded files taken taken' k k' name ends.Usage = ⊥
OpenEnded files taken taken' k k' name ends.TooLong = ⊥
OpenEnded files taken taken' k k' name ends.Refused = ⊥
OpenEnded files taken taken' k k' name ends.ReadFault = ⊥

-- what is made of a snapshot that was not opened
abbrev pub NotOpened : List ℕ → OpenFault → Option (List ℕ) → Option (List ℕ) → ℕ → ℕ → End → Type 0
NotOpened name fault taken taken' k k' ends.DirFault = (fault ≡ opens.DirFault) × EndsWith taken taken' k k' [] directory_fault_line
NotOpened name fault taken taken' k k' ends.NoMemory = (fault ≢ opens.DirFault) × (taken' ≡ taken) × (k' ≡ k)
NotOpened name fault taken taken' k k' ends.SnapRefused = IsRefusal fault × EndsWith taken taken' k k' [] (not_opened_line name fault)
NotOpened name fault taken taken' k k' ends.Done = ⊥
NotOpened name fault taken taken' k k' ends.SinkFault = ⊥
NotOpened name fault taken taken' k k' ends.Usage = ⊥
NotOpened name fault taken taken' k k' ends.TooLong = ⊥
NotOpened name fault taken taken' k k' ends.Refused = ⊥
NotOpened name fault taken taken' k k' ends.ReadFault = ⊥
