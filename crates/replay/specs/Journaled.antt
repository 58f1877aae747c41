-- What a run of a script told its sink, and what it left in its directory.
use Rattle.std.specs.Prelude.{◌≡◌, ◌≢◌, ◌⊎◌, ℕ, List, [], ◌∷◌, ◌++◌, map, take, codes, Option, Some, None, option_map, IfSome, IsSomeAnd}
use Rattle.std.specs.Io.KnownBytes.{Appends}
use Rattle.stream_io.specs.Stream.{Rose, AppendsFront}
use Rattle.adb_model.specs.State.{State, fresh}
use Rattle.adb_model.specs.Opened as machine
use Rattle.adb_model.specs.Call.{Event}
use Rattle.adb_model.specs.History.{IsLegal}
use Rattle.adb_model.specs.Plays.{Plays}
use Rattle.dir_io.specs.Files.{Files}
use Rattle.field_codec.specs.Paths.{prefix_of}
use Rattle.snap_write.specs.Changes.{HasSome}
use Rattle.snap_write.specs.Snapshot.{HoldsSnapshot}
use Rattle.snap_open.specs.declared.fault.OpenFault.{OpenFault}
use Rattle.snap_open.specs.declared.fault.OpenFault.TheVariants as opens
use Rattle.snap_open.specs.Faults.{WhyNotOpened}
use Rattle.snap_open.specs.Texts.{open_fault_text}
use Rattle.script.specs.Text.{spaced}
use Rattle.script.specs.Said.{Line, Said, line_played, lines_played, budget_of, budget_line, whole_journal}
use Rattle.replay.specs.Saved.{snap_line, Begins, AreSaved, KeepsElsewhere, WhereTold}

-- ---- how a run goes

-- a snapshot that was opened: its slot, its images, and the further slots that are roots
pub record Opened : Type 0 where
  pub slot : ℕ
  pub images : List machine.Image
  pub more : List ℕ

-- the state before the first event
abbrev pub start_of : Said → Option Opened → State
start_of said None = fresh (budget_of said.budget) 1
start_of said (Some o) = machine.opened (budget_of said.budget) o.slot o.images o.more

-- the files hold the snapshot that the header names; without such a header nothing was opened
abbrev pub IsOpened : Option Files → Option (List ℕ) → Option Opened → Type 0
IsOpened files None o = o ≡ None
IsOpened files (Some name) o = IsSomeAnd o (λ s. IfSome files (λ told. HoldsSnapshot told name s.slot s.images s.more))

-- what the header opened, and a legal history from there that plays the lines
pub record Run (files : Option Files) (said : Said) : Type 0 where
  pub opened : Option Opened
  pub from : IsOpened files said.opened opened
  pub history : List Event
  pub legal : IsLegal (start_of said opened) history
  pub plays : Plays (lines_played said) history

-- the journal of a script with this history
abbrev pub journal_from : Said → Option Opened → List Event → List ℕ
journal_from said opened history = whole_journal said (option_map (λ o. o.slot) opened) history

-- ---- how it ends

-- all lines were played, the sink took the script's journal, each snapshot that began stands, and no other file changed
pub record PlayedAll (files files' : Option Files) (taken taken' : Option (List ℕ)) (said : Said) : Type 0 where
  pub run : Run files said
  pub whole : Appends taken taken' (journal_from said run.opened run.history)
  pub saves : WhereTold files files' (AreSaved (start_of said run.opened) said.lines run.history)
  pub others : WhereTold files files' (KeepsElsewhere said.lines run.history)

-- the sink took some of the front of the script's journal, and files changed only under the names of snapshots that began
pub record PlayedInPart (files files' : Option Files) (taken taken' : Option (List ℕ)) (said : Said) : Type 0 where
  pub run : Run files said
  pub front : AppendsFront taken taken' (journal_from said run.opened run.history)
  pub others : WhereTold files files' (KeepsElsewhere said.lines run.history)

-- the sink took some of the front of the line of the budget, and all files are as they were
pub record CutAtOnce (files files' : Option Files) (taken taken' : Option (List ℕ)) (said : Said) : Type 0 where
  pub front : AppendsFront taken taken' (budget_line said.budget)
  pub kept : files' ≡ files

-- the first of the lines were played in part
pub record CutLater (files files' : Option Files) (taken taken' : Option (List ℕ)) (said : Said) : Type 0 where
  pub first : List Line
  pub rest : List Line
  pub split : said.lines ≡ first ++ rest
  pub part : PlayedInPart files files' taken taken' (record said { lines = first })

-- the sink took some of the front of a journal that was due
abbrev pub CutShort : Option Files → Option Files → Option (List ℕ) → Option (List ℕ) → Said → Type 0
CutShort files files' taken taken' said = CutAtOnce files files' taken taken' said ⊎ CutLater files files' taken taken' said

-- the sink took these bytes and a last line or, where it failed, some of the front of this line
pub record EndsWith (taken taken' : Option (List ℕ)) (faults faults' : ℕ) (bytes line : List ℕ) : Type 0 where
  pub front : (count : ℕ) × Appends taken taken' (bytes ++ take count line)
  pub whole : ¬ (Rose faults faults') → Appends taken taken' (bytes ++ line)

-- the last lines of runs that were ended early
abbrev pub directory_fault_line : List ℕ
directory_fault_line = codes "adb: directory fault" ++ 10 ∷ []

unfoldable pub exists_line : List ℕ → List ℕ
exists_line name = spaced (codes "snapshot" ∷ name ∷ codes "exists" ∷ []) ++ 10 ∷ []

unfoldable pub not_opened_line : List ℕ → OpenFault → List ℕ
not_opened_line name fault = spaced (codes "open" ∷ name ∷ codes "=" ∷ open_fault_text fault ∷ []) ++ 10 ∷ []

-- the lines up to a snapshot that began were played; the earlier ones were saved, and this one was not
pub record Unwritten (files files' : Option Files) (said : Said) (name : List ℕ) : Type 0 where
  pub front : List Line
  pub lane : ℕ
  pub slot : ℕ
  pub rest : List Line
  pub split : said.lines ≡ (front ++ snap_line lane slot name ∷ []) ++ rest
  pub run : Run files (record said { lines = front ++ snap_line lane slot name ∷ [] })
  pub before : List Event
  pub after : List Event
  pub made : run.history ≡ before ++ after
  pub played : Plays (map line_played front) before
  pub begins : Begins lane slot after
  pub saves : WhereTold files files' (AreSaved (start_of said run.opened) front before)
  pub others : WhereTold files files' (KeepsElsewhere (front ++ snap_line lane slot name ∷ []) run.history)

-- its journal
abbrev pub journal_upto : {files files' : Option Files} {said : Said} {name : List ℕ} → Unwritten files files' said name → List ℕ
journal_upto {said = said} u = journal_from said u.run.opened u.run.history

-- since the directory failed
pub record LostSnapshot (files files' : Option Files) (taken taken' : Option (List ℕ)) (faults faults' : ℕ) (said : Said) : Type 0 where
  pub name : List ℕ
  pub unwritten : Unwritten files files' said name
  pub ends : EndsWith taken taken' faults faults' (journal_upto unwritten) directory_fault_line

-- since a file is there under its name; no other file than the earlier snapshots' changed
pub record SnapshotExists (files files' : Option Files) (taken taken' : Option (List ℕ)) (faults faults' : ℕ) (said : Said) : Type 0 where
  pub name : List ℕ
  pub unwritten : Unwritten files files' said name
  pub exists : IfSome files' (HasSome (prefix_of name))
  pub others : WhereTold files files' (KeepsElsewhere unwritten.front unwritten.before)
  pub ends : EndsWith taken taken' faults faults' (journal_upto unwritten) (exists_line name)

-- the snapshot that the header names was not opened, for this reason, and no line was played
pub record Unopened (files files' : Option Files) (said : Said) (name : List ℕ) (fault : OpenFault) : Type 0 where
  pub named : said.opened ≡ Some name
  pub why : IfSome files (λ told. WhyNotOpened told name (budget_of said.budget) fault)
  pub kept : files' ≡ files

-- since the directory failed
pub record NotOpened (files files' : Option Files) (taken taken' : Option (List ℕ)) (faults faults' : ℕ) (said : Said) : Type 0 where
  pub name : List ℕ
  pub unopened : Unopened files files' said name opens.DirFault
  pub ends : EndsWith taken taken' faults faults' (budget_line said.budget) directory_fault_line

-- the fault is one of the snapshot
abbrev pub IsRefusal : OpenFault → Type 0
IsRefusal fault = (fault ≢ opens.DirFault) × (fault ≢ opens.NoMemory)

-- since it is refused
pub record OpenRefused (files files' : Option Files) (taken taken' : Option (List ℕ)) (faults faults' : ℕ) (said : Said) : Type 0 where
  pub name : List ℕ
  pub fault : OpenFault
  pub refusal : IsRefusal fault
  pub unopened : Unopened files files' said name fault
  pub ends : EndsWith taken taken' faults faults' (budget_line said.budget) (not_opened_line name fault)

-- the directory failed while a snapshot was written or opened
abbrev pub DirectoryFailed : Option Files → Option Files → Option (List ℕ) → Option (List ℕ) → ℕ → ℕ → Said → Type 0
DirectoryFailed files files' taken taken' faults faults' said =
    LostSnapshot files files' taken taken' faults faults' said ⊎ NotOpened files files' taken taken' faults faults' said

-- a snapshot's name was there, or the snapshot that was to be opened is refused
abbrev pub SnapshotRefused : Option Files → Option Files → Option (List ℕ) → Option (List ℕ) → ℕ → ℕ → Said → Type 0
SnapshotRefused files files' taken taken' faults faults' said =
    SnapshotExists files files' taken taken' faults faults' said ⊎ OpenRefused files files' taken taken' faults faults' said

-- there is no other status
abbrev pub IsStatus : ℕ → Type 0
IsStatus n = (n ≡ 0) ⊎ ((n ≡ 4) ⊎ ((n ≡ 5) ⊎ ((n ≡ 6) ⊎ (n ≡ 7))))
