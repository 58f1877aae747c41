-- Snapshots that the lines of a script leave among the files of a directory.
use Rattle.std.specs.Prelude.{◌≡◌, ℕ, List, [], ◌∷◌, ◌++◌, map, Bool, true, false, Option, Some, None, IfSome, Result, OnOk, All, ⊤}
use Rattle.adb_model.specs.State.{State}
use Rattle.adb_model.specs.Storages.{bytes_of}
use Rattle.adb_model.specs.Load.{answer}
use Rattle.adb_model.specs.Opened.{Image, opened}
use Rattle.adb_model.specs.Laws.{ShowLive, at_root}
use Rattle.adb_model.specs.Call.{Call, SnapBegin, Reply, SnapBegun, Event}
use Rattle.adb_model.specs.History.{state_after}
use Rattle.adb_model.specs.Plays.{Plays}
use Rattle.dir_io.specs.Files.{Files, file_of, has_prefix}
use Rattle.field_codec.specs.Paths.{prefix_of}
use Rattle.book_parts.specs.Snaps.{Snapshot}
use Rattle.vec_scan.specs.Shown.{shown}
use Rattle.snap_write.specs.declared.fault.SnapFault.{SnapFault}
use Rattle.snap_write.specs.Changes.{AnswersNew, HasNone, HasSome, LeavesOutside, StillTold}
use Rattle.snap_write.specs.Faults.{is_exists}
use Rattle.snap_write.specs.Written.{with_rows, slots_without_rows}
use Rattle.snap_write.specs.Snapshot.{HoldsSnapshot}
use Rattle.script.specs.Said.{Snap, Line, line_played}

-- a pass made the call and was told the reply
abbrev pub event_of : ℕ → Call → Reply → Event
event_of pass call reply = record { pass = pass; call = call; reply = reply }

-- a line that asks for the snapshot of a slot under a name
abbrev pub snap_line : ℕ → ℕ → List ℕ → Line
snap_line lane slot name = record { lane = lane; order = Snap slot name }

-- the first of the events tells that a snapshot of the slot began
abbrev pub Begins : ℕ → ℕ → List Event → Type 0
Begins lane slot events = (storages : ℕ) × (after : List Event) × (events ≡ event_of lane (SnapBegin slot) (SnapBegun storages) ∷ after)

-- the snapshot that one of the lines asks for began, after these events of the lines in front of it
pub record HasBegun (lines : List Line) (history : List Event) (slot : ℕ) (name : List ℕ) (before : List Event) : Type 0 where
  pub front : List Line
  pub lane : ℕ
  pub rest : List Line
  pub after : List Event
  pub split : lines ≡ front ++ snap_line lane slot name ∷ rest
  pub made : history ≡ before ++ after
  pub played : Plays (map line_played front) before
  pub begins : Begins lane slot after

-- a line asks for this snapshot, and it began with the line's events
pub record BeginsSnap (line : Line) (events : List Event) (slot : ℕ) (name : List ℕ) : Type 0 where
  pub lane : ℕ
  pub is : line ≡ snap_line lane slot name
  pub begins : Begins lane slot events

-- the files hold, as the snapshot of a slot, the storages that are in use in a state up to the slot, with the bytes of their rows;
-- what is opened from them answers at the slot as this state does
pub record HoldsLive (files : Files) (name : List ℕ) (slot : ℕ) (m : State) : Type 0 where
  pub images : List Image
  pub holds : HoldsSnapshot files name slot images []
  pub live : ShowLive m slot images
  pub bytes : All (λ i. i.bytes ≡ bytes_of i.rows) images
  pub answers : (budget : ℕ) (key : List ℕ) → answer (opened budget slot images []) (at_root slot) key ≡ answer m (at_root slot) key

-- the snapshot in hand was written under a name; where it was not, all files but those under the name are as they were, and so
-- are these, where there were some
pub record Writes (job : Snapshot) (name : List ℕ) (files files' : Option Files) (result : Result (Unit {0}) SnapFault) : Type 0 where
  pub holds : OnOk result (StillTold files files' (λ told. HoldsSnapshot told name job.slot (with_rows (map shown job.storages)) (slots_without_rows (map shown job.storages))))
  pub exact : AnswersNew (prefix_of name) files result
  pub there : IfSome files (λ told. HasSome (prefix_of name) told → files' ≡ files)
  pub exists : is_exists result ≡ true → files' ≡ files
  pub others : LeavesOutside (prefix_of name) files files'

-- under the name of each snapshot that began there was no file, and no name came twice
pub record AreNew (lines : List Line) (history : List Event) (files : Files) : Type 0 where
  pub none : (slot : ℕ) (name : List ℕ) (before : List Event) → HasBegun lines history slot name before → HasNone (prefix_of name) files
  pub once : (slot other : ℕ) (name : List ℕ) (before later : List Event)
      → HasBegun lines history slot name before → HasBegun lines history other name later → before ≡ later

-- each snapshot that began stands among the files, as it was at its begin
abbrev pub AllStand : State → List Line → List Event → Files → Type 0
AllStand start lines history files =
    (slot : ℕ) (name : List ℕ) (before : List Event) → HasBegun lines history slot name before → HoldsLive files name slot (state_after start before)

-- the snapshots that began were new, and stand
pub record AreSaved (start : State) (lines : List Line) (history : List Event) (old new : Files) : Type 0 where
  pub fresh : AreNew lines history old
  pub stand : AllStand start lines history new

-- the path is under no name of a snapshot that began
abbrev pub IsElsewhere : List Line → List Event → List ℕ → Type 0
IsElsewhere lines history path =
    (slot : ℕ) (name : List ℕ) (before : List Event) → HasBegun lines history slot name before → has_prefix (prefix_of name) path ≡ false

-- all files but those under the names of snapshots that began are as they were
abbrev pub KeepsElsewhere : List Line → List Event → Files → Files → Type 0
KeepsElsewhere lines history old new = (path : List ℕ) → IsElsewhere lines history path → file_of new path ≡ file_of old path

-- files that were told are told again, and this is so of both
abbrev pub WhereTold : Option Files → Option Files → (Files → Files → Type 0) → Type 0
WhereTold None new P = ⊤
WhereTold (Some old) None P = ⊥
WhereTold (Some old) (Some new) P = P old new
