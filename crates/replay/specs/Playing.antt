-- A player that has played some lines, and the order and the call at hand.
use Rattle.std.specs.Prelude.{◌≡◌, ◌⊎◌, ℕ, ◌≤◌, true, false, List, [], ◌∷◌, ◌++◌, Some, None, IfSome, IfErr, OnOk, string_bytes}
use Rattle.std.specs.declared.option.Option.{Option}
use Rattle.std.specs.declared.result.Result.{Result}
use Rattle.std.specs.declared.result.Result.TheVariants.{Ok, Err}
use Rattle.std.specs.Io.KnownBytes.{Appends}
use Rattle.stream_io.specs.Stream.{Rose, AppendsFront}
use Rattle.adb_model.specs.State.{State}
use Rattle.adb_model.specs.Call.{Call, Reply, Event}
use Rattle.adb_model.specs.History.{state_after, IsLegal}
use Rattle.adb_model.specs.Opened as machine
use Rattle.adb_model.specs.Plays as plays
use Rattle.adb_model.specs.Plays.{Follow}
use Rattle.dir_io.specs.Files.{Files, file_of, has_prefix}
use Rattle.text_fields.specs.Names.{is_name}
use Rattle.field_codec.specs.Paths.{prefix_of}
use Rattle.snap_write.specs.Changes.{HasNone, HasSome, LeavesOutside}
use Rattle.script.specs.Said.{Order, Plain, Get, Flush, Clean, Shrink, Snap, Line, Said, line_played, open_line}
use Rattle.script.specs.Text.{text_of, journal_of}
use Rattle.replay.specs.Standing.{IsLane, IsOfFewKeys, Lanes, PlayerStands}
use Rattle.replay.specs.Saved.{event_of, snap_line, Begins, BeginsSnap, HoldsLive, WhereTold}
use Rattle.snap_open.specs.declared.fault.OpenFault.{OpenFault}
use Rattle.snap_open.specs.declared.fault.OpenFault.TheVariants as opens
use Rattle.snap_open.specs.Faults.{WhyNotOpened}
use Rattle.replay.specs.Journaled.{Opened, IsOpened, IsRefusal, start_of, exists_line, not_opened_line, PlayedAll}
use Rattle.snap_write.specs.declared.fault.SnapFault.{SnapFault}
use Rattle.snap_write.specs.declared.fault.SnapFault.TheVariants as snaps
use Rattle.replay.specs.declared.stops.Stop.TheVariants as stops
use Rattle.replay.specs.declared.stops.Halt.{Halt}
use Rattle.replay.specs.declared.stops.Halt.TheVariants as halts

-- one to sixteen workers fill a flush's storage, a reclaim is asked for 1 to 256 keys, and a snapshot has a name
abbrev pub IsWithinLimits : Order → Type 0
IsWithinLimits (Plain call) = IsOfFewKeys call
IsWithinLimits (Get view key) = Unit {0}
IsWithinLimits (Flush slot workers) = (1 ≤ workers) × (workers ≤ 16)
IsWithinLimits (Clean upto) = Unit {0}
IsWithinLimits (Shrink slot) = Unit {0}
IsWithinLimits (Snap slot name) = is_name name ≡ true

-- the slot and the name of the snapshot that an order asks for, if it asks for one
abbrev pub snap_asked : Order → Option (ℕ × List ℕ)
snap_asked (Snap slot name) = Some (slot, name)
snap_asked order = None

-- the line is of a lane, and its order is within limits
abbrev pub IsPlayable : Line → Type 0
IsPlayable line = IsLane line.lane × IsWithinLimits line.order

-- a script's header
abbrev pub without_lines : Said → Said
without_lines said = record said { lines = [] }

-- the script's lines were played, and the player stands for their history
pub record HasPlayed (p : Lanes) (files files' : Option Files) (taken taken' : Option (List ℕ)) (said : Said) : Type 0 where
  pub done : PlayedAll files files' taken taken' said
  pub stands : PlayerStands p (start_of said done.run.opened) done.run.history

-- after a history the call was made and had this reply, the player stands for that, and the sink took its line
pub record PlayedCall (p : Lanes) (start : State) (history : List Event) (old new : Option (List ℕ)) (pass : ℕ) (call : Call) (reply : Reply) : Type 0 where
  pub stands : PlayerStands p start (history ++ event_of pass call reply ∷ [])
  pub line : Appends old new (text_of (event_of pass call reply))

-- after a history the sink took some of the front of the call's line
pub record CutCall (start : State) (history : List Event) (old new : Option (List ℕ)) (pass : ℕ) (call : Call) : Type 0 where
  pub reply : Reply
  pub legal : IsLegal start (history ++ event_of pass call reply ∷ [])
  pub front : AppendsFront old new (text_of (event_of pass call reply))

-- after a history the line's calls were made, the player stands for that, and the sink took their lines
pub record PlayedLine (p : Lanes) (start : State) (history : List Event) (old new : Option (List ℕ)) (line : plays.Line) : Type 0 where
  pub events : List Event
  pub follow : Follow line None events
  pub stands : PlayerStands p start (history ++ events)
  pub lines : Appends old new (journal_of events)

-- after a history the sink took some of the front of the lines of the line's calls
pub record CutLine (start : State) (history : List Event) (old new : Option (List ℕ)) (line : plays.Line) : Type 0 where
  pub events : List Event
  pub follow : Follow line None events
  pub legal : IsLegal start (history ++ events)
  pub front : AppendsFront old new (journal_of events)

-- a snapshot was new under its name, and stands there as it was in this state; files of other names are as they were
pub record SavesOne (m : State) (slot : ℕ) (name : List ℕ) (old new : Files) : Type 0 where
  pub fresh : HasNone (prefix_of name) old
  pub stand : HoldsLive new name slot m
  pub others : (path : List ℕ) → has_prefix (prefix_of name) path ≡ false → file_of new path ≡ file_of old path

-- what a line that was played left: all files as they were, or the snapshot that it asks for
pub data LeavesOf (m : State) (line : Line) (events : List Event) (files files' : Option Files) : Type 0 where
  quiet : ((slot : ℕ) (name : List ℕ) → BeginsSnap line events slot name → ⊥) → files' ≡ files → LeavesOf m line events files files'
  saved : (slot : ℕ) (name : List ℕ) → BeginsSnap line events slot name → WhereTold files files' (SavesOne m slot name) → LeavesOf m line events files files'

-- what a line that was cut left: all files as they were, or those of other names than its snapshot's
pub data TouchesOf (line : Line) (events : List Event) (files files' : Option Files) : Type 0 where
  untouched : files' ≡ files → TouchesOf line events files files'
  touched : (slot : ℕ) (name : List ℕ) → BeginsSnap line events slot name → LeavesOutside (prefix_of name) files files' → TouchesOf line events files files'

-- after a history the line was played, and left its snapshot, if it began one
pub record SavedLine (p : Lanes) (start : State) (history : List Event) (taken taken' : Option (List ℕ)) (files files' : Option Files) (line : Line) : Type 0 where
  pub played : PlayedLine p start history taken taken' (line_played line)
  pub left : LeavesOf (state_after start history) line played.events files files'

-- after a history the line was played in part
pub record CutSavedLine (start : State) (history : List Event) (taken taken' : Option (List ℕ)) (files files' : Option Files) (line : Line) : Type 0 where
  pub cut : CutLine start history taken taken' (line_played line)
  pub left : TouchesOf line cut.events files files'

-- after a history the line's calls were made, and the sink took their lines; the snapshot that it began was not written
pub record LostLine (start : State) (history : List Event) (taken taken' : Option (List ℕ)) (files files' : Option Files) (line : Line) (name : List ℕ) : Type 0 where
  pub lane : ℕ
  pub slot : ℕ
  pub is : line ≡ snap_line lane slot name
  pub events : List Event
  pub follow : Follow (line_played line) None events
  pub begins : Begins lane slot events
  pub legal : IsLegal start (history ++ events)
  pub lines : Appends taken taken' (journal_of events)
  pub others : LeavesOutside (prefix_of name) files files'
  pub there : IfSome files (λ told. HasSome (prefix_of name) told → files' ≡ files)

-- so it was, since a file is there under its name, as a text says
pub record FoundLine (start : State) (history : List Event) (taken taken' : Option (List ℕ)) (files files' : Option Files) (line : Line) (text : List ℕ) : Type 0 where
  pub name : List ℕ
  pub says : text ≡ exists_line name
  pub lost : LostLine start history taken taken' files files' line name
  pub exists : IfSome files (HasSome (prefix_of name))
  pub same : files' ≡ files

-- why a line was not played to its end, or not saved
abbrev pub HaltsLine : State → List Event → Option (List ℕ) → Option (List ℕ) → Option Files → Option Files → Line → Halt → Type 0
HaltsLine start history taken taken' files files' line (halts.Cut stop) = CutSavedLine start history taken taken' files files' line
HaltsLine start history taken taken' files files' line halts.DirFault = (name : List ℕ) × LostLine start history taken taken' files files' line name
HaltsLine start history taken taken' files files' line (halts.Refused text) = FoundLine start history taken taken' files files' line (string_bytes text)

-- what is made of the writing of a snapshot
abbrev pub Judges : List ℕ → Result (Unit {0}) SnapFault → Result (Unit {0}) Halt → Type 0
Judges name written (Ok u) = written ≡ Ok tt
Judges name written (Err (halts.Cut stops.NoMemory)) = Unit {0}
Judges name written (Err (halts.Cut stops.SinkFault)) = ⊥
Judges name written (Err halts.DirFault) = written ≡ Err snaps.DirFault
Judges name written (Err (halts.Refused line)) = (written ≡ Err snaps.Exists) × (string_bytes line ≡ exists_line name)

-- what is made of a snapshot that was not opened
abbrev pub HaltsOpening : List ℕ → OpenFault → Halt → Type 0
HaltsOpening name fault (halts.Cut stops.NoMemory) = Unit {0}
HaltsOpening name fault (halts.Cut stops.SinkFault) = ⊥
HaltsOpening name fault halts.DirFault = fault ≡ opens.DirFault
HaltsOpening name fault (halts.Refused line) = (string_bytes line ≡ not_opened_line name fault) × IsRefusal fault

-- a snapshot was opened, the player stands for its state, and the sink took its line
pub record HasOpened (p : Lanes) (files : Option Files) (taken taken' : Option (List ℕ)) (name : List ℕ) (budget : ℕ) : Type 0 where
  pub opened : Opened
  pub from : IsOpened files (Some name) (Some opened)
  pub stands : PlayerStands p (machine.opened budget opened.slot opened.images opened.more) []
  pub line : Appends taken taken' (open_line name opened.slot)

-- a snapshot was opened, and the sink took some of the front of its line
pub record CutOpened (files : Option Files) (taken taken' : Option (List ℕ)) (name : List ℕ) : Type 0 where
  pub opened : Opened
  pub from : IsOpened files (Some name) (Some opened)
  pub front : AppendsFront taken taken' (open_line name opened.slot)

-- why no snapshot was opened, or its line not written
abbrev pub HaltsOpened : Option Files → Option (List ℕ) → Option (List ℕ) → List ℕ → ℕ → Halt → Type 0
HaltsOpened files taken taken' name budget (halts.Cut stop) = (taken' ≡ taken) ⊎ CutOpened files taken taken' name
HaltsOpened files taken taken' name budget halts.DirFault = taken' ≡ taken
HaltsOpened files taken taken' name budget (halts.Refused line) =
    (taken' ≡ taken) × (fault : OpenFault) × IfSome files (λ told. WhyNotOpened told name budget fault)
    × (string_bytes line ≡ not_opened_line name fault) × IsRefusal fault
