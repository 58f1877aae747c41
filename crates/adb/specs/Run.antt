-- What a run of the program does.
use Rattle.std.specs.Prelude.{◌≡◌, ◌≢◌, ◌⊎◌, ℕ, ◌<◌, ◌≤◌, ◌&&◌, if◌then◌else◌, Bool, false, List, [], ◌∷◌, ◌++◌, length, codes, Option, Some, None, option_map, IfSome}
use Rattle.std.specs.Str.{bytes_eq}
use Rattle.std.specs.Io.KnownBytes.{Keeps, IsAtEnd, Consumes}
use Rattle.stream_io.specs.Stream.{Rose}
use Rattle.dir_io.specs.Files.{Files}
use Rattle.text_fields.specs.Names.{is_name}
use Rattle.script.specs.Said.{Said}
use Rattle.script.specs.Grammar.{IsScript, IsNoScript}
use Rattle.replay.specs.Journaled.{PlayedAll, CutShort, EndsWith, DirectoryFailed, SnapshotRefused, directory_fault_line}
use Rattle.adb.specs.Opening.{ListsAll, ListsFront, OpenRefused}
use Rattle.adb.specs.declared.ending.End.{End}
use Rattle.adb.specs.declared.ending.End.TheVariants as ends

-- the command line is the one word `replay`
abbrev pub is_replay : List (List ℕ) → Bool
is_replay [] = false
is_replay (word ∷ []) = bytes_eq word (codes "replay")
is_replay (word ∷ other ∷ words) = false

-- the name of the snapshot in the two words `open NAME`
abbrev pub name_asked : List (List ℕ) → Option (List ℕ)
name_asked [] = None
name_asked (word ∷ []) = None
name_asked (word ∷ name ∷ []) = if bytes_eq word (codes "open") && is_name name then Some name else None
name_asked (word ∷ name ∷ other ∷ words) = None

-- what the program is asked for
pub data Command : Type 0 where
  Replay : Command
  Open : (name : List ℕ) → Command

-- other words ask for nothing
abbrev pub command_of : List (List ℕ) → Option Command
command_of words = if is_replay words then Some Replay else option_map Open (name_asked words)

-- the lines that end a run
abbrev pub usage_line : List ℕ
usage_line = codes "adb: usage: adb replay | open NAME" ++ 10 ∷ []

abbrev pub read_fault_line : List ℕ
read_fault_line = codes "adb: read fault" ++ 10 ∷ []

abbrev pub too_long_line : List ℕ
too_long_line = codes "script: longer than 268435456 bytes" ++ 10 ∷ []

abbrev pub refused_line : List ℕ
refused_line = codes "script: refused" ++ 10 ∷ []

-- the source was read to its end, and gave these bytes
pub record WasRead (left left' : Option (List ℕ)) (bytes : List ℕ) : Type 0 where
  pub all : Consumes left left' bytes
  pub end : IsAtEnd left'
  pub most : length bytes ≤ 268435456

-- the source gave a script, of which this is so
pub record GaveScript (left left' : Option (List ℕ)) (Is : Said → Type 0) : Type 0 where
  pub bytes : List ℕ
  pub read : WasRead left left' bytes
  pub said : Said
  pub script : IsScript bytes said
  pub is : Is said

-- the source gave a script, the sink took its whole journal, of a legal history that plays all its lines, each snapshot that
-- began stands among the files, and no other file changed; or the sink took the lines of a snapshot and of all its accounts
abbrev pub IsDone : Option Command → Option (List ℕ) → Option (List ℕ) → Option Files → Option Files → Option (List ℕ) → Option (List ℕ) → Type 0
IsDone None left left' files files' taken taken' = ⊥
IsDone (Some Replay) left left' files files' taken taken' = GaveScript left left' (PlayedAll files files' taken taken')
IsDone (Some (Open name)) left left' files files' taken taken' = ListsAll files taken taken' name

-- the sink took some of the front of that
abbrev pub IsCut : Option Command → Option (List ℕ) → Option (List ℕ) → Option Files → Option Files → Option (List ℕ) → Option (List ℕ) → Type 0
IsCut None left left' files files' taken taken' = ⊥
IsCut (Some Replay) left left' files files' taken taken' = GaveScript left left' (CutShort files files' taken taken')
IsCut (Some (Open name)) left left' files files' taken taken' = ListsFront files taken taken' name

-- the directory failed at a snapshot, which the last line says
abbrev pub IsLost : Option Command → Option (List ℕ) → Option (List ℕ) → Option Files → Option Files → Option (List ℕ) → Option (List ℕ) → ℕ → ℕ → Type 0
IsLost None left left' files files' taken taken' faults faults' = ⊥
IsLost (Some Replay) left left' files files' taken taken' faults faults' = GaveScript left left' (DirectoryFailed files files' taken taken' faults faults')
IsLost (Some (Open name)) left left' files files' taken taken' faults faults' = EndsWith taken taken' faults faults' [] directory_fault_line

-- a snapshot that was to be opened is refused, or the name of one that was to be written is there: the last line says which
abbrev pub IsSnapRefused : Option Command → Option (List ℕ) → Option (List ℕ) → Option Files → Option Files → Option (List ℕ) → Option (List ℕ) → ℕ → ℕ → Type 0
IsSnapRefused None left left' files files' taken taken' faults faults' = ⊥
IsSnapRefused (Some Replay) left left' files files' taken taken' faults faults' = GaveScript left left' (SnapshotRefused files files' taken taken' faults faults')
IsSnapRefused (Some (Open name)) left left' files files' taken taken' faults faults' = OpenRefused files taken taken' faults faults' name

-- the source gave bytes that are no script
pub record GaveNoScript (left left' : Option (List ℕ)) : Type 0 where
  pub bytes : List ℕ
  pub read : WasRead left left' bytes
  pub refused : IsNoScript bytes

-- the source had more bytes than a script may have
abbrev pub HadTooMany : Option (List ℕ) → Type 0
HadTooMany left = IfSome left (λ bytes. 268435456 < length bytes)

-- the bytes were no script, or too many, and the last line says which
abbrev pub IsRefused : Option (List ℕ) → Option (List ℕ) → Option (List ℕ) → Option (List ℕ) → ℕ → ℕ → Type 0
IsRefused left left' taken taken' faults faults' =
    (GaveNoScript left left' × EndsWith taken taken' faults faults' [] refused_line)
    ⊎ (HadTooMany left × EndsWith taken taken' faults faults' [] too_long_line)

-- the source tells bytes that are a script, and not too many
abbrev pub TellsScript : Option (List ℕ) → Type 0
TellsScript None = ⊥
TellsScript (Some bytes) = (length bytes ≤ 268435456) × ((said : Said) × IsScript bytes said)

-- the source tells bytes that are no script, or too many
abbrev pub TellsNoScript : Option (List ℕ) → Type 0
TellsNoScript None = ⊥
TellsNoScript (Some bytes) = (268435456 < length bytes) ⊎ IsNoScript bytes

-- there is no other status
abbrev pub IsStatus : ℕ → Type 0
IsStatus n = (n ≡ 0) ⊎ ((n ≡ 1) ⊎ ((n ≡ 2) ⊎ ((n ≡ 3) ⊎ ((n ≡ 4) ⊎ ((n ≡ 5) ⊎ ((n ≡ 6) ⊎ (n ≡ 7)))))))

abbrev pub status_of : End → ℕ
status_of ends.Done = 0
status_of ends.Usage = 1
status_of ends.TooLong = 2
status_of ends.Refused = 2
status_of ends.ReadFault = 3
status_of ends.SinkFault = 4
status_of ends.DirFault = 5
status_of ends.NoMemory = 6
status_of ends.SnapRefused = 7

-- ends of runs that call the directory at no time
abbrev pub IsUnused : End → Type 0
IsUnused end = (end ≡ ends.Usage) ⊎ (end ≡ ends.TooLong) ⊎ (end ≡ ends.Refused) ⊎ (end ≡ ends.ReadFault)

-- which counts rose, by the cause of the end: the source's from s, the directory's from d, the sink's from k
abbrev pub CauseOf : ℕ → ℕ → ℕ → ℕ → ℕ → ℕ → End → Type 0
CauseOf s s' d d' k k' ends.Done = (s' ≡ s) × (d' ≡ d) × (k' ≡ k)
CauseOf s s' d d' k k' ends.Usage = (s' ≡ s) × (d' ≡ d)
CauseOf s s' d d' k k' ends.TooLong = (s' ≡ s) × (d' ≡ d)
CauseOf s s' d d' k k' ends.Refused = (s' ≡ s) × (d' ≡ d)
CauseOf s s' d d' k k' ends.ReadFault = Rose s s' × (d' ≡ d)
CauseOf s s' d d' k k' ends.SinkFault = (s' ≡ s) × Rose k k'
CauseOf s s' d d' k k' ends.DirFault = (s' ≡ s) × Rose d d'
CauseOf s s' d d' k k' ends.NoMemory = s' ≡ s
CauseOf s s' d d' k k' ends.SnapRefused = (s' ≡ s) × (d' ≡ d)

-- no count of faults falls, and each rose only for a cause
pub record HasCauses (s s' d d' k k' : ℕ) (end : End) : Type 0 where
  pub source_later : s ≤ s'
  pub dir_later : d ≤ d'
  pub sink_later : k ≤ k'
  pub cause : CauseOf s s' d d' k k' end

-- how the playing of some bytes ended, by its cause
abbrev pub PlayedBytes : List ℕ → Option Files → Option Files → Option (List ℕ) → Option (List ℕ) → ℕ → ℕ → End → Type 0
PlayedBytes bytes files files' taken taken' k k' ends.Refused = IsNoScript bytes × (files' ≡ files) × EndsWith taken taken' k k' [] refused_line
PlayedBytes bytes files files' taken taken' k k' ends.Done = (said : Said) × IsScript bytes said × PlayedAll files files' taken taken' said
PlayedBytes bytes files files' taken taken' k k' ends.SinkFault = (said : Said) × IsScript bytes said × CutShort files files' taken taken' said
PlayedBytes bytes files files' taken taken' k k' ends.DirFault = (said : Said) × IsScript bytes said × DirectoryFailed files files' taken taken' k k' said
PlayedBytes bytes files files' taken taken' k k' ends.NoMemory = (Keeps taken taken' × (files' ≡ files)) ⊎ ((said : Said) × IsScript bytes said × CutShort files files' taken taken' said)
PlayedBytes bytes files files' taken taken' k k' ends.SnapRefused = (said : Said) × IsScript bytes said × SnapshotRefused files files' taken taken' k k' said
PlayedBytes bytes files files' taken taken' k k' ends.Usage = ⊥
PlayedBytes bytes files files' taken taken' k k' ends.ReadFault = ⊥
PlayedBytes bytes files files' taken taken' k k' ends.TooLong = ⊥

-- how a run ended, by its cause: what was asked for, what the source had left, the files, what the sink took and how often it failed
abbrev pub Ended : Option Command → Option (List ℕ) → Option (List ℕ) → Option Files → Option Files → Option (List ℕ) → Option (List ℕ) → ℕ → ℕ → End → Type 0
Ended command left left' files files' taken taken' k k' ends.Usage = (command ≡ None) × (files' ≡ files) × EndsWith taken taken' k k' [] usage_line
Ended command left left' files files' taken taken' k k' ends.ReadFault = (command ≡ Some Replay) × (files' ≡ files) × EndsWith taken taken' k k' [] read_fault_line
Ended command left left' files files' taken taken' k k' ends.TooLong = (command ≡ Some Replay) × (files' ≡ files) × HadTooMany left × EndsWith taken taken' k k' [] too_long_line
Ended command left left' files files' taken taken' k k' ends.Refused = (command ≡ Some Replay) × (files' ≡ files) × GaveNoScript left left' × EndsWith taken taken' k k' [] refused_line
Ended command left left' files files' taken taken' k k' ends.Done = (command ≢ None) × IsDone command left left' files files' taken taken'
Ended command left left' files files' taken taken' k k' ends.SinkFault = (command ≢ None) × IsCut command left left' files files' taken taken'
Ended command left left' files files' taken taken' k k' ends.DirFault = (command ≢ None) × IsLost command left left' files files' taken taken' k k'
Ended command left left' files files' taken taken' k k' ends.NoMemory = (command ≢ None) × ((Keeps taken taken' × (files' ≡ files)) ⊎ IsCut command left left' files files' taken taken')
Ended command left left' files files' taken taken' k k' ends.SnapRefused = (command ≢ None) × IsSnapRefused command left left' files files' taken taken' k k'
