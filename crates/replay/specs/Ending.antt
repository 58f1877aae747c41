-- How a run of a script ends.
use Rattle.std.specs.Prelude.{◌≡◌, ◌⊎◌, ◌≤◌, ℕ, List, [], ◌++◌, IfErr, OnOk, string_bytes}
use Rattle.std.specs.declared.option.Option.{Option}
use Rattle.std.specs.declared.result.Result.{Result}
use Rattle.std.specs.Io.KnownBytes.{Appends}
use Rattle.stream_io.specs.Stream.{Rose}
use Rattle.dir_io.specs.Files.{Files}
use Rattle.script.specs.Said.{Said, budget_line}
use Rattle.snap_open.specs.declared.fault.OpenFault.{OpenFault}
use Rattle.snap_open.specs.declared.fault.OpenFault.TheVariants as opens
use Rattle.field_codec.specs.Paths.{prefix_of}
use Rattle.snap_write.specs.Changes.{HasSome}
use Rattle.std.specs.Prelude.{IfSome}
use Rattle.replay.specs.Saved.{KeepsElsewhere, WhereTold}
use Rattle.replay.specs.Journaled.{IsStatus, PlayedAll, CutShort, CutLater, Unwritten, Unopened, IsRefusal, DirectoryFailed, SnapshotRefused, EndsWith, directory_fault_line, exists_line, not_opened_line, journal_upto}
use Rattle.replay.specs.declared.stops.Stop.TheVariants as stops
use Rattle.replay.specs.declared.stops.Halt.{Halt}
use Rattle.replay.specs.declared.stops.Halt.TheVariants as halts

-- the status of a run that was halted
abbrev pub status_of : Halt → ℕ
status_of (halts.Cut stops.NoMemory) = 6
status_of (halts.Cut stops.SinkFault) = 4
status_of halts.DirFault = 5
status_of (halts.Refused line) = 7

-- what the sink takes at the end of a run that was halted
abbrev pub EndsHalted : Option (List ℕ) → Option (List ℕ) → ℕ → ℕ → Halt → Type 0
EndsHalted taken taken' faults faults' (halts.Cut stop) = (taken' ≡ taken) × (faults' ≡ faults)
EndsHalted taken taken' faults faults' halts.DirFault = EndsWith taken taken' faults faults' [] directory_fault_line
EndsHalted taken taken' faults faults' (halts.Refused line) = EndsWith taken taken' faults faults' [] (string_bytes line)

-- which counts rose: the sink's, from k to k', and the directory's, from d to d'
abbrev pub HaltCause : ℕ → ℕ → ℕ → ℕ → Halt → Type 0
HaltCause k k' d d' (halts.Cut stops.NoMemory) = k' ≡ k
HaltCause k k' d d' (halts.Cut stops.SinkFault) = Rose k k'
HaltCause k k' d d' halts.DirFault = (k' ≡ k) × Rose d d'
HaltCause k k' d d' (halts.Refused line) = (k' ≡ k) × (d' ≡ d)

-- counts of faults do not fall; they stand still where nothing was halted, and else each rose only for its halt
pub record HasCounts {X : Type 0} (k k' d d' : ℕ) (result : Result X Halt) : Type 0 where
  pub sink_later : k ≤ k'
  pub dir_later : d ≤ d'
  pub done : OnOk result ((k' ≡ k) × (d' ≡ d))
  pub halted : IfErr result (HaltCause k k' d d')

-- why lines were not played to their end
abbrev pub HaltsLines : Option Files → Option Files → Option (List ℕ) → Option (List ℕ) → Said → Halt → Type 0
HaltsLines files files' taken taken' said (halts.Cut stop) = CutLater files files' taken taken' said
HaltsLines files files' taken taken' said halts.DirFault =
    (name : List ℕ) × (u : Unwritten files files' said name) × Appends taken taken' (journal_upto u)
HaltsLines files files' taken taken' said (halts.Refused line) =
    (name : List ℕ) × (u : Unwritten files files' said name) × Appends taken taken' (journal_upto u) × (string_bytes line ≡ exists_line name)
    × IfSome files' (HasSome (prefix_of name)) × WhereTold files files' (KeepsElsewhere u.front u.before)

-- why the header was not done
abbrev pub HaltsHeader : Option Files → Option Files → Option (List ℕ) → Option (List ℕ) → Said → Halt → Type 0
HaltsHeader files files' taken taken' said (halts.Cut stop) = CutShort files files' taken taken' said
HaltsHeader files files' taken taken' said halts.DirFault =
    (name : List ℕ) × Unopened files files' said name opens.DirFault × Appends taken taken' (budget_line said.budget)
HaltsHeader files files' taken taken' said (halts.Refused line) =
    (name : List ℕ) × (fault : OpenFault) × Unopened files files' said name fault × Appends taken taken' (budget_line said.budget)
    × (string_bytes line ≡ not_opened_line name fault) × IsRefusal fault

-- how a run ended, by its status
pub record EndsBy (files files' : Option Files) (taken taken' : Option (List ℕ)) (k k' d d' : ℕ) (said : Said) (status : ℕ) : Type 0 where
  pub which : IsStatus status
  pub done : status ≡ 0 → PlayedAll files files' taken taken' said
  pub cut : (status ≡ 4) ⊎ (status ≡ 6) → CutShort files files' taken taken' said
  pub failed : status ≡ 5 → DirectoryFailed files files' taken taken' k k' said
  pub refused : status ≡ 7 → SnapshotRefused files files' taken taken' k k' said
  pub sink_later : k ≤ k'
  pub sink_kept : (status ≡ 0) ⊎ (status ≡ 6) → k' ≡ k
  pub sink_fault : status ≡ 4 → Rose k k'
  pub dir_later : d ≤ d'
  pub dir_kept : (status ≡ 0) ⊎ (status ≡ 7) → d' ≡ d
  pub dir_fault : status ≡ 5 → Rose d d'
