-- Who began a flush, a shrink or a snapshot ends it.
use Rattle.std.specs.Prelude.{◌≡◌, ℕ, ◌==◌, Bool, false, List, ◌∷◌, ◌++◌, filter, Option, Some, None, option_map}
use Rattle.std.specs.Option.{option_map_or}
use Rattle.adb_model.specs.Lists.{last}
use Rattle.adb_model.specs.State.{State}
use Rattle.adb_model.specs.Call.{Event, Call, Reply, FlushBegin, FlushEnd, FlushAbort, ShrinkBegin, ShrinkEnd, ShrinkAbort, SnapBegin, SnapEnd, Refused, FlushBegun, ShrinkBegun, SnapBegun}
use Rattle.adb_model.specs.History.{IsLegal}

-- work on a slot that has a begin and an end
pub data Job : Type 0 where
  FlushOf : (slot : ℕ) → Job
  ShrinkOf : (slot : ℕ) → Job
  SnapOf : (slot : ℕ) → Job

-- the two are one job
abbrev pub same_job : Job → Job → Bool
same_job (FlushOf s) (FlushOf t) = s == t
same_job (ShrinkOf s) (ShrinkOf t) = s == t
same_job (SnapOf s) (SnapOf t) = s == t
same_job _ _ = false

-- the job that the event begins
abbrev pub begun : Call → Reply → Option Job
begun (FlushBegin s) (FlushBegun id bytes) = Some (FlushOf s)
begun (ShrinkBegin s) (ShrinkBegun old new bytes) = Some (ShrinkOf s)
begun (SnapBegin s) (SnapBegun storages) = Some (SnapOf s)
begun _ _ = None

-- the job that the call ends
abbrev pub ending : Call → Option Job
ending (FlushEnd s) = Some (FlushOf s)
ending (FlushAbort s) = Some (FlushOf s)
ending (ShrinkEnd s) = Some (ShrinkOf s)
ending (ShrinkAbort s) = Some (ShrinkOf s)
ending (SnapEnd s) = Some (SnapOf s)
ending _ = None

-- the job that the event ends
abbrev pub ended : Call → Reply → Option Job
ended call (Refused refusal) = None
ended call _ = ending call

-- the pass that began the job last
abbrev pub beginner : List Event → Job → Option ℕ
beginner events job = option_map (λ e. e.pass) (last (filter (λ e. option_map_or (same_job job) (begun e.call e.reply) false) events))

-- the history is legal, and each end in it is of the pass that began
pub record Kept (m : State) (events : List Event) : Type 0 where
  pub legal : IsLegal m events
  pub own : (before after : List Event) (e : Event) (job : Job) → events ≡ before ++ e ∷ after → ended e.call e.reply ≡ Some job → beginner before job ≡ Some e.pass
