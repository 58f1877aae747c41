use Rattle.std.proofs.Common.{None, refl, sym, ap, subst}
use Rattle.adb_model.specs.State.{Snap, State}
use Rattle.adb_model.specs.Call.{SnapEnd, Done, Reply}
use Rattle.adb_model.specs.History.{state_after}
use Rattle.book_parts.specs.Parts.{Parts}
use Rattle.book_parts.specs.Reflects.{Reflects}
use Rattle.book_parts.specs.Snaps.{ids_of}
use Rattle.book_parts.proofs.snap_events.snap_end_stands.Goals as goal

pub returns-clause-may : goal.returns-clause-may
returns-clause-may c = λ p m0 h job st o. c.ended_snap_reflects.ensures.may_unpin p (state_after m0 h) job st.sound st.once st.parts o

pub returns-clause-done : goal.returns-clause-done
returns-clause-done c = λ p m0 h pass job table st o each.
    let m = state_after m0 h in
    let new : Parts = record p { cells = table; snap = None } in
    let snap : Snap = record { slot = job.slot; ids = ids_of job.storages } in
    let is = c.snaps_stay_open.ensures.ended m pass snap o.opened in
    c.step_stands.ensures.of_any p new m0 h pass (SnapEnd job.slot) Done refl st (ap (λ r. r.1) is)
    (subst (λ (r : State × Reply). Reflects new r.0) (sym is) (c.ended_snap_reflects.ensures.done p m job table st.parts o each))
