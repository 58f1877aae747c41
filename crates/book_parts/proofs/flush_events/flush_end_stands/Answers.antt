use Rattle.std.proofs.Common.{◌≡◌, sym, ap, subst, refl}
use Rattle.adb_model.specs.State.{State}
use Rattle.adb_model.specs.Call.{FlushEnd, FlushAbort, NotFlushing, Done, Reply}
use Rattle.adb_model.specs.Outcome.{when_found}
use Rattle.adb_model.specs.Flush.{flushed_with, flush_dropped}
use Rattle.adb_model.specs.History.{state_after}
use Rattle.adb_model.specs.Step.{step}
use Rattle.book_parts.specs.Parts.{Parts}
use Rattle.book_parts.specs.Reflects.{Reflects}
use Rattle.book_parts.proofs.flush_events.flush_end_stands.Goals as goal

pub returns-clause-done : goal.returns-clause-done
returns-clause-done c = λ p m0 h pass slot cell t image places cache index table slots st e there is_image placed ends.
    let m = state_after m0 h in
    let new : Parts = record p { index = index; cache = cache; cells = table; map = slots } in
    let done : State × Reply = (flushed_with m t, Done) in
    let is : step m pass (FlushEnd slot) ≡ done = ap (λ o. when_found o (NotFlushing slot) m (λ u. let ended : State × Reply = (flushed_with m u, Done) in ended)) e in
    c.step_stands.ensures.of_any p new m0 h pass (FlushEnd slot) Done refl st (ap (λ r. r.1) is)
    (subst (λ (r : State × Reply). Reflects new r.0) (sym is)
    (c.ended_flush_reflects.ensures.done p m slot cell t image places cache index table slots st.sound st.parts e there is_image placed ends))

pub returns-clause-dropped : goal.returns-clause-dropped
returns-clause-dropped c = λ p m0 h pass slot cell t index table slots st e there leaves.
    let m = state_after m0 h in
    let new : Parts = record p { index = index; cells = table; map = slots } in
    let done : State × Reply = (flush_dropped m t, Done) in
    let is : step m pass (FlushAbort slot) ≡ done = ap (λ o. when_found o (NotFlushing slot) m (λ u. let ended : State × Reply = (flush_dropped m u, Done) in ended)) e in
    c.step_stands.ensures.of_any p new m0 h pass (FlushAbort slot) Done refl st (ap (λ r. r.1) is)
    (subst (λ (r : State × Reply). Reflects new r.0) (sym is)
    (c.ended_flush_reflects.ensures.dropped p m slot cell t index table slots st.sound st.parts e there leaves))
