use Rattle.std.proofs.Common.{◌≡◌, ◌≢◌, ℕ, eqb, cond, Option, Some, None, refl, sym, subst, ap, ◌∙◌}
use Rattle.adb_model.specs.State.{Snap, State}
use Rattle.adb_model.specs.Storages.{open_flush}
use Rattle.adb_model.specs.Call as machine
use Rattle.adb_model.specs.Step.{step}
use Rattle.adb_model.specs.History.{state_after}
use Rattle.flush_plan.specs.Jobs.{Job, storage_of}
use Rattle.book_parts.specs.Snaps.{IsOpenSnap}
use Rattle.replay.specs.Standing.{SnapStands}
use Rattle.replay.proofs.InHand.{open_as}
use Rattle.replay.proofs.Copies.{shrinks_as}
use Rattle.replay.proofs.Snaps.{none_of_slot, of_hand}
use Rattle.replay.proofs.GoingOn.{event, is_pass, made, with_none, snap_refused}
use Rattle.replay.proofs.laws.snaps_go_on.Goals as goal

pub returns : goal.returns
returns c =
    let on = c.histories_go_on.ensures.state in
    let legal = c.histories_go_on.ensures.legal in
    let law = c.snaps_stay_open.ensures in
    let stay = c.open_shrink_reflects.ensures.stays in
    let snaps = c.ended_snap_reflects.ensures.stays in
    record {
      refused = λ p new start h pass slot refusal is st after. snap_refused on stay snaps c.histories_go_on.ensures.each_legal p new start h pass slot is st law.refused refusal after;
      begun = λ p new job start h pass slot storages is st after opened.
          let m = state_after start h in
          let call = machine.SnapBegin slot in
          let answer = machine.SnapBegun storages in
          made on start h pass call p new p.jobs p.shrinks (Some job) answer (c.pins_are_own.ensures.same m pass call refl)
          (open_as (λ (j : Job). j.slot) storage_of p.jobs (open_flush m) (open_flush (step m pass call).0) (c.flushes_stay_open.ensures.same m pass call refl) st.jobs)
          (shrinks_as stay m st.book.sound pass (is_pass pass is) call p.shrinks st.shrinks (c.shrinks_stay_open.ensures.same m pass call refl))
          (subst (λ (n : State). IsOpenSnap job n) (on start h (event pass call answer)) opened)
          st after;
      in_hand = λ p start h job st is. of_hand p.snap job (state_after start h) is st.snap;
      ended = λ p new job start h pass is st at after.
          let m = state_after start h in
          let call = machine.SnapEnd job.slot in
          let opened = (of_hand p.snap job m at st.snap).opened in
          made on start h pass call p new p.jobs p.shrinks None machine.Done (c.pins_are_own.ensures.same m pass call refl)
          (open_as (λ (j : Job). j.slot) storage_of p.jobs (open_flush m) (open_flush (step m pass call).0) (c.flushes_stay_open.ensures.same m pass call refl) st.jobs)
          (shrinks_as stay m st.book.sound pass (is_pass pass is) call p.shrinks st.shrinks (c.shrinks_stay_open.ensures.same m pass call refl))
          (ap (λ (d : State × machine.Reply). d.0.snap) (law.ended m pass _ opened))
          st after;
      none_ended = λ p start h pass slot st apart.
          let m = state_after start h in
          with_none on legal start h pass (machine.SnapEnd slot) (machine.NotSnapping slot) p (law.no_end m pass slot (none_of_slot p.snap m slot st.snap apart)) st;
    }
