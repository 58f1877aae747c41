use Rattle.std.proofs.Common.{ℕ, eqb, cond, Some, sym, subst, ap, ◌∙◌, refl}
use Rattle.adb_model.specs.State.{State}
use Rattle.adb_model.specs.Storages.{open_flush}
use Rattle.adb_model.specs.Flush.{filling_with, flush_rows}
use Rattle.adb_model.specs.Call as machine
use Rattle.adb_model.specs.Step.{step}
use Rattle.adb_model.specs.History.{state_after}
use Rattle.flush_plan.specs.Jobs.{Job, storage_of, IsOpenJob}
use Rattle.replay.proofs.InHand.{is_open, of_slot, one_more, one_fewer, none_open, some_from}
use Rattle.replay.proofs.Copies.{shrinks_as}
use Rattle.replay.proofs.Snaps.{snap_as}
use Rattle.replay.proofs.GoingOn.{event, is_pass, last_reply, made, none_before, with_none, flush_refused}
use Rattle.replay.proofs.laws.flushes_go_on.Goals as goal

abbrev slot_of : Job → ℕ
slot_of job = job.slot

pub returns : goal.returns
returns c =
    let on = c.histories_go_on.ensures.state in
    let legal = c.histories_go_on.ensures.legal in
    let told = last_reply c.histories_go_on.ensures.each_legal in
    let law = c.flushes_stay_open.ensures in
    let stay = c.open_shrink_reflects.ensures.stays in
    let snaps = c.ended_snap_reflects.ensures.stays in
    record {
      refused = λ p new start h pass slot refusal is st after. flush_refused on stay snaps c.histories_go_on.ensures.each_legal p new start h pass slot is st law.refused refusal after;
      begun = λ p new job start h pass slot is st same after opened.
          let m = state_after start h in
          let call = machine.FlushBegin slot in
          let reply = told start h pass call (machine.FlushBegun job.id job.bytes) after.legal in
          let stays = law.begun m st.book.sound pass slot job.id job.bytes reply in
          let now = subst (λ (n : State). IsOpenJob job n) (on start h (event pass call (machine.FlushBegun job.id job.bytes))) opened in
          made on start h pass call p new _ p.shrinks p.snap (machine.FlushBegun job.id job.bytes) (c.pins_are_own.ensures.same m pass call refl)
          (one_more slot_of storage_of p.jobs (open_flush m) st.jobs job (open_flush (step m pass call).0)
          (ap (open_flush m) same ∙ none_before m pass slot job.id job.bytes reply) now
          (λ s apart. stays s ∙ ap (λ b. cond b (Some (filling_with m slot (flush_rows m slot))) (open_flush m s)) (ap (λ (k : ℕ). eqb k s) (sym same) ∙ apart)))
          (shrinks_as stay m st.book.sound pass (is_pass pass is) call p.shrinks st.shrinks (c.shrinks_stay_open.ensures.same m pass call refl))
          (snap_as snaps m st.book.sound pass (is_pass pass is) call p.snap (c.snaps_stay_open.ensures.same m pass call refl) st.snap)
          st after;
      in_hand = λ p start h slot place job st at got.
          let m = state_after start h in
          let opened = is_open slot_of storage_of p.jobs (open_flush m) st.jobs slot place at job got in
          let same = of_slot slot_of storage_of p.jobs (open_flush m) st.jobs slot place at job got in
          (ap (open_flush m) same ∙ opened, same, (c.flush_end_stands.ensures.may p.book start h slot (storage_of job) st.book opened).1.differ);
      ended = λ p new start h pass slot place job is st at got after.
          let m = state_after start h in
          let call = machine.FlushEnd slot in
          made on start h pass call p new _ p.shrinks p.snap machine.Done (c.pins_are_own.ensures.same m pass call refl)
          (one_fewer slot_of storage_of p.jobs (open_flush m) st.jobs slot place at job got (open_flush (step m pass call).0)
          (law.ended m st.book.sound pass slot (some_from (open_flush m slot) (storage_of job) (is_open slot_of storage_of p.jobs (open_flush m) st.jobs slot place at job got))))
          (shrinks_as stay m st.book.sound pass (is_pass pass is) call p.shrinks st.shrinks (c.shrinks_stay_open.ensures.same m pass call refl))
          (snap_as snaps m st.book.sound pass (is_pass pass is) call p.snap (c.snaps_stay_open.ensures.same m pass call refl) st.snap)
          st after;
      given_up = λ p new start h pass slot place job is st at got after.
          let m = state_after start h in
          let call = machine.FlushAbort slot in
          made on start h pass call p new _ p.shrinks p.snap machine.Done (c.pins_are_own.ensures.same m pass call refl)
          (one_fewer slot_of storage_of p.jobs (open_flush m) st.jobs slot place at job got (open_flush (step m pass call).0)
          (law.aborted m st.book.sound pass slot (some_from (open_flush m slot) (storage_of job) (is_open slot_of storage_of p.jobs (open_flush m) st.jobs slot place at job got))))
          (shrinks_as stay m st.book.sound pass (is_pass pass is) call p.shrinks st.shrinks (c.shrinks_stay_open.ensures.same m pass call refl))
          (snap_as snaps m st.book.sound pass (is_pass pass is) call p.snap (c.snaps_stay_open.ensures.same m pass call refl) st.snap)
          st after;
      none_ended = λ p start h pass slot st at.
          let m = state_after start h in
          with_none on legal start h pass (machine.FlushEnd slot) (machine.NotFlushing slot) p (law.no_end m pass slot (none_open slot_of storage_of p.jobs (open_flush m) slot st.jobs at)) st;
      none_given_up = λ p start h pass slot st at.
          let m = state_after start h in
          with_none on legal start h pass (machine.FlushAbort slot) (machine.NotFlushing slot) p (law.no_abort m pass slot (none_open slot_of storage_of p.jobs (open_flush m) slot st.jobs at)) st;
    }
