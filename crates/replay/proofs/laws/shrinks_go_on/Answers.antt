use Rattle.std.proofs.Common.{ℕ, eqb, cond, Some, sym, subst, ap, ◌∙◌, refl}
use Rattle.flush_plan.specs.Jobs.{Job, storage_of}
use Rattle.adb_model.specs.State.{Shrink, State}
use Rattle.adb_model.specs.Storages.{open_flush, open_shrink}
use Rattle.adb_model.specs.Call as machine
use Rattle.adb_model.specs.Step.{step}
use Rattle.adb_model.specs.History.{state_after}
use Rattle.book_parts.specs.Shrinks.{Copy, shrink_of, IsOpenCopy}
use Rattle.replay.proofs.InHand.{is_open, of_slot, open_as, none_open, some_from}
use Rattle.replay.proofs.Copies.{one_shrink_more, one_shrink_fewer, shrink_at}
use Rattle.replay.proofs.Snaps.{snap_as}
use Rattle.replay.proofs.GoingOn.{event, is_pass, last_reply, made, with_none, shrink_refused}
use Rattle.replay.proofs.laws.shrinks_go_on.Goals as goal

abbrev slot_of : Copy → ℕ
slot_of copy = copy.slot

abbrev flush_slot : Job → ℕ
flush_slot job = job.slot

pub returns : goal.returns
returns c =
    let on = c.histories_go_on.ensures.state in
    let legal = c.histories_go_on.ensures.legal in
    let told = last_reply c.histories_go_on.ensures.each_legal in
    let law = c.shrinks_stay_open.ensures in
    let stay = c.open_shrink_reflects.ensures.stays in
    let snaps = c.ended_snap_reflects.ensures.stays in
    record {
      refused = λ p new start h pass slot refusal is st after. shrink_refused on stay snaps c.histories_go_on.ensures.each_legal p new start h pass slot is st law.refused refusal after;
      begun = λ p new copy start h pass slot is st same after opened.
          let m = state_after start h in
          let call = machine.ShrinkBegin slot in
          let answer = machine.ShrinkBegun copy.old copy.id copy.bytes in
          let begun : Shrink = record { slot = slot; old = copy.old; new = copy.id } in
          let reply = told start h pass call answer after.legal in
          let before = law.told m pass slot copy.old copy.id copy.bytes reply in
          let stays = law.begun m pass slot copy.old copy.id copy.bytes reply in
          let now = subst (λ (n : State). IsOpenCopy copy n) (on start h (event pass call answer)) opened in
          made on start h pass call p new p.jobs _ p.snap answer (c.pins_are_own.ensures.same m pass call refl)
          (open_as flush_slot storage_of p.jobs (open_flush m) (open_flush (step m pass call).0) (law.flush_begun m st.book.sound pass slot) st.jobs)
          (one_shrink_more stay m st.book.sound pass (is_pass pass is) call p.shrinks st.shrinks copy (ap (open_shrink m) same ∙ before.2) now
          (λ s apart. stays s ∙ ap (λ b. cond b (Some begun) (open_shrink m s)) (ap (λ (k : ℕ). eqb k s) (sym same) ∙ apart)))
          (snap_as snaps m st.book.sound pass (is_pass pass is) call p.snap (c.snaps_stay_open.ensures.same m pass call refl) st.snap)
          st after;
      in_hand = λ p start h slot place copy st at got.
          let m = state_after start h in
          (shrink_at p.shrinks m st.shrinks place copy got, of_slot slot_of shrink_of p.shrinks (open_shrink m) st.shrinks.opened slot place at copy got);
      ended = λ p new start h pass slot place copy reply is st at got after.
          let m = state_after start h in
          let call = machine.ShrinkEnd slot in
          made on start h pass call p new p.jobs _ p.snap reply (c.pins_are_own.ensures.same m pass call refl)
          (open_as flush_slot storage_of p.jobs (open_flush m) (open_flush (step m pass call).0) (law.flush_ended m st.book.sound pass slot) st.jobs)
          (one_shrink_fewer stay m st.book.sound pass (is_pass pass is) call p.shrinks st.shrinks slot place at copy got
          (law.ended m pass slot (some_from (open_shrink m slot) (shrink_of copy) (is_open slot_of shrink_of p.shrinks (open_shrink m) st.shrinks.opened slot place at copy got))))
          (snap_as snaps m st.book.sound pass (is_pass pass is) call p.snap (c.snaps_stay_open.ensures.same m pass call refl) st.snap)
          st after;
      given_up = λ p new start h pass slot place copy is st at got after.
          let m = state_after start h in
          let call = machine.ShrinkAbort slot in
          made on start h pass call p new p.jobs _ p.snap machine.Done (c.pins_are_own.ensures.same m pass call refl)
          (open_as flush_slot storage_of p.jobs (open_flush m) (open_flush (step m pass call).0) (law.flush_aborted m st.book.sound pass slot) st.jobs)
          (one_shrink_fewer stay m st.book.sound pass (is_pass pass is) call p.shrinks st.shrinks slot place at copy got
          (law.aborted m pass slot (some_from (open_shrink m slot) (shrink_of copy) (is_open slot_of shrink_of p.shrinks (open_shrink m) st.shrinks.opened slot place at copy got))))
          (snap_as snaps m st.book.sound pass (is_pass pass is) call p.snap (c.snaps_stay_open.ensures.same m pass call refl) st.snap)
          st after;
      none_ended = λ p start h pass slot st at.
          let m = state_after start h in
          with_none on legal start h pass (machine.ShrinkEnd slot) (machine.NotShrinking slot) p (law.no_end m pass slot (none_open slot_of shrink_of p.shrinks (open_shrink m) slot st.shrinks.opened at)) st;
      none_given_up = λ p start h pass slot st at.
          let m = state_after start h in
          with_none on legal start h pass (machine.ShrinkAbort slot) (machine.NotShrinking slot) p (law.no_abort m pass slot (none_open slot_of shrink_of p.shrinks (open_shrink m) slot st.shrinks.opened at)) st;
    }
