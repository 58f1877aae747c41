use Rattle.std.proofs.Common.{ℕ, Some, refl, subst, ap, ◌∙◌}
use Rattle.adb_model.specs.Call as machine
use Rattle.adb_model.specs.State.{State}
use Rattle.adb_model.specs.Storages.{open_flush}
use Rattle.adb_model.specs.Step.{step}
use Rattle.adb_model.specs.History.{state_after}
use Rattle.book_parts.specs.Pins.{HoldsPins}
use Rattle.book_parts.specs.Stands.{with_event}
use Rattle.replay.proofs.GoingOn.{event, last_reply, stands_same, steady_after, lane_after}
use Rattle.replay.proofs.laws.lanes_go_on.Goals as goal

pub returns : goal.returns
returns c = record {
  steady = λ p new start h pass call reply is pins storages shrinks snaps st after.
      steady_after c.histories_go_on.ensures.state start h pass call c.open_shrink_reflects.ensures.stays c.ended_snap_reflects.ensures.stays is p new reply (c.pins_are_own.ensures.same (state_after start h) pass call pins)
      (c.flushes_stay_open.ensures.same (state_after start h) pass call storages) (c.shrinks_stay_open.ensures.same (state_after start h) pass call shrinks) (c.snaps_stay_open.ensures.same (state_after start h) pass call snaps) st after;
  reclaimed = λ p new start h pass after most reply is st made.
      let call = machine.Reclaim after most in
      steady_after c.histories_go_on.ensures.state start h pass call c.open_shrink_reflects.ensures.stays c.ended_snap_reflects.ensures.stays is p new reply (c.pins_are_own.ensures.same (state_after start h) pass call refl)
      (c.reclaims_go_on.ensures.flushes (state_after start h) pass after most) (c.shrinks_stay_open.ensures.same (state_after start h) pass call refl) (c.snaps_stay_open.ensures.same (state_after start h) pass call refl) st made;
  recycled = λ p new start h pass reply is st made.
      let m = state_after start h in
      steady_after c.histories_go_on.ensures.state start h pass machine.Recycle c.open_shrink_reflects.ensures.stays c.ended_snap_reflects.ensures.stays is p new reply (c.pins_are_own.ensures.same m pass machine.Recycle refl)
      (λ s. ap (λ (d : State × machine.Reply). open_flush d.0 s) (c.storages_leave.ensures.reply m pass) ∙ c.storages_leave.ensures.flush m s) (c.shrinks_stay_open.ensures.same m pass machine.Recycle refl) (c.snaps_stay_open.ensures.same m pass machine.Recycle refl) st made;
  of_lane = λ p new after start h lane call reply storages shrinks snaps is st same made.
      lane_after c.histories_go_on.ensures.state c.open_shrink_reflects.ensures.stays c.ended_snap_reflects.ensures.stays c.pins_are_own.ensures.others c.pins_are_own.ensures.others_of start h lane call p new after reply
      (c.flushes_stay_open.ensures.same (state_after start h) lane call storages) (c.shrinks_stay_open.ensures.same (state_after start h) lane call shrinks) (c.snaps_stay_open.ensures.same (state_after start h) lane call snaps) is st same made;
  given_back = λ old mid new after start h pass slot id view key account reply st same loaded unpinned.
      let on = c.histories_go_on.ensures.state in
      let m = state_after start h in
      let load = machine.Load view key in
      let e = event pass load (machine.Found slot (machine.InStorage id) account) in
      let told = last_reply c.histories_go_on.ensures.each_legal start h pass load (machine.Found slot (machine.InStorage id) account) loaded.legal in
      let g = with_event h pass load (Some (machine.Found slot (machine.InStorage id) account)) in
      let back = on start g (event after.pass (machine.Unpin id) reply) ∙ ap (λ (k : ℕ). (step (state_after start g) k (machine.Unpin id)).0) same
      ∙ ap (λ (n : State). (step n pass (machine.Unpin id)).0) (on start h e)
      ∙ ap (λ d. d.0) (c.loads_are_given_back.ensures.back m pass slot id view key account told) in
      record {
        stands = stands_same new start (with_event g after.pass (machine.Unpin id) (Some reply)) h back st.legal unpinned.stands;
        pins = subst (λ (n : State). HoldsPins after n) back unpinned.pins;
      };
}
