use Rattle.std.proofs.Common.{◌+◌, [], List, map, take, refl, sym, subst, arith}
use Rattle.adb_model.specs.declared.call.Reply.{Reply}
use Rattle.replay.specs.Standing.{HasMade, asked}
use Rattle.replay.proofs.Turns.{one_made, first_made, nothing_made, all_made, kept_made, always}
use Rattle.replay.proofs.player.Player.run.Goals as goal

pub returns-in_err-replies-clause-err : goal.returns-in_err-replies-clause-err
returns-in_err-replies-clause-err g c start history stands =
    always c.from_residual.result (first_made c.args.self.now start history c.args.calls.now 0 [] (nothing_made c.args.self.now start history c.args.calls.now [] stands refl))

pub loop-lane-init : goal.loop-lane-init
loop-lane-init g c start history stands = nothing_made c.args.self.now start history c.args.calls.now c.in_ok-replies.replies.items stands c.in_ok-replies.ensures.items

pub returns-in_err-reply-clause-err : goal.returns-in_err-reply-clause-err
returns-in_err-reply-clause-err g c start history stands =
    always c.from_residual-in_err-reply.result
    (first_made c.step.new.self start history c.args.calls.now c.loop-lane.lane-index c.loop-lane.replies.items
    (kept_made c.loop-lane.self c.step.new.self start history _ c.loop-lane.replies.items (c.loop-lane.invariant start history stands) (c.in_err-reply.ensures start)))

pub returns-in_err-push-clause-err : goal.returns-in_err-push-clause-err
returns-in_err-push-clause-err g c start history stands =
    always c.from_residual-in_err-push.result
    (first_made c.step.new.self start history c.args.calls.now (c.loop-lane.lane-index + 1) _
    (one_made c.loop-lane.self start history c.args.calls.now c.loop-lane.lane-index c.step.new.self c.loop-lane-item.result c.loop-lane.replies.items c.in_ok-reply.reply
    c.loop-lane-test.true c.loop-lane-item.is (c.loop-lane.invariant start history stands) (c.in_ok-reply.ensures start)))

pub loop-lane-preserved : goal.loop-lane-preserved
loop-lane-preserved g c start history stands =
    subst (λ (rs : List Reply). HasMade c.step.new.self start history (map asked (take (c.loop-lane.lane-index + 1) c.args.calls.now)) rs) (sym c.in_ok-push.ensures.items)
    (one_made c.loop-lane.self start history c.args.calls.now c.loop-lane.lane-index c.step.new.self c.loop-lane-item.result c.loop-lane.replies.items c.in_ok-reply.reply
    c.loop-lane-test.true c.loop-lane-item.is (c.loop-lane.invariant start history stands) (c.in_ok-reply.ensures start))

pub returns-clause-ok : goal.returns-clause-ok
returns-clause-ok g c start history stands =
    all_made c.loop-lane.self start history c.args.calls.now c.loop-lane.lane-index c.loop-lane.replies.items (omega arith) (c.loop-lane.invariant start history stands)
