use Rattle.std.proofs.Common.{◌++◌, None, ap}
use Rattle.adb_model.specs.Call.{Load}
use Rattle.adb_model.specs.Plays.{next_call}
use Rattle.script.specs.Said.{order_played}
use Rattle.script.specs.Seen.{order_seen}
use Rattle.replay.proofs.LineCalls.{nothing_yet, one_cut, not_told}
use Rattle.replay.proofs.Turns.{always}
use Rattle.replay.proofs.playing.play_events.Goals as goal

pub returns-in_err-view-in-Get-clause-err : goal.returns-in_err-view-in-Get-clause-err
returns-in_err-view-in-Get-clause-err g c start h st =
    let a = g.K.Sink.taken c.args.sink.now in
    let lane = c.args.line.now.lane in
    let order = order_seen c.args.line.now.order in
    let load = Load c.in-Get.view c.in-Get.key.0 in
    let far = nothing_yet start h a a a lane order c.args.player.now st in
    always c.from_residual.result
    (one_cut start h a a a lane order c.args.player.now None far c.reclaims_go_on.ensures.fewer c.histories_go_on.ensures.both_legal load (ap (λ o. next_call (order_played (order_seen o)) None) c.in-Get.is)
    (not_told c.histories_go_on.ensures.legal start (h ++ far.events) a lane load far.stands.book.legal))
