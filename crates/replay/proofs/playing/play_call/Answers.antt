use Rattle.adb_model.specs.Seen.{call_of}
use Rattle.replay.proofs.LineCalls.{not_told}
use Rattle.replay.proofs.Turns.{always}
use Rattle.replay.proofs.playing.play_call.Goals as goal

pub returns-in_err-reply-clause-err : goal.returns-in_err-reply-clause-err
returns-in_err-reply-clause-err g c start history stands =
    always c.from_residual.result (not_told c.histories_go_on.ensures.legal start history (g.K.Sink.taken c.args.sink.now) c.args.lane (call_of c.args.call.now) stands.book.legal)

pub returns-in_err-line-clause-err : goal.returns-in_err-line-clause-err
returns-in_err-line-clause-err g c start history stands =
    always c.from_residual-in_err-line.result (not_told c.histories_go_on.ensures.legal start history (g.K.Sink.taken c.args.sink.now) c.args.lane (call_of c.args.call.now) stands.book.legal)
