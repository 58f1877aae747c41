use Rattle.adb.specs.Opening.{read_line}
use Rattle.adb.proofs.Listed.{on_err, cut_at}
use Rattle.adb.proofs.opening.write_batch.Goals as goal

pub returns-in_err-write_answer-clause-err : goal.returns-in_err-write_answer-clause-err
returns-in_err-write_answer-clause-err g c =
    on_err c.from_residual.result (cut_at read_line c.args.batch.now c.loop-key.key-index _ c.loop-key-test.true
    (g.K.Sink.taken c.args.sink.now) (g.K.Sink.taken c.loop-key.sink) (g.K.Sink.taken c.write_answer.new.sink) c.loop-key.invariant.written c.in_err-write_answer.ensures.err)
