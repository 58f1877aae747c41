use Rattle.adb.proofs.Ends.{flushed, flush_failed}
use Rattle.adb.proofs.running.run_to_end.Goals as goal

pub returns-in-Ok-clause-ended : goal.returns-in-Ok-clause-ended
returns-in-Ok-clause-ended g c = flushed _ _ _ _ _ _ c.flush.ensures.bytes c.flush.ensures.cause.later _ _ _ _ _ _ c.run_unflushed-end.ensures.ended

pub returns-in-Done-clause-ended : goal.returns-in-Done-clause-ended
returns-in-Done-clause-ended g c = flush_failed _ _ _ (g.K.Sink.faults c.args.sink.now) _ _ c.flush.ensures.bytes c.flush.ensures.cause.later _ _ _ _ _ c.in-Done.ensures.ended

pub returns-in_default-clause-ended : goal.returns-in_default-clause-ended
returns-in_default-clause-ended g c = flushed _ _ _ _ _ _ c.flush.ensures.bytes c.flush.ensures.cause.later _ _ _ _ _ _ c.run_unflushed-end.ensures.ended
