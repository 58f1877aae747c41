use Rattle.replay.proofs.Ends.{line_ends}
use Rattle.replay.proofs.stops.end_with.Goals as goal

pub returns-clause-line : goal.returns-clause-line
returns-clause-line g c =
    rw (← c.as_bytes.ensures.value) (line_ends c.write_whole.result _ _ _ _ c.as_bytes.result.now c.write_whole.ensures.ok c.write_whole.ensures.err c.write_whole.ensures.cause)
