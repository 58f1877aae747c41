use Rattle.std.proofs.Common.{[], ◌∷◌, ◌++◌}
use Rattle.adb_model.specs.Call as machine
use Rattle.book.proofs.tests.flushed.Goals as goal

pub flush_end-requires-clause-open : goal.flush_end-requires-clause-open
flush_end-requires-clause-open g c =
    let i = c.has_history.ensures in (
      i.start,
      i.history ++ record { pass = 1; call = machine.FlushBegin c.args.slot; reply = machine.FlushBegun c.in-Ok.job.id c.in-Ok.job.bytes } ∷ [],
      c.in-Ok.ensures.stands i.start i.history 1 i.stands,
      c.in-Ok.ensures.opens i.start i.history 1 i.stands,
    )
