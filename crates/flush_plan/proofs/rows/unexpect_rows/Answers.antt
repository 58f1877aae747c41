use Rattle.flush_plan.proofs.Steps.{unexpects_more}
use Rattle.flush_plan.proofs.rows.unexpect_rows.Goals as goal

pub loop-key-preserved : goal.loop-key-preserved
loop-key-preserved c =
    unexpects_more c.args.slot c.args.accounts.now c.loop-key.key-index c.loop-key-item.result c.loop-key-test.true c.loop-key-item.is
    c.args.index.now c.loop-key.index c.unexpect.new.self c.loop-key.invariant c.unexpect.ensures
