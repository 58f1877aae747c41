use Rattle.accounts_index.proofs.Walks.{not_above_upto, not_above_before, above_from}
use Rattle.accounts_index.proofs.walk.start_after.Goals as goal

pub returns-in-Ok-clause-before : goal.returns-in-Ok-clause-before
returns-in-Ok-clause-before c = rw c.in-Some.is (not_above_upto c.args.entries.now c.in-Some.key.now.0 c.in-Ok.place c.in-Ok.ensures.found)

pub returns-in-Err-clause-before : goal.returns-in-Err-clause-before
returns-in-Err-clause-before c = rw c.in-Some.is (not_above_before c.args.entries.now c.in-Some.key.now.0 c.in-Err.place c.in-Err.ensures.absent)

pub returns-in-Err-clause-from : goal.returns-in-Err-clause-from
returns-in-Err-clause-from c = rw c.in-Some.is (above_from c.args.entries.now c.in-Some.key.now.0 c.in-Err.place c.in-Err.ensures.absent)
