use Rattle.append_vec.specs.Filled.{rows_of}
use Rattle.append_vec.proofs.TestKeys.{differ}
use Rattle.append_vec.proofs.tests.accounts.Goals as goal

pub returns : goal.returns
returns c = differ (rows_of c.loop-first.accounts.items) c.loop-first.invariant.1
