use Rattle.std.proofs.Common.{◌≡◌, vec_len}
use Rattle.append_vec.specs.Filled.{rows_of}
use Rattle.append_vec.proofs.TestKeys.{CountUp}
use Rattle.append_vec.proofs.tests.accounts.Given as goal

abbrev pub invariant-loop-first : goal.invariant-loop-first
invariant-loop-first l = (vec_len l.accounts ≡ l.first) × CountUp (rows_of l.accounts.items)
