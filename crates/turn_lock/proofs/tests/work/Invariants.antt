use Rattle.std.proofs.Common.{◌≡◌}
use Rattle.turn_lock.proofs.tests.work.Given as goal

abbrev pub invariant-loop-k : goal.invariant-loop-k
invariant-loop-k g l = l.pass.turn ≡ l.turn.id
