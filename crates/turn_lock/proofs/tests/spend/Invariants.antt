use Rattle.std.proofs.Common.{◌≡◌}
use Rattle.turn_lock.proofs.tests.spend.Given as goal

abbrev pub invariant-loop-given : goal.invariant-loop-given
invariant-loop-given l = l.pass.turn ≡ l.turn.id
