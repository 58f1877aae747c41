use Rattle.std.proofs.Common.{◌≡◌}
use Rattle.std.specs.List.{All}
use Rattle.turn_lock.proofs.tests.race.Given as goal

abbrev pub invariant-loop : goal.invariant-loop
invariant-loop g l = (l.pass.turn ≡ l.turn.id) × All (λ p. p.turn ≡ l.turn.id) l.passes.items
