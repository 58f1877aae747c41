use Rattle.std.proofs.Common.{◌≡◌, ℕ, List, subst, sym}
use Rattle.std.specs.List.{All}
use Rattle.turn_lock.proofs.Logged.{own_entries}
use Rattle.turn_lock.proofs.tests.leave_as.Goals as goal

pub leave-requires-clause-own : goal.leave-requires-clause-own
leave-requires-clause-own g c = subst (λ (l : List (ℕ × ℕ)). All (λ e. e.0 ≡ c.args.hold.pass.number) l) (sym c.requires.named) (own_entries _ c.args.added.now)
