use Rattle.std.proofs.Common.{map}
use Rattle.turn_lock.proofs.tests.leave.Given as goal

abbrev pub ghosts-leave_as : goal.ghosts-leave_as
ghosts-leave_as a = record { added = map (λ x. (a.hold.pass.number, x)) a.added.now }
