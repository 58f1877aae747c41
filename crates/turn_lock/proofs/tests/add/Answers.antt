use Rattle.std.proofs.Common.{rules}
use Rattle.turn_lock.proofs.Logged.{log_grows}
use Rattle.turn_lock.proofs.tests.add.Goals as goal

pub leave-requires-clause-stands : goal.leave-requires-clause-stands
leave-requires-clause-stands g c = log_grows _ c.args.turn.now.start.numbers.items c.enter-hold.result.value.numbers.items c.extend_from_slice.new.self.items c.args.numbers.now c.enter-hold.result.pass.seen c.enter-hold.ensures.stands (search rules)
