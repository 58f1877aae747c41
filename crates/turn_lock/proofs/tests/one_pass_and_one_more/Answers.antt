use Rattle.std.proofs.Common.{rules}
use Rattle.turn_lock.proofs.Logged.{whole_again}
use Rattle.turn_lock.proofs.tests.one_pass_and_one_more.Goals as goal

pub close-log-requires-clause-whole : goal.close-log-requires-clause-whole
close-log-requires-clause-whole g c = whole_again c.join-pass.result.numbers c.join-pass.result.stock (search rules) (search rules)
