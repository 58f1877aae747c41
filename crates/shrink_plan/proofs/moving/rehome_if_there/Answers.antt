use Rattle.shrink_plan.proofs.Edits.{there_rehomed}
use Rattle.shrink_plan.proofs.moving.rehome_if_there.Goals as goal

pub returns-then-is_some-clause-versions : goal.returns-then-is_some-clause-versions
returns-then-is_some-clause-versions c = (there_rehomed c.args.slot c.args.key.now.0 c.args.place c.args.index.now c.rehome.new.self c.rehome.ensures).versions

pub returns-then-is_some-clause-holds : goal.returns-then-is_some-clause-holds
returns-then-is_some-clause-holds c = (there_rehomed c.args.slot c.args.key.now.0 c.args.place c.args.index.now c.rehome.new.self c.rehome.ensures).holds
