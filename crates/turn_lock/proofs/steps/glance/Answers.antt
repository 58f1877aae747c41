use Rattle.std.proofs.Common.{rules}
use Rattle.turn_lock.proofs.Taking.{glances}
use Rattle.turn_lock.proofs.steps.glance.Goals as goal

pub load-requires : goal.load-requires
load-requires g c = (c.requires.table.0, search rules, glances _ _ _ _ _ _ _)
