use Rattle.std.proofs.Common.{rules}
use Rattle.turn_lock.proofs.Views.{tells_as}
use Rattle.turn_lock.proofs.steps.tell.Goals as goal

pub load-requires : goal.load-requires
load-requires g c = (c.requires.table.0, search rules, tells_as _ _ _ _ _ _ c.requires.live.0 c.requires.live.1)
