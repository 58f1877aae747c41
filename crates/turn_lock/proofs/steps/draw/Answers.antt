use Rattle.std.proofs.Common.{rules}
use Rattle.turn_lock.proofs.Taking.{draws}
use Rattle.turn_lock.proofs.steps.draw.Goals as goal

pub fetch_add-requires : goal.fetch_add-requires
fetch_add-requires g c = let r = c.requires.rests in (c.requires.table.0, search rules, draws _ _ _ _ _ _ _ r.live r.free r.idle)
