use Rattle.turn_lock.proofs.Ends.{opens_as}
use Rattle.turn_lock.proofs.turn.Turn.new.Goals as goal

pub new-requires-2 : goal.new-requires-2
new-requires-2 g c = opens_as g.V.Standing.stands g.V.Standing.bears _ _ c.in-Ok.counted _ _ c.of-key.ensures c.in-Ok.ensures.ok c.in-Ok-with_capacity.ensures.items c.push_reserved.ensures.items c.requires.stands
