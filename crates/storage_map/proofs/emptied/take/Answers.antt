use Rattle.std.proofs.Common.{ap, arith}
use Rattle.storage_map.specs.Inside.{times_in}
use Rattle.storage_map.proofs.NoneAlive.{not_there}
use Rattle.storage_map.proofs.emptied.take.Goals as goal

-- a slot that stands in the list is found
pub unreachable-requires : goal.unreachable-requires
unreachable-requires c =
    let none = not_there c.loop-at.slots.items c.args.slot (λ k d lo hi. c.loop-at.invariant.none k d (omega arith) hi) in
    omega (arith, c.requires, none, ap (times_in c.args.slot) c.loop-at.invariant.items)
