use Rattle.storage_map.proofs.Ranges.{IsRest}
use Rattle.storage_map.proofs.slots.next_from.Given as goal

abbrev pub invariant-loop-slot : goal.invariant-loop-slot
invariant-loop-slot l =
    (goal.iterator-loop-slot).can_next l.slot-iterator × (goal.iterator-loop-slot).is_finite l.slot-iterator × IsRest l.slots.entries l.from l.slot-iterator
