use Rattle.std.proofs.Common.{◌≡◌, ◌≤◌, eqb, false, length}
use Rattle.std.specs.List.{AllWithin}
use Rattle.std.specs.Vec.{vec_capacity}
use Rattle.storage_map.proofs.emptied.take.Given as goal

abbrev pub invariant-loop-at : goal.invariant-loop-at
invariant-loop-at l = record {
  items : l.slots.items ≡ l.fn.slots.items;
  room : vec_capacity l.slots ≡ vec_capacity l.fn.slots;
  within : l.at ≤ length l.slots.items;
  none : AllWithin (λ s. eqb s l.slot ≡ false) l.slots.items l.at (length l.slots.items);
}

abbrev pub decreases-loop-at : goal.decreases-loop-at
decreases-loop-at l = l.at
