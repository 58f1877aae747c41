use Rattle.std.proofs.Common.{◌≡◌, map, take}
use Rattle.open_plan.proofs.roots.roots_of.Given as goal

abbrev pub invariant-loop-storage : goal.invariant-loop-storage
invariant-loop-storage l = l.slots.items ≡ map (λ i. i.slot) (take l.storage-index l.storages)
