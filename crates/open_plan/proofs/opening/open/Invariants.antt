use Rattle.std.proofs.Common.{◌≡◌, ◌++◌, length}
use Rattle.std.specs.Vec.Iter.{into_iter_items, into_iter_len}
use Rattle.open_plan.proofs.Openings.{Opens}
use Rattle.open_plan.proofs.opening.open.Given as goal

abbrev pub invariant-loop-storage : goal.invariant-loop-storage
invariant-loop-storage l = (l.yielded ++ into_iter_items l.storage-iterator ≡ l.fn.storages.items)
    × (into_iter_len l.storage-iterator ≡ length (into_iter_items l.storage-iterator))
    × Opens l.fn.cells.limit l.slot l.more_roots l.yielded l.index l.cells l.map
