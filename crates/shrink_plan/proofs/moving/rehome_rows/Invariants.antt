use Rattle.std.proofs.Common.{take, length}
use Rattle.shrink_plan.specs.Moving.{FindsAt}
use Rattle.shrink_plan.specs.Places.{rows_at}
use Rattle.shrink_plan.proofs.moving.rehome_rows.Given as goal

abbrev pub invariant-loop-from : goal.invariant-loop-from
invariant-loop-from l =
    (goal.iterator-loop-from).can_next l.from-iterator ×
    (goal.iterator-loop-from).is_finite l.from-iterator ×
    FindsAt l.slot l.cell (take (length l.yielded) (rows_at l.image l.copied)) (take (length l.yielded) l.places) l.fn.index l.index
