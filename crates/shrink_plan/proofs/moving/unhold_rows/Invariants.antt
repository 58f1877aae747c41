use Rattle.std.proofs.Common.{take}
use Rattle.book_parts.specs.Reclaims.{Unholds}
use Rattle.shrink_plan.specs.Places.{rows_at}
use Rattle.shrink_plan.proofs.moving.unhold_rows.Given as goal

abbrev pub invariant-loop-offset : goal.invariant-loop-offset
invariant-loop-offset l = Unholds l.slot (take l.offset-index (rows_at l.image l.dead)) l.fn.index l.index
