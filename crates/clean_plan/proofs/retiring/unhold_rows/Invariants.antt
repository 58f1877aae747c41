use Rattle.std.proofs.Common.{take}
use Rattle.vec_scan.specs.Seal.{rows_in}
use Rattle.book_parts.specs.Reclaims.{Unholds}
use Rattle.clean_plan.proofs.retiring.unhold_rows.Given as goal

abbrev pub invariant-loop-offset : goal.invariant-loop-offset
invariant-loop-offset l = Unholds l.slot (take l.offset-index (rows_in l.image)) l.fn.index l.index
