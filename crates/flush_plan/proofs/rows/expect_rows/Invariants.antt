use Rattle.std.proofs.Common.{take}
use Rattle.book_parts.specs.Flushes.{Expects}
use Rattle.append_vec.specs.Filled.{rows_of}
use Rattle.flush_plan.proofs.rows.expect_rows.Given as goal

abbrev pub invariant-loop-at : goal.invariant-loop-at
invariant-loop-at l = Expects l.slot (rows_of (take l.at l.accounts)) l.fn.index l.index
