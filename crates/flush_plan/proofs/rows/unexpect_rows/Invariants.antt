use Rattle.std.proofs.Common.{take}
use Rattle.book_parts.specs.Flushes.{Unexpects}
use Rattle.append_vec.specs.Filled.{rows_of}
use Rattle.flush_plan.proofs.rows.unexpect_rows.Given as goal

abbrev pub invariant-loop-key : goal.invariant-loop-key
invariant-loop-key l = Unexpects l.slot (rows_of (take l.key-index l.accounts)) l.fn.index l.index
