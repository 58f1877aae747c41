use Rattle.std.proofs.Common.{take, length}
use Rattle.book_parts.specs.Flushes.{Moves}
use Rattle.append_vec.specs.Filled.{rows_of}
use Rattle.flush_plan.proofs.rows.rehome_rows.Given as goal

abbrev pub invariant-loop-key : goal.invariant-loop-key
invariant-loop-key l =
    (goal.iterator-loop-key).can_next l.key-iterator ×
    (goal.iterator-loop-key).is_finite l.key-iterator ×
    Moves l.slot l.cell (rows_of (take (length l.yielded) l.accounts)) (take (length l.yielded) l.places) l.fn.index l.index
