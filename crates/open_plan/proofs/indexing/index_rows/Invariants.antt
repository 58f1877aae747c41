use Rattle.std.proofs.Common.{◌≡◌, ◌+◌, map, take}
use Rattle.book_parts.specs.Opening.{Indexes, distinct_keys}
use Rattle.open_plan.proofs.indexing.index_rows.Given as goal

abbrev pub invariant-loop-offset : goal.invariant-loop-offset
invariant-loop-offset l =
    let done = take l.offset-index l.image.rows in
    Indexes l.slot l.cell done l.fn.index l.index × (l.repeated + distinct_keys (map (λ p. p.row) done) ≡ l.offset-index)
