use Rattle.std.proofs.Common.{◌≡◌, ◌≤◌, ◌*◌, ◌^◌, ◌-◌, take}
use Rattle.book_parts.specs.Shrinks.{is_found_there}
use Rattle.shrink_plan.proofs.RowsSorted.{bytes_in}
use Rattle.shrink_plan.proofs.sorting.bytes_to_copy.Given as goal

abbrev pub invariant-loop-offset : goal.invariant-loop-offset
invariant-loop-offset l = record {
  bytes : l.bytes ≡ bytes_in (is_found_there l.index l.slot l.cell) (take l.offset-index l.image.rows);
  most : l.bytes ≤ l.offset-index * (2 ^ 64 - 1);
}
