use Rattle.std.proofs.Common.{◌≤◌, ◌*◌, ◌^◌, ◌-◌, take}
use Rattle.shrink_plan.proofs.RowsSorted.{Sorts}
use Rattle.shrink_plan.proofs.sorting.sort_rows.Given as goal

abbrev pub invariant-loop-offset : goal.invariant-loop-offset
invariant-loop-offset l = record {
  sorts : Sorts l.index l.slot l.cell (take l.offset-index l.image.rows) l.rows;
  most : l.rows.bytes ≤ l.offset-index * (2 ^ 64 - 1);
}
