use Rattle.std.proofs.Common.{◌≡◌, ◌+◌, take}
use Rattle.cell_table.specs.Cells.{pins}
use Rattle.book_parts.specs.Snaps.{MayPin, PinsEach, ids_of}
use Rattle.vec_scan.specs.Shown.{images_of}
use Rattle.book.proofs.snapping.pin_each.Given as goal

abbrev pub invariant-loop-storage : goal.invariant-loop-storage
invariant-loop-storage l = record {
  each : PinsEach (take l.storage-index (ids_of (images_of l.storages))) l.fn.cells l.cells;
  live : MayPin (images_of l.storages) l.cells;
  count : pins l.cells.cells ≡ pins l.fn.cells.cells + l.storage-index;
}
