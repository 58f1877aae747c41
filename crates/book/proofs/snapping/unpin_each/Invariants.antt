use Rattle.std.proofs.Common.{take}
use Rattle.book_parts.specs.Snaps.{UnpinsEach, ids_of}
use Rattle.vec_scan.specs.Shown.{images_of}
use Rattle.book.proofs.SnapPins.{PinnedFrom}
use Rattle.book.proofs.snapping.unpin_each.Given as goal

abbrev pub invariant-loop-storage : goal.invariant-loop-storage
invariant-loop-storage l = record {
  each : UnpinsEach (take l.storage-index (ids_of (images_of l.storages))) l.fn.cells l.cells;
  left : PinnedFrom l.storage-index (images_of l.storages) l.cells;
}
