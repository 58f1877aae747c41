use Rattle.std.proofs.Common.{◌≤◌}
use Rattle.std.specs.Prelude.{IfSome, IsSome}
use Rattle.storage_map.specs.Slots.{live_at}
use Rattle.book_parts.specs.Snaps.{AreInUse}
use Rattle.vec_scan.specs.Shown.{images_of}
use Rattle.book.specs.Snapping.{is_before}
use Rattle.book.proofs.NextSlots.{left_upto}
use Rattle.book.proofs.snapping.storages_upto.Given as goal

abbrev pub invariant-loop-at : goal.invariant-loop-at
invariant-loop-at l = record {
  used : AreInUse (is_before l.slot l.at) l.cells l.map (images_of l.storages.items);
  there : IfSome l.at (λ found. (found ≤ l.slot) × IsSome (live_at l.map found));
}

abbrev pub decreases-loop-at : goal.decreases-loop-at
decreases-loop-at l = left_upto l.slot l.at
