use Rattle.std.proofs.Common.{◌≡◌, ◌++◌, ◌-◌, ◌≤◌, length, map, All}
use Rattle.book.specs.Listing.{AreKept, IsSeen}
use Rattle.book.proofs.listing.find_on.Given as goal

abbrev pub invariant-loop-keys : goal.invariant-loop-keys
invariant-loop-keys l = record {
  next : map (λ e. e.0) l.fn.keys ≡ map (λ f. f.0.0) l.found.items ++ map (λ e. e.0) l.keys;
  kept : AreKept l.book.index l.keys;
  seen : All (λ f. IsSeen l.book l.view f.0.0 f.1) l.found.items;
  few : length l.found.items ≤ 32;
}

abbrev pub decreases-loop-keys : goal.decreases-loop-keys
decreases-loop-keys l = 32 - length l.found.items
