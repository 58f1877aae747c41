use Rattle.std.proofs.Common.{◌≡◌, ◌≤◌, false, length}
use Rattle.std.specs.List.{AllWithin}
use Rattle.book.specs.Leasing.{is_of}
use Rattle.book.proofs.leasing.place_of_last.Given as goal

abbrev pub invariant-loop-place : goal.invariant-loop-place
invariant-loop-place l = record {
  in_range : l.place ≤ length l.leases;
  none_after : AllWithin (λ x. is_of l.pass l.max_root x ≡ false) l.leases l.place (length l.leases);
}

abbrev pub decreases-loop-place : goal.decreases-loop-place
decreases-loop-place l = l.place
