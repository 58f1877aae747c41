use Rattle.std.proofs.Common.{◌-◌, length}
use Rattle.vec_scan.proofs.Scanning.{Scanned}
use Rattle.vec_scan.proofs.scan.scan.Given as goal

abbrev pub invariant-loop-at : goal.invariant-loop-at
invariant-loop-at l = Scanned l.image l.at l.offsets.items

abbrev pub decreases-loop-at : goal.decreases-loop-at
decreases-loop-at l = length l.image - l.at
