use Rattle.std.proofs.Common.{◌≡◌, length}
use Rattle.std.specs.Slice.Iter.{iter_rest}
use Rattle.accounts_index.specs.Inside.{bins_left}
use Rattle.accounts_index.proofs.iter.next_bin.Given as goal

abbrev pub invariant-loop-bin : goal.invariant-loop-bin
invariant-loop-bin l = bins_left (iter_rest l.bins) (iter_rest l.groups) ≡ bins_left (iter_rest l.fn.bins) (iter_rest l.fn.groups)

abbrev pub decreases-loop-bin : goal.decreases-loop-bin
decreases-loop-bin l = length (iter_rest l.groups)
