use Rattle.std.proofs.Common.{◌≡◌, ◌++◌, length}
use Rattle.std.specs.Slice.Iter.{iter_rest}
use Rattle.accounts_index.specs.Bins.{joined}
use Rattle.accounts_index.specs.Index.{versions_of}
use Rattle.accounts_index.specs.Inside.{seen, bins_left}
use Rattle.accounts_index.proofs.iter.IterIterator.next.Given as goal

abbrev pub invariant-loop-entry : goal.invariant-loop-entry
invariant-loop-entry l =
    let i = l.self-inside in
    versions_of (seen (iter_rest i.entries) ++ joined (bins_left (iter_rest i.bins) (iter_rest i.groups))) ≡ l.fn.self

abbrev pub decreases-loop-entry : goal.decreases-loop-entry
decreases-loop-entry l = length (bins_left (iter_rest l.self-inside.bins) (iter_rest l.self-inside.groups))
