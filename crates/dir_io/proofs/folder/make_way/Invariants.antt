use Rattle.std.proofs.Common.{string_cmp}
use Rattle.std.specs.BTreeSet.{IsSubset}
use Rattle.dir_io.proofs.folder.make_way.Given as goal

abbrev pub invariant-loop-part : goal.invariant-loop-part
invariant-loop-part g l =
    (goal.iterator-loop-part g).can_next l.part-iterator ×
    (goal.iterator-loop-part g).is_finite l.part-iterator ×
    IsSubset string_cmp l.fn.written l.written
