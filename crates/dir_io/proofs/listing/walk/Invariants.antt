use Rattle.dir_io.specs.Files.{AllBegin}
use Rattle.dir_io.proofs.listing.walk.Given as goal

abbrev pub invariant-loop-entry : goal.invariant-loop-entry
invariant-loop-entry g l =
    (goal.iterator-loop-entry g).can_next l.entry-iterator ×
    (goal.iterator-loop-entry g).is_finite l.entry-iterator ×
    (AllBegin l.prefix l.fn.names.keys → AllBegin l.prefix l.names.keys)
