use Rattle.dir_io.specs.Files.{AllBegin}
use Rattle.dir_io.proofs.listing.list.Given as goal

abbrev pub invariant-loop : goal.invariant-loop
invariant-loop g l = AllBegin l.prefix l.names.keys
