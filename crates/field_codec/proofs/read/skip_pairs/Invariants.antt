use Rattle.std.proofs.Common.{length}
use Rattle.field_codec.specs.Reading.{pair_end}
use Rattle.field_codec.proofs.Skipping.{Skipping}
use Rattle.field_codec.proofs.read.skip_pairs.Given as goal

abbrev pub invariant-loop : goal.invariant-loop
invariant-loop l = Skipping (pair_end l.bytes) (length l.bytes) l.count l.counter l.start l.at
