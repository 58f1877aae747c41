use Rattle.std.proofs.Common.{length}
use Rattle.field_codec.specs.Reading.{field_end}
use Rattle.field_codec.proofs.Skipping.{Skipping}
use Rattle.field_codec.proofs.read.skip_numbers.Given as goal

abbrev pub invariant-loop : goal.invariant-loop
invariant-loop l = Skipping (field_end l.bytes 8) (length l.bytes) l.count l.counter l.start l.at
