use Rattle.std.proofs.Common.{◌≡◌, take, flat_map}
use Rattle.std.specs.Io.KnownBytes.{Appends}
use Rattle.adb.specs.Opening.{read_line}
use Rattle.adb.proofs.opening.write_batch.Given as goal

abbrev pub invariant-loop-key : goal.invariant-loop-key
invariant-loop-key g l = record {
  written : Appends (g.K.Sink.taken l.fn.sink) (g.K.Sink.taken l.sink) (flat_map read_line (take l.key-index l.batch));
  kept : g.K.Sink.faults l.sink ≡ g.K.Sink.faults l.fn.sink;
}
