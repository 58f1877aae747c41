use Rattle.std.proofs.Common.{◌≡◌, take}
use Rattle.dir_io.specs.Files.{texts}
use Rattle.field_codec.specs.Paths.{manifest_slots}
use Rattle.field_codec.proofs.checks.manifest_slots.Given as goal

abbrev pub invariant-loop-path : goal.invariant-loop-path
invariant-loop-path l = l.slots.items ≡ manifest_slots l.name (texts (take l.path-index l.names))
