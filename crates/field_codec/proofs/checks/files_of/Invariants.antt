use Rattle.std.proofs.Common.{◌≡◌, map, take}
use Rattle.field_codec.specs.Forms.{file_for}
use Rattle.field_codec.specs.FormFaults.{file_seen}
use Rattle.field_codec.proofs.checks.files_of.Given as goal

abbrev pub invariant-loop-storage : goal.invariant-loop-storage
invariant-loop-storage l = map file_seen l.files.items ≡ map (file_for l.fn.name) (take l.storage-index l.storage-items)
