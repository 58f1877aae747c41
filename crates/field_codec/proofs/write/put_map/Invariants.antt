use Rattle.std.proofs.Common.{◌≡◌, ◌++◌, All, length, take}
use Rattle.std.specs.List.{flat_map}
use Rattle.le_fields.specs.Fields.{number_bytes}
use Rattle.field_codec.specs.Manifest.{Fits, entry_bytes}
use Rattle.field_codec.proofs.write.put_map.Given as goal

abbrev pub invariant-loop-storage : goal.invariant-loop-storage
invariant-loop-storage l = record {
  written : l.bytes.items ≡ l.fn.bytes.items ++ (number_bytes (length l.storages) ++ flat_map entry_bytes (take l.storage-index l.storages));
  fit : All Fits (take l.storage-index l.storages);
}
