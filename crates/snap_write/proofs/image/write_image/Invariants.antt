use Rattle.std.proofs.Common.{◌≡◌, take}
use Rattle.std.specs.List.{AllByRecursion}
use Rattle.vec_scan.specs.Written.{IsWritableRow, written_image}
use Rattle.snap_write.proofs.Laid.{rows_of}
use Rattle.snap_write.proofs.image.write_image.Given as goal

abbrev pub invariant-loop-offset : goal.invariant-loop-offset
invariant-loop-offset l = record {
  written : l.bytes.items ≡ written_image (take l.offset-index (rows_of l.image.rows));
  writable : AllByRecursion IsWritableRow (take l.offset-index (rows_of l.image.rows));
}
