use Rattle.std.proofs.Common.{◌≡◌, map, take, Ok, All}
use Rattle.snap_write.specs.Changes.{IsWriting}
use Rattle.vec_scan.specs.Shown.{images_of}
use Rattle.snap_write.specs.Written.{IsFit, storage_file, storage_of}
use Rattle.snap_write.proofs.snapshot.write_storages.Given as goal

abbrev pub invariant-loop-sealed : goal.invariant-loop-sealed
invariant-loop-sealed g l = record {
  writing : IsWriting {X = Unit {0}} (map (storage_file l.name) (images_of (take l.sealed-index l.storages))) (g.D.Dir.files l.fn.dir) (g.D.Dir.files l.dir) (g.D.Dir.faults l.fn.dir) (g.D.Dir.faults l.dir) (Ok tt);
  fields : l.written.items ≡ map storage_of (images_of (take l.sealed-index l.storages));
  fit : All IsFit (images_of (take l.sealed-index l.storages));
}
