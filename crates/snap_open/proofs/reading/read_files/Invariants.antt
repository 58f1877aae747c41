use Rattle.std.proofs.Common.{◌≡◌, ◌++◌, All, map}
use Rattle.std.specs.Vec.Iter.{into_iter_items}
use Rattle.field_codec.specs.FormFaults.{file_seen}
use Rattle.snap_open.specs.Images.{HasBytes, files_of}
use Rattle.snap_open.proofs.reading.read_files.Given as goal

abbrev pub invariant-loop-file : goal.invariant-loop-file
invariant-loop-file g l = record {
  can_next : (goal.iterator-loop-file g).can_next l.file-iterator;
  is_finite : (goal.iterator-loop-file g).is_finite l.file-iterator;
  parts : files_of l.read.items ++ map file_seen (into_iter_items l.file-iterator) ≡ map file_seen l.fn.files.items;
  bytes : All (HasBytes (g.D.Dir.files l.fn.dir)) l.read.items;
  files : g.D.Dir.files l.dir ≡ g.D.Dir.files l.fn.dir;
  synced : g.D.Dir.synced l.dir ≡ g.D.Dir.synced l.fn.dir;
  faults : g.D.Dir.faults l.dir ≡ g.D.Dir.faults l.fn.dir;
}
