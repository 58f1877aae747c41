use Rattle.std.proofs.Common.{Option, subst}
use Rattle.std.specs.Prelude.{OnOk}
use Rattle.dir_io.specs.Files.{Files}
use Rattle.field_codec.specs.Paths.{prefix_of}
use Rattle.snap_write.specs.Changes.{LeavesOutside, Puts}
use Rattle.vec_scan.specs.Shown.{images_of}
use Rattle.snap_write.specs.Written.{files_of}
use Rattle.snap_write.proofs.Holding.{answer_holds}
use Rattle.snap_write.proofs.Lookups.{all_under, slots_below}
use Rattle.snap_write.proofs.Steps.{outside}
use Rattle.snap_write.proofs.snapshot.write_snapshot.Goals as goal

pub returns-clause-holds : goal.returns-clause-holds
returns-clause-holds g c =
    let name = c.args.name.now in
    let images = images_of c.args.storages.now in
    let laws = c.names_of_files_differ.ensures in
    let read = c.written_images_are_read.ensures in
    let puts = subst (λ (f : Option Files). OnOk c.write_files.result (Puts (files_of name c.args.slot images) f (g.D.Dir.files c.write_files.new.dir))) c.check_new.ensures.files c.write_files.ensures.writing.puts in
    answer_holds laws.slots laws.manifest_apart laws.version_apart laws.version_alone read.image read.len name c.args.slot images (slots_below images c.requires.rise) c.requires.upto c.write_files.result
    (g.D.Dir.files c.args.dir.now) (g.D.Dir.files c.write_files.new.dir) puts c.write_files.ensures.fit c.write_files.ensures.manifest c.in_ok-check_new.ensures.exact

pub returns-clause-others : goal.returns-clause-others
returns-clause-others g c =
    let name = c.args.name.now in
    let images = images_of c.args.storages.now in
    let laws = c.names_of_files_differ.ensures in
    subst (λ (f : Option Files). LeavesOutside (prefix_of name) f (g.D.Dir.files c.write_files.new.dir)) c.check_new.ensures.files
    (outside (prefix_of name) (files_of name c.args.slot images) (g.D.Dir.files c.check_new.new.dir) (g.D.Dir.files c.write_files.new.dir) (all_under (prefix_of name) name (laws.storage name) (laws.manifest name) (laws.version name) c.args.slot images) c.write_files.ensures.writing.others)
