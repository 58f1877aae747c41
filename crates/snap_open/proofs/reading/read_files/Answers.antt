use Rattle.std.proofs.Common.{◌++◌, List, ap, sym, ◌∙◌, map}
use Rattle.std.specs.Vec.Iter.{into_iter_items}
use Rattle.field_codec.specs.declared.form.FormFile.{FormFile}
use Rattle.field_codec.specs.FormFaults.{file_seen}
use Rattle.snap_open.specs.Images.{files_of}
use Rattle.snap_open.proofs.ReadParts.{next_there}
use Rattle.snap_open.proofs.reading.read_files.Goals as goal

pub read_file-requires : goal.read_file-requires
read_file-requires g c =
    let i = c.loop-file.invariant in
    let front = files_of c.loop-file.read.items in
    next_there (g.D.Dir.files c.args.dir.now) (g.D.Dir.files c.loop-file.dir) front (file_seen c.in-Some.file) (map file_seen (into_iter_items c.next.new.self)) (map file_seen c.args.files.items) i.files
    (ap (λ (l : List FormFile). front ++ map file_seen l) (sym c.in-Some.ensures.steps.0) ∙ i.parts) c.requires
