use Rattle.std.proofs.Common.{◌≡◌, ℕ, List, subst, rules}
use Rattle.std.specs.Prelude.{OnOk}
use Rattle.dir_io.specs.Files.{IsFile, LeavesOthers}
use Rattle.field_codec.specs.Manifest.{content_of}
use Rattle.field_codec.specs.Paths.{manifest_path}
use Rattle.field_codec.specs.Written.{written_manifest}
use Rattle.snap_write.proofs.Steps.{writes_one}
use Rattle.snap_write.proofs.snapshot.write_manifest.Goals as goal

pub returns-clause-writing : goal.returns-clause-writing
returns-clause-writing g c =
    let path : c.deref.result.now ≡ manifest_path c.args.name.now c.args.fields.now.slot = search rules in
    let bytes : c.deref-2.result.now ≡ written_manifest (content_of c.args.fields.now) = search rules in
    let f = g.D.Dir.files c.args.dir.now in
    let h = g.D.Dir.files c.put_file.new.dir in
    writes_one (manifest_path c.args.name.now c.args.fields.now.slot) (written_manifest (content_of c.args.fields.now)) f h _ _ c.put_file.result
    (subst (λ (b : List ℕ). OnOk c.put_file.result (IsFile h (manifest_path c.args.name.now c.args.fields.now.slot) b)) bytes
    (subst (λ (p : List ℕ). OnOk c.put_file.result (IsFile h p c.deref-2.result.now)) path c.put_file.ensures.written))
    (subst (λ (p : List ℕ). LeavesOthers f h p) path c.put_file.ensures.others) c.put_file.ensures.cause c.put_file.ensures.not_there
