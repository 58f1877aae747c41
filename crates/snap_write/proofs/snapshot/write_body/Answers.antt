use Rattle.std.proofs.Common.{◌≡◌, ◌%◌, ℕ, List, [], ◌∷◌, map, All, ap, subst, sym, ◌∙◌}
use Rattle.std.specs.Prelude.{OnOk}
use Rattle.std.specs.List.Sorted.{IsStrictlyIncreasing}
use Rattle.std.proofs.lemmas.Result.{err_from_is_err_and}
use Rattle.field_codec.specs.declared.fields.Fields.{Fields}
use Rattle.field_codec.specs.declared.fields.FieldStorage.{FieldStorage}
use Rattle.field_codec.specs.Manifest.{Content}
use Rattle.snap_write.specs.Changes.{IsWriting}
use Rattle.vec_scan.specs.Shown.{images_of}
use Rattle.snap_write.specs.Written.{IsWrittenManifest, body_of, content_of, manifest_file, storage_file}
use Rattle.snap_write.proofs.Fronts.{slots_same}
use Rattle.snap_write.proofs.Laid.{all_eights}
use Rattle.snap_write.proofs.Lookups.{manifest_apart}
use Rattle.snap_write.proofs.Steps.{follows, goes_up, within_front}
use Rattle.snap_write.proofs.snapshot.write_body.Goals as goal

pub returns-in_err-fields-clause-writing : goal.returns-in_err-fields-clause-writing
returns-in_err-fields-clause-writing g c =
    let p = err_from_is_err_and c.from_residual.result c.from_residual.ensures.1 in
    let name = c.args.name.now in
    let images = images_of c.args.storages.now in
    rw (p.1, p.2)
    (goes_up Fields (Unit {0}) (map (storage_file name) images) (body_of name c.args.slot images) (within_front (map (storage_file name) images) (manifest_file name (content_of c.args.slot images) ∷ [])) _ _ _ _ c.in_err-fields.field-0.0
    c.in_err-fields.ensures.writing)

pub write_manifest-requires-clause-rise : goal.write_manifest-requires-clause-rise
write_manifest-requires-clause-rise g c =
    let storages = ap (λ (x : Content). x.storages) c.in_ok-fields.ensures.fields in
    subst (λ (l : List ℕ). IsStrictlyIncreasing l) (sym (ap (map (λ (s : FieldStorage). s.slot)) storages ∙ slots_same (images_of c.args.storages.now))) c.requires

pub write_manifest-requires-clause-lengths : goal.write_manifest-requires-clause-lengths
write_manifest-requires-clause-lengths g c =
    let storages = ap (λ (x : Content). x.storages) c.in_ok-fields.ensures.fields in
    subst (λ (l : List FieldStorage). All (λ s. s.len % 8 ≡ 0) l) (sym storages) (all_eights (images_of c.args.storages.now))

pub returns-clause-writing : goal.returns-clause-writing
returns-clause-writing g c =
    let name = c.args.name.now in
    let images = images_of c.args.storages.now in
    let next = subst (λ (x : Content). IsWriting (manifest_file name x ∷ []) (g.D.Dir.files c.write_storages.new.dir) (g.D.Dir.files c.write_manifest.new.dir) (g.D.Dir.faults c.write_storages.new.dir) (g.D.Dir.faults c.write_manifest.new.dir) c.write_manifest.result) c.in_ok-fields.ensures.fields c.write_manifest.ensures.writing in
    follows (map (storage_file name) images) (manifest_file name (content_of c.args.slot images) ∷ []) _ _ _ _ _ _ c.in_ok-fields.fields c.write_manifest.result
    (manifest_apart c.names_of_files_differ.ensures.manifest_apart name images (content_of c.args.slot images)) c.in_ok-fields.ensures.writing next

pub returns-clause-manifest : goal.returns-clause-manifest
returns-clause-manifest g c = subst (λ (x : Content). OnOk c.write_manifest.result (IsWrittenManifest x)) c.in_ok-fields.ensures.fields c.write_manifest.ensures.manifest
