use Rattle.std.proofs.Common.{◌≡◌, ◌++◌, ◌∷◌, [], map, Ok, Err, ap, subst, sym, ◌∙◌, rules}
use Rattle.std.proofs.lemmas.Result.{err_from_is_err_and}
use Rattle.dir_io.specs.Files.{Files}
use Rattle.field_codec.specs.declared.fields.Fields.{Fields}
use Rattle.field_codec.specs.declared.fields.FieldStorage.{FieldStorage}
use Rattle.vec_scan.specs.Image.{Image}
use Rattle.snap_write.specs.Changes.{IsWriting}
use Rattle.vec_scan.specs.Shown.{images_of}
use Rattle.snap_write.specs.Written.{IsFit, storage_file, storage_of}
use Rattle.snap_write.proofs.Fronts.{apart_next, fields_next, fit_next, front, front_next, next_within}
use Rattle.snap_write.proofs.Steps.{answers, breaks, follows, stops}
use Rattle.snap_write.proofs.snapshot.write_storages.Goals as goal

pub returns-in_err-write_storage-clause-writing : goal.returns-in_err-write_storage-clause-writing
returns-in_err-write_storage-clause-writing g c =
    let p = err_from_is_err_and c.from_residual-in_err-write_storage.result c.from_residual-in_err-write_storage.ensures.1 in
    let name = c.args.name.now in
    let storages = c.args.storages.now in
    let i = c.loop-sealed.sealed-index in
    let image : c.deref.result.now ≡ c.sealed-item.result.value = search rules in
    let next = subst (λ (x : Image). IsWriting {X = FieldStorage} (storage_file name x ∷ []) (g.D.Dir.files c.loop-sealed.dir) (g.D.Dir.files c.write_storage.new.dir) (g.D.Dir.faults c.loop-sealed.dir) (g.D.Dir.faults c.write_storage.new.dir) (Err c.in_err-write_storage.field-0.0)) image c.in_err-write_storage.ensures.writing in
    rw (p.1, p.2)
    (breaks Fields (front name storages i) (storage_file name c.sealed-item.result.value ∷ []) (map (storage_file name) (images_of storages)) _ _ _ _ _ _ tt c.in_err-write_storage.field-0.0
    (next_within name storages i c.sealed-item.result c.loop-sealed-test.true c.sealed-item.is) c.loop-sealed.invariant.writing next)

pub returns-in_err-push-clause-writing : goal.returns-in_err-push-clause-writing
returns-in_err-push-clause-writing g c =
    let p = err_from_is_err_and c.from_residual-in_err-push.result c.from_residual-in_err-push.ensures.1 in
    let name = c.args.name.now in
    let storages = c.args.storages.now in
    let i = c.loop-sealed.sealed-index in
    let s = c.sealed-item.result in
    let image : c.deref.result.now ≡ c.sealed-item.result.value = search rules in
    let next = subst (λ (x : Image). IsWriting {X = FieldStorage} (storage_file name x ∷ []) (g.D.Dir.files c.loop-sealed.dir) (g.D.Dir.files c.write_storage.new.dir) (g.D.Dir.faults c.loop-sealed.dir) (g.D.Dir.faults c.write_storage.new.dir) (Ok c.in_ok-write_storage.field-0)) image c.in_ok-write_storage.ensures.writing in
    let fits = subst IsFit image c.in_ok-write_storage.ensures.fit in
    let apart = apart_next name storages i s c.loop-sealed-test.true c.sealed-item.is c.names_of_files_differ.ensures.slots c.requires c.loop-sealed.invariant.fit fits in
    rw (p.1, p.2)
    (stops FieldStorage Fields (front name storages i ++ storage_file name s.value ∷ []) (map (storage_file name) (images_of storages)) (next_within name storages i s c.loop-sealed-test.true c.sealed-item.is) _ _ _ _ c.in_ok-write_storage.field-0
    (follows (front name storages i) (storage_file name s.value ∷ []) _ _ _ _ _ _ tt (Ok c.in_ok-write_storage.field-0) apart c.loop-sealed.invariant.writing next))

pub loop-sealed-preserved : goal.loop-sealed-preserved
loop-sealed-preserved g c =
    let name = c.args.name.now in
    let storages = c.args.storages.now in
    let i = c.loop-sealed.sealed-index in
    let s = c.sealed-item.result in
    let lt = c.loop-sealed-test.true in
    let image : c.deref.result.now ≡ c.sealed-item.result.value = search rules in
    let next = subst (λ (x : Image). IsWriting {X = FieldStorage} (storage_file name x ∷ []) (g.D.Dir.files c.loop-sealed.dir) (g.D.Dir.files c.write_storage.new.dir) (g.D.Dir.faults c.loop-sealed.dir) (g.D.Dir.faults c.write_storage.new.dir) (Ok c.in_ok-write_storage.field-0)) image c.in_ok-write_storage.ensures.writing in
    let fits = subst IsFit image c.in_ok-write_storage.ensures.fit in
    let apart = apart_next name storages i s lt c.sealed-item.is c.names_of_files_differ.ensures.slots c.requires c.loop-sealed.invariant.fit fits in
    let all = answers (front name storages i ++ storage_file name s.value ∷ []) _ _ _ _ c.in_ok-write_storage.field-0 tt
    (follows (front name storages i) (storage_file name s.value ∷ []) _ _ _ _ _ _ tt (Ok c.in_ok-write_storage.field-0) apart c.loop-sealed.invariant.writing next) in
    record {
      writing = subst (λ (a : Files). IsWriting {X = Unit {0}} a (g.D.Dir.files c.args.dir.now) (g.D.Dir.files c.write_storage.new.dir) (g.D.Dir.faults c.args.dir.now) (g.D.Dir.faults c.write_storage.new.dir) (Ok tt)) (sym (front_next name storages i s lt c.sealed-item.is)) all;
      fields = fields_next name storages i s lt c.sealed-item.is c.loop-sealed.written.items c.push.new.self.items c.in_ok-write_storage.field-0 c.loop-sealed.invariant.fields (c.in_ok-write_storage.ensures.storage ∙ ap storage_of image) c.in_ok-push.ensures.items;
      fit = fit_next name storages i s lt c.sealed-item.is c.loop-sealed.invariant.fit fits;
    }
