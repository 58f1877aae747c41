use Rattle.std.proofs.Common.{[], ◌∷◌, Option, Ok, subst, sym}
use Rattle.std.proofs.lemmas.Result.{err_from_is_err_and}
use Rattle.dir_io.specs.Files.{Files}
use Rattle.field_codec.specs.Paths.{version_path}
use Rattle.snap_write.specs.Changes.{TouchesOnly}
use Rattle.vec_scan.specs.Shown.{images_of}
use Rattle.snap_write.specs.Written.{body_of, files_of, version_file}
use Rattle.snap_write.proofs.Lookups.{body_apart, version_apart, version_no_body}
use Rattle.snap_write.proofs.Steps.{breaks, ends, follows, goes_up, last_behind, last_untouched, within_front, within_itself}
use Rattle.snap_write.proofs.snapshot.write_files.Goals as goal

pub returns-in_err-write_body-clause-writing : goal.returns-in_err-write_body-clause-writing
returns-in_err-write_body-clause-writing g c =
    let p = err_from_is_err_and c.from_residual.result c.from_residual.ensures.1 in
    let name = c.args.name.now in
    let images = images_of c.args.storages.now in
    rw (p.1, p.2)
    (goes_up (Unit {0}) (Unit {0}) (body_of name c.args.slot images) (files_of name c.args.slot images) (within_front (body_of name c.args.slot images) (version_file name ∷ [])) _ _ _ _ c.in_err-write_body.field-0.0 c.in_err-write_body.ensures.writing)

pub returns-in_err-write_body-clause-last : goal.returns-in_err-write_body-clause-last
returns-in_err-write_body-clause-last g c =
    let name = c.args.name.now in
    let images = images_of c.args.storages.now in
    let laws = c.names_of_files_differ.ensures in
    last_untouched (version_path name) (body_of name c.args.slot images) _ _ (version_no_body laws.version_apart laws.version_alone name c.args.slot images) c.in_err-write_body.ensures.writing.others

pub returns-in_err-write_version-clause-writing : goal.returns-in_err-write_version-clause-writing
returns-in_err-write_version-clause-writing g c =
    let p = err_from_is_err_and c.from_residual-in_err-write_version.result c.from_residual-in_err-write_version.ensures.1 in
    let name = c.args.name.now in
    let images = images_of c.args.storages.now in
    rw (p.1, p.2)
    (breaks (Unit {0}) (body_of name c.args.slot images) (version_file name ∷ []) (files_of name c.args.slot images) _ _ _ _ _ _ c.in_ok-write_body.field-0 c.in_err-write_version.field-0.0 (within_itself (files_of name c.args.slot images))
    c.in_ok-write_body.ensures.writing c.in_err-write_version.ensures)

pub returns-in_err-write_version-clause-last : goal.returns-in_err-write_version-clause-last
returns-in_err-write_version-clause-last g c =
    let name = c.args.name.now in
    let images = images_of c.args.storages.now in
    let laws = c.names_of_files_differ.ensures in
    last_behind (version_path name) (body_of name c.args.slot images) (version_file name ∷ []) _ _ _ (body_apart laws.version_apart laws.version_alone name c.args.slot images) c.in_ok-write_body.ensures.writing.puts c.write_version.ensures.others

pub returns-clause-writing : goal.returns-clause-writing
returns-clause-writing g c =
    let name = c.args.name.now in
    let images = images_of c.args.storages.now in
    let laws = c.names_of_files_differ.ensures in
    let both = follows (body_of name c.args.slot images) (version_file name ∷ []) _ _ _ _ _ _ c.in_ok-write_body.field-0 (Ok c.in_ok-write_version.field-0)
    (version_apart laws.version_apart laws.version_alone name c.args.slot images) c.in_ok-write_body.ensures.writing c.in_ok-write_version.ensures in
    ends (files_of name c.args.slot images) _ _ _ _ _ _ c.in_ok-write_version.field-0 c.sync.result c.sync.ensures.files c.sync.ensures.not_there c.sync.ensures.cause both

pub returns-clause-last : goal.returns-clause-last
returns-clause-last g c =
    let name = c.args.name.now in
    let images = images_of c.args.storages.now in
    let laws = c.names_of_files_differ.ensures in
    let touches = subst (λ (h : Option Files). TouchesOnly (version_file name ∷ []) (g.D.Dir.files c.write_body.new.dir) h) (sym c.sync.ensures.files) c.write_version.ensures.others in
    last_behind (version_path name) (body_of name c.args.slot images) (version_file name ∷ []) _ _ _ (body_apart laws.version_apart laws.version_alone name c.args.slot images) c.in_ok-write_body.ensures.writing.puts touches
