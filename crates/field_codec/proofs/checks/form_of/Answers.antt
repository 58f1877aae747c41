use Rattle.std.proofs.lemmas.Result.{err_from_is_err_and}
use Rattle.dir_io.specs.Files.{texts}
use Rattle.field_codec.specs.Manifest.{content_of}
use Rattle.field_codec.proofs.Answering.{unread_gives, read_gives}
use Rattle.field_codec.proofs.checks.form_of.Goals as goal

pub returns-in_err-fields-clause-exact : goal.returns-in_err-fields-clause-exact
returns-in_err-fields-clause-exact c =
    let p = err_from_is_err_and c.from_residual.result c.from_residual.ensures.1 in
    rw (p.1, p.2) (unread_gives c.args.name.now (texts c.args.names.now) c.args.slot c.args.manifest.now c.in_err-fields.field-0.0 c.in_err-fields.ensures.exact)

pub returns-clause-exact : goal.returns-clause-exact
returns-clause-exact c = read_gives c.args.name.now (texts c.args.names.now) c.args.slot c.args.manifest.now (content_of c.in_ok-fields.fields) c.form_of_fields.result c.in_ok-fields.ensures.found c.form_of_fields.ensures.exact
