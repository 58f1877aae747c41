use Rattle.std.proofs.lemmas.Result.{IfOk-weaker}
use Rattle.field_codec.specs.FormFaults.{form_seen}
use Rattle.snap_open.proofs.Whole.{all_there, opened_from, why_not}
use Rattle.snap_open.proofs.snapshot.open_snapshot.Goals as goal

pub open_form-requires-clause-there : goal.open_form-requires-clause-there
open_form-requires-clause-there g c =
    all_there c.held_forms_are_found.ensures.held c.args.name.now (form_seen c.in_ok-form.form) (g.D.Dir.files c.args.dir.now) (g.D.Dir.files c.read_form.new.dir) c.in_ok-form.ensures.files c.in_ok-form.ensures.exact

pub returns-clause-opened : goal.returns-clause-opened
returns-clause-opened g c =
    IfOk-weaker c.open_form.result _ _
    (opened_from c.held_forms_are_found.ensures.held c.args.name.now (form_seen c.in_ok-form.form) c.args.budget (g.D.Dir.files c.args.dir.now) (g.D.Dir.files c.read_form.new.dir) c.in_ok-form.ensures.files c.in_ok-form.ensures.exact)
    c.open_form.ensures.opened

pub returns-clause-refused : goal.returns-clause-refused
returns-clause-refused g c =
    why_not c.held_forms_are_found.ensures.held c.args.name.now (form_seen c.in_ok-form.form) c.args.budget (g.D.Dir.files c.args.dir.now) (g.D.Dir.files c.read_form.new.dir) c.in_ok-form.ensures.files c.in_ok-form.ensures.exact c.open_form.result
    c.open_form.ensures.refused
