use Rattle.std.proofs.Common.{◌∙◌, ap, sym, string_bytes, map}
use Rattle.std.proofs.lemmas.Result.{err_from_is_err_and}
use Rattle.dir_io.specs.Files.{texts}
use Rattle.field_codec.specs.Manifest.{content_of}
use Rattle.field_codec.specs.FormFaults.{form_seen}
use Rattle.field_codec.proofs.Answering.{second_fails, third_fails, all_pass}
use Rattle.field_codec.proofs.Held.{in_order}
use Rattle.field_codec.proofs.Listed.{paths_same}
use Rattle.field_codec.proofs.checks.form_of_fields.Goals as goal

pub returns-in_err-check_listed-clause-exact : goal.returns-in_err-check_listed-clause-exact
returns-in_err-check_listed-clause-exact c =
    let p = err_from_is_err_and c.from_residual-in_err-check_listed.result c.from_residual-in_err-check_listed.ensures.1 in
    rw (p.1, p.2)
    (second_fails c.args.name.now (texts c.args.names.now) c.args.slot (content_of c.args.fields.now) (map (λ f. string_bytes f.name) c.deref.result.now)
    (ap (map (λ f. string_bytes f.name)) c.deref.ensures.value ∙ paths_same c.args.name.now c.in_ok-files.files.items c.args.fields.now.storages.items c.in_ok-files.ensures) c.in_ok-check_slots.ensures (Unit {0}) form_seen c.in_err-check_listed.field-0.0
    c.in_err-check_listed.ensures)

pub returns-in_err-check_known-clause-exact : goal.returns-in_err-check_known-clause-exact
returns-in_err-check_known-clause-exact c =
    let p = err_from_is_err_and c.from_residual-in_err-check_known.result c.from_residual-in_err-check_known.ensures.1 in
    let same = ap (map (λ f. string_bytes f.name)) (c.deref.ensures.value ∙ sym c.deref-2.ensures.value) in
    rw (p.1, p.2)
    (third_fails c.args.name.now (texts c.args.names.now) c.args.slot (content_of c.args.fields.now) (map (λ f. string_bytes f.name) c.deref-2.result.now)
    (ap (map (λ f. string_bytes f.name)) c.deref-2.ensures.value ∙ paths_same c.args.name.now c.in_ok-files.files.items c.args.fields.now.storages.items c.in_ok-files.ensures) c.in_ok-check_slots.ensures (Unit {0}) form_seen c.in_err-check_known.field-0.0
    (rw (sym same) c.in_ok-check_listed.ensures) c.in_err-check_known.ensures)

pub returns-clause-exact : goal.returns-clause-exact
returns-clause-exact c =
    let same = ap (map (λ f. string_bytes f.name)) (c.deref.ensures.value ∙ sym c.deref-2.ensures.value) in
    all_pass c.args.name.now (texts c.args.names.now) c.args.slot (content_of c.args.fields.now) (map (λ f. string_bytes f.name) c.deref-2.result.now)
    (ap (map (λ f. string_bytes f.name)) c.deref-2.ensures.value ∙ paths_same c.args.name.now c.in_ok-files.files.items c.args.fields.now.storages.items c.in_ok-files.ensures) c.in_ok-check_slots.ensures _
    (λ i. record { slot = c.args.fields.now.slot; files = c.in_ok-files.ensures i }) (rw (sym same) c.in_ok-check_listed.ensures) c.in_ok-check_known.ensures

pub returns-clause-order : goal.returns-clause-order
returns-clause-order c =
    in_order c.args.name.now c.args.slot (content_of c.args.fields.now) _ c.requires.slots c.in_ok-check_slots.ensures (λ i. record { slot = c.args.fields.now.slot; files = c.in_ok-files.ensures i })
