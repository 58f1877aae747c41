use Rattle.std.proofs.Common.{◌≡◌, take, get_or, map, ap, ◌∙◌, arith}
use Rattle.std.proofs.lemmas.Grind.{common_steps}
use Rattle.field_codec.specs.declared.fields.FieldStorage.{FieldStorage}
use Rattle.field_codec.specs.declared.form.FormFile.{FormFile}
use Rattle.field_codec.specs.Forms.{file_for}
use Rattle.field_codec.proofs.Listed.{file_next}
use Rattle.field_codec.proofs.checks.files_of.Goals as goal

pub loop-storage-preserved : goal.loop-storage-preserved
loop-storage-preserved c =
    let none : FieldStorage = record { slot = 0; id = 0; len = 0 } in
    let s = get_or c.deref-storage-items.result.now c.loop-storage.storage-index none in
    let file : FormFile = record { slot = s.slot; len = s.len; name = c.in_ok-storage_path.field-0 } in
    file_next c.args.name.now c.deref-storage-items.result.now c.loop-storage.storage-index none c.loop-storage.files.items _ file (omega arith)
    (λ i. record { slot = s.slot; len = s.len; path = c.in_ok-storage_path.ensures i }) c.loop-storage.invariant c.in_ok-push.ensures.items

pub returns : goal.returns
returns c =
    let all : take c.loop-storage.storage-index c.deref-storage-items.result.now ≡ c.args.fields.now.storages.items = grind (arith, common_steps) in
    c.loop-storage.invariant ∙ ap (map (file_for c.args.name.now)) all
