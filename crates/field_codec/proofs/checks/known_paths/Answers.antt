use Rattle.std.proofs.Common.{◌≡◌, take, map, ap, ◌∙◌, arith, rules, string_bytes}
use Rattle.std.proofs.lemmas.Grind.{common_steps}
use Rattle.field_codec.specs.Forms.{known_with}
use Rattle.field_codec.proofs.Listed.{known_next}
use Rattle.field_codec.proofs.checks.known_paths.Goals as goal

pub loop-file-preserved : goal.loop-file-preserved
loop-file-preserved c =
    known_next c.args.name.now c.args.slot c.args.files.now c.loop-file.file-index c.file-item.result c.loop-file.paths.items _ c.in_ok-clone.field-0 (omega arith) c.file-item.is (search rules) c.loop-file.invariant c.in_ok-push-4.ensures.items

pub returns : goal.returns
returns c =
    let all : take c.loop-file.file-index c.args.files.now ≡ c.args.files.now = grind (arith, common_steps) in
    c.loop-file.invariant ∙ ap (λ l. known_with c.args.name.now c.args.slot (map (λ f. string_bytes f.name) l)) all
