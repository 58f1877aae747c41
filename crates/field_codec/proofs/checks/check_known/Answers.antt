use Rattle.std.proofs.Common.{map, string_bytes, rules, ◌∙◌, ap}
use Rattle.dir_io.specs.Files.{is_among, texts}
use Rattle.std.specs.BTreeSet.{contains_text}
use Rattle.field_codec.specs.Forms.{UnknownFile, known_with}
use Rattle.field_codec.proofs.Listed.{outside_some, outside_none}
use Rattle.field_codec.proofs.checks.check_known.Goals as goal

pub returns-in-Some : goal.returns-in-Some
returns-in-Some c =
    outside_some string_bytes UnknownFile (is_among (known_with c.args.name.now c.args.fields.now.slot (map (λ f. string_bytes f.name) c.args.files.now))) (contains_text c.in_ok-known.known) c.args.names.now
    (λ q. c.in_ok-known.ensures q ∙ ap (λ l. is_among (texts l) q) c.deref.ensures.value ∙ ap (λ l. is_among l q) c.in_ok-paths.ensures) c.in-Some.name.now (string_bytes c.in_ok-clone-in-Some.field-0) c.in-Some.ensures (search rules)

pub returns : goal.returns
returns c =
    outside_none string_bytes UnknownFile (is_among (known_with c.args.name.now c.args.fields.now.slot (map (λ f. string_bytes f.name) c.args.files.now))) (contains_text c.in_ok-known.known) c.args.names.now
    (λ q. c.in_ok-known.ensures q ∙ ap (λ l. is_among (texts l) q) c.deref.ensures.value ∙ ap (λ l. is_among l q) c.in_ok-paths.ensures) c.in-None.ensures
