use Rattle.std.proofs.Common.{string_bytes, refl, rules}
use Rattle.dir_io.specs.Files.{is_among, texts}
use Rattle.field_codec.specs.Forms.{NoFile}
use Rattle.field_codec.proofs.Listed.{outside_some, outside_none}
use Rattle.field_codec.proofs.checks.check_listed.Goals as goal

pub returns-in_ok-clone-in-Some : goal.returns-in_ok-clone-in-Some
returns-in_ok-clone-in-Some c =
    let among = is_among (texts c.args.names.now) in
    outside_some (λ f. string_bytes f.name) NoFile among among c.args.files.now (λ q. refl) c.in-Some.file.now (string_bytes c.in_ok-clone-in-Some.field-0) c.in-Some.ensures (search rules)

pub returns-in-None : goal.returns-in-None
returns-in-None c =
    let among = is_among (texts c.args.names.now) in
    outside_none (λ f. string_bytes f.name) NoFile among among c.args.files.now (λ q. refl) c.in-None.ensures
