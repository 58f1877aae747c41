use Rattle.std.proofs.Common.{not, sym, ap, ◌∙◌, string_bytes, arith}
use Rattle.dir_io.specs.Files.{is_among, texts}
use Rattle.field_codec.proofs.Listed.{first_there, none_more}
use Rattle.field_codec.proofs.checks.first_missing.Goals as goal

pub returns-then-not-is_listed : goal.returns-then-not-is_listed
returns-then-not-is_listed c =
    let names = texts c.args.names.now in
    first_there (λ file. not (is_among names (string_bytes file.name))) c.args.files.now c.loop-file.file-index c.file-item.result (omega arith) c.file-item.is c.loop-file.invariant
    (ap (λ path. not (is_among names path)) (sym c.deref.ensures) ∙ ap not (sym c.is_listed.ensures ∙ c.if-not-is_listed.true))

pub loop-file-preserved : goal.loop-file-preserved
loop-file-preserved c =
    let names = texts c.args.names.now in
    none_more (λ file. not (is_among names (string_bytes file.name))) c.args.files.now c.loop-file.file-index c.file-item.result (omega arith) c.file-item.is c.loop-file.invariant
    (ap (λ path. not (is_among names path)) (sym c.deref.ensures) ∙ ap not (sym c.is_listed.ensures ∙ c.if-not-is_listed.false))
