use Rattle.std.proofs.Common.{◌≡◌, None, find, not, take, string_bytes}
use Rattle.dir_io.specs.Files.{is_among, texts}
use Rattle.field_codec.proofs.checks.first_missing.Given as goal

abbrev pub invariant-loop-file : goal.invariant-loop-file
invariant-loop-file l = find (λ file. not (is_among (texts l.names) (string_bytes file.name))) (take l.file-index l.files) ≡ None
