use Rattle.std.proofs.Common.{◌≡◌, map, take, string_bytes}
use Rattle.dir_io.specs.Files.{texts}
use Rattle.field_codec.specs.Forms.{known_with}
use Rattle.field_codec.proofs.checks.known_paths.Given as goal

abbrev pub invariant-loop-file : goal.invariant-loop-file
invariant-loop-file l = texts l.paths.items ≡ known_with l.fn.name l.slot (map (λ f. string_bytes f.name) (take l.file-index l.files))
