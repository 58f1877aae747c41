use Rattle.std.proofs.Common.{◌≡◌, true, take}
use Rattle.std.specs.List.{list_all}
use Rattle.text_fields.specs.Names.{is_name_char}
use Rattle.text_fields.proofs.names.has_name_chars.Given as goal

abbrev pub invariant-loop-byte : goal.invariant-loop-byte
invariant-loop-byte l = list_all (λ c. is_name_char c) (take l.byte-index l.word) ≡ true
