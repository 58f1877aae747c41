use Rattle.std.proofs.Common.{◌≡◌, ◌++◌, length}
use Rattle.std.specs.String.{string_bytes}
use Rattle.hex.specs.Hex.{encode_lower}
use Rattle.text_fields.proofs.hex_text.push_hex.Given as goal

abbrev pub invariant-loop-left : goal.invariant-loop-left
invariant-loop-left l = string_bytes l.text ++ encode_lower l.left ≡ string_bytes l.fn.text ++ encode_lower l.bytes

abbrev pub decreases-loop-left : goal.decreases-loop-left
decreases-loop-left l = length l.left
