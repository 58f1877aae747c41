use Rattle.std.proofs.Common.{rules, ◌≡◌, ap, ◌∙◌, length}
use Rattle.std.proofs.lemmas.List.{take_at}
use Rattle.hex.specs.Hex.{encode_lower, lower_digits}
use Rattle.hex.proofs.HexLemmas.{length-encode_with}
use Rattle.text_fields.proofs.HexTextLemmas.{digits_are_text}
use Rattle.text_fields.proofs.hex_text.push_piece.Goals as goal

pub from_utf8_unchecked-digits-requires : goal.from_utf8_unchecked-digits-requires
from_utf8_unchecked-digits-requires c =
    let written : c.encode_to_slice.new.output ≡ encode_lower c.args.bytes.now = search rules in
    let len = ap length written ∙ length-encode_with lower_digits c.args.bytes.now in
    digits_are_text c.args.bytes.now _ (take_at c.encode_to_slice.new.output _ _ len ∙ written)
