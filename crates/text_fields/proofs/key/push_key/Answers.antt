use Rattle.std.proofs.Common.{rules, sym, ◌∙◌}
use Rattle.std.specs.Cmp.Lexicographic.{bytes_decides}
use Rattle.hex.specs.Hex.{encode_with}
use Rattle.text_fields.specs.Keys.{key_text}
use Rattle.text_fields.proofs.key.push_key.Goals as goal

-- a value of zeros
pub returns-then-eq-clause-pushed : goal.returns-then-eq-clause-pushed
unfolding key_text encode_with
returns-then-eq-clause-pushed c =
    let zeros = sym c.as_slice.ensures ∙ (bytes_decides c.as_slice.result.now c.as_slice-2.result.now).0 (sym c.eq.ensures ∙ c.if-eq.true) ∙ c.as_slice-2.ensures in
    rw zeros (search rules)
