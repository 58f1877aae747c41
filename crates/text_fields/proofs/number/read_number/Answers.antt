use Rattle.std.proofs.Common.{rules, ◌∙◌, refl, arith}
use Rattle.text_fields.proofs.NumberLemmas.{read_none, read_digit, read_no_digit, read_all}
use Rattle.text_fields.proofs.number.read_number.Goals as goal

pub loop-byte-init : goal.loop-byte-init
loop-byte-init c = (read_none c.args.word.now, omega arith)

pub returns-in_err-number : goal.returns-in_err-number
returns-in_err-number c =
    c.from_residual.ensures ∙ read_no_digit c.args.word.now c.loop-byte.number c.loop-byte.byte-index c.loop-byte.invariant.0 c.loop-byte-test.true (c.in_err-number.ensures.none refl)

pub loop-byte-preserved : goal.loop-byte-preserved
loop-byte-preserved c =
    let more = c.in_ok-number.ensures.more in
    (read_digit c.args.word.now c.loop-byte.number c.in_ok-number.number c.loop-byte.byte-index c.loop-byte.invariant.0 c.loop-byte-test.true more.0 more.1, search rules)

pub returns : goal.returns
returns c =
    read_all c.args.word.now c.loop-byte.number c.loop-byte.byte-index c.loop-byte.invariant.0 c.loop-byte-test.false (search rules) c.if-word-gt-MOST_DIGITS.false c.loop-byte.invariant.1
