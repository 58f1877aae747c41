use Rattle.text_fields.proofs.DigitLemmas.{pair_found, first_no_digit, second_no_digit}
use Rattle.std.proofs.Common.{arith}
use Rattle.text_fields.proofs.hex_digits.pair.Goals as goal

pub returns-then-high-ge-NO_DIGIT-clause-none : goal.returns-then-high-ge-NO_DIGIT-clause-none
returns-then-high-ge-NO_DIGIT-clause-none c = λ none i. first_no_digit c.args.high c.args.low c.digit_value-high.result c.digit_value-low.result c.digit_value-high.ensures c.digit_value-low.ensures (omega arith) i

pub returns-then-low-ge-NO_DIGIT-clause-none : goal.returns-then-low-ge-NO_DIGIT-clause-none
returns-then-low-ge-NO_DIGIT-clause-none c = λ none i. second_no_digit c.args.high c.args.low c.digit_value-high.result c.digit_value-low.result c.digit_value-high.ensures c.digit_value-low.ensures (omega arith) (omega arith) i

pub returns-clause-some : goal.returns-clause-some
returns-clause-some c = λ i. pair_found c.args.high c.args.low c.digit_value-high.result c.digit_value-low.result c.digit_value-high.ensures c.digit_value-low.ensures (omega arith) (omega arith) i
