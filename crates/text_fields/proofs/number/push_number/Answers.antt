use Rattle.std.proofs.Common.{rules, arith}
use Rattle.std.proofs.lemmas.Fmt.{decimal_digit}
use Rattle.text_fields.proofs.number.push_number.Goals as goal

-- one digit
pub returns-then-n-lt10 : goal.returns-then-n-lt10
returns-then-n-lt10 c =
    rw (decimal_digit c.args.n c.if-n-lt10.true, ← c.from.ensures, ← c.push.ensures.ascii (omega (arith, c.from.ensures, c.if-n-lt10.true))) (search (rules))
