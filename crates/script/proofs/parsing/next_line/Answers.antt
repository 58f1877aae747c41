use Rattle.std.proofs.Common.{arith}
use Rattle.script.proofs.LineLemmas.{last_line, first_line}
use Rattle.script.proofs.parsing.next_line.Goals as goal

pub returns-then-at-bytes-clause-line : goal.returns-then-at-bytes-clause-line
returns-then-at-bytes-clause-line c = last_line c.args.bytes.now c.requires (omega (arith, c.newline-at.ensures, c.if-at-bytes.true))

pub returns-clause-line : goal.returns-clause-line
returns-clause-line c =
    rw (c.without_return.ensures, c.split_at.ensures.front, c.split_at-2.ensures.back, c.newline-at.ensures)
    (first_line c.args.bytes.now (omega (arith, c.newline-at.ensures, c.if-at-bytes.false)))
