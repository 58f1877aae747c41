use Rattle.std.proofs.Common.{◌∙◌}
use Rattle.script.proofs.EqualBytes.{equal_by_next}
use Rattle.script.proofs.text.are_equal.Goals as goal

pub returns-in-len1-up : goal.returns-in-len1-up
returns-in-len1-up c = c.eq.ensures ∙ equal_by_next c.args.bytes.now c.in-len1-up.len_at_least
