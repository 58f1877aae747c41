use Rattle.script.proofs.LineLemmas.{ended_lines}
use Rattle.script.proofs.laws.ended_lines_are_read.Goals as goal

pub returns : goal.returns
returns c = ended_lines
