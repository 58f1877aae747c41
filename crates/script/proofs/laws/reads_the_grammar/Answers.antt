use Rattle.script.proofs.ScriptLemmas.{reads}
use Rattle.script.proofs.laws.reads_the_grammar.Goals as goal

pub returns : goal.returns
returns c = reads
