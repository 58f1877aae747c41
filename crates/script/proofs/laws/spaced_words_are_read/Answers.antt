use Rattle.script.proofs.WordLemmas.{spaced_words}
use Rattle.script.proofs.laws.spaced_words_are_read.Goals as goal

pub returns : goal.returns
returns c = spaced_words
