use Rattle.script.proofs.DataLemmas.{pairs_decode}
use Rattle.script.proofs.data_words.are_pairs.Goals as goal

pub returns-then-word-eq0 : goal.returns-then-word-eq0
returns-then-word-eq0 c = pairs_decode c.args.word.now c.all_digits.result c.if-word-eq0.true c.all_digits.ensures
