use Rattle.text_fields.proofs.NameLemmas.{name_words}
use Rattle.text_fields.proofs.laws.name_words_are_names.Goals as goal

pub returns : goal.returns
returns c = name_words
