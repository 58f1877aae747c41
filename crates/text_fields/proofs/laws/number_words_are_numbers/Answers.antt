use Rattle.text_fields.proofs.NumberLemmas.{words_are_numbers}
use Rattle.text_fields.proofs.laws.number_words_are_numbers.Goals as goal

pub returns : goal.returns
returns c = words_are_numbers
