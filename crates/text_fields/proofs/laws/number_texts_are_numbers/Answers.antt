use Rattle.text_fields.proofs.NumberLemmas.{texts_are_numbers}
use Rattle.text_fields.proofs.laws.number_texts_are_numbers.Goals as goal

pub returns : goal.returns
returns c = texts_are_numbers
