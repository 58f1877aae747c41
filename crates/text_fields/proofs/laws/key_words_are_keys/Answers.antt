use Rattle.text_fields.proofs.KeyLemmas.{words_are_keys}
use Rattle.text_fields.proofs.laws.key_words_are_keys.Goals as goal

pub returns : goal.returns
returns c = words_are_keys
