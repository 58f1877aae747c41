use Rattle.text_fields.proofs.KeyLemmas.{texts_are_keys}
use Rattle.text_fields.proofs.laws.key_texts_are_keys.Goals as goal

pub returns : goal.returns
returns c = texts_are_keys
