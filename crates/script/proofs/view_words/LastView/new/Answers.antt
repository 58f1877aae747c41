use Rattle.std.proofs.Common.{refl}
use Rattle.text_fields.specs.Numbers.{number_of}
use Rattle.script.specs.Arguments.{view_of, ancestors_of}
use Rattle.script.proofs.view_words.LastView.new.Goals as goal

pub invariant_of-result : goal.invariant_of-result
unfolding view_of ancestors_of number_of
invariant_of-result c = refl
