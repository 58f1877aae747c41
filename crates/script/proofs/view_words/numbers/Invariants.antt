use Rattle.std.proofs.Common.{◌≡◌, drop, vec_len}
use Rattle.std.specs.Prelude.{map}
use Rattle.script.specs.Arguments.{numbers_of}
use Rattle.script.proofs.ViewLemmas.{with_front}
use Rattle.script.proofs.view_words.numbers.Given as goal

abbrev pub invariant-loop-part : goal.invariant-loop-part
invariant-loop-part l = record {
  read : with_front l.slots.items (numbers_of (map (λ p. p.now) (drop l.part-index l.parts))) ≡ numbers_of (map (λ p. p.now) l.parts);
  counted : vec_len l.slots ≡ l.part-index;
}
