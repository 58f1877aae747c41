use Rattle.std.proofs.Common.{◌≡◌, ℕ, false, eqb, List, Option, length, sym, ap, subst, ◌∙◌, arith}
use Rattle.std.specs.Prelude.{codes, map, IfOk, option_map}
use Rattle.std.specs.Str.{bytes_eq}
use Rattle.std.proofs.lemmas.List.Splits.{length-slice_split}
use Rattle.script.specs.Arguments.{numbers_of}
use Rattle.script.proofs.ViewLemmas.{too_many, part_by_part, few_enough}
use Rattle.script.proofs.view_words.ancestors.Goals as goal

pub returns-then-commas-ge-MAX_ANCESTORS-clause-slots : goal.returns-then-commas-ge-MAX_ANCESTORS-clause-slots
returns-then-commas-ge-MAX_ANCESTORS-clause-slots c =
    let no : bytes_eq c.args.word.now (codes "-") ≡ false = ap (bytes_eq c.args.word.now) (sym c.as_slice.ensures) ∙ sym c.eq.ensures ∙ c.if-eq.false in
    too_many c.args.word.now no (omega (arith, c.commas.ensures, c.if-commas-ge-MAX_ANCESTORS.true))

pub returns-clause-slots : goal.returns-clause-slots
returns-clause-slots c =
    let no : bytes_eq c.args.word.now (codes "-") ≡ false = ap (bytes_eq c.args.word.now) (sym c.as_slice.ensures) ∙ sym c.eq.ensures ∙ c.if-eq.false in
    let parts = ap (map (λ p. p.now)) c.deref.ensures.value ∙ c.in_ok-parts.ensures.parts in
    let read = part_by_part c.args.word.now no (omega (arith, c.commas.ensures, c.if-commas-ge-MAX_ANCESTORS.false)) in
    subst (λ (o : Option (List ℕ)). IfOk c.numbers.result (λ slots. option_map (λ v. v.items) slots ≡ o)) (ap numbers_of parts ∙ read) c.numbers.ensures.numbers

pub returns-clause-most : goal.returns-clause-most
returns-clause-most c =
    few_enough c.numbers.result (length c.deref.result.now)
    (omega (arith, c.deref.ensures.len, c.in_ok-parts.ensures.len, length-slice_split (λ b. eqb b 44) c.args.word.now, c.commas.ensures, c.if-commas-ge-MAX_ANCESTORS.false))
    c.numbers.ensures.len
