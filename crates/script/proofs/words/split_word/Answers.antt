use Rattle.std.proofs.Common.{◌≡◌, ◌<◌, false, eqb, subst, length, take, drop, List, [], ◌∷◌, ℕ, arith, ap, sym, ◌∙◌}
use Rattle.std.specs.Prelude.{not}
use Rattle.std.specs.List.{position_or_len}
use Rattle.std.specs.Str.{bytes_eq}
use Rattle.std.proofs.lemmas.List.Sums.{prefix_len-le-length}
use Rattle.std.proofs.lemmas.Bool.{eqb-true}
use Rattle.script.specs.Words.{is_blank, words}
use Rattle.script.proofs.WordLemmas.{unblank, no_word, ended_first, first_word}
use Rattle.script.proofs.words.split_word.Goals as goal

some_left : (xs : List ℕ) → eqb (length xs) 0 ≡ false → 0 < length xs
some_left [] e = absurd cc
some_left (x ∷ xs) e = omega arith

pub split_at-requires : goal.split_at-requires
split_at-requires c = omega (arith, c.blanks.ensures, prefix_len-le-length (λ b. is_blank b) c.args.line.now)

pub split_at-requires-2 : goal.split_at-requires-2
split_at-requires-2 c = omega (arith, c.word_len.ensures, prefix_len-le-length (λ b. not (is_blank b)) c.split_at.result.1.now)

pub returns-then-is_empty : goal.returns-then-is_empty
returns-then-is_empty c =
    let left : c.split_at.result.1.now ≡ unblank c.args.line.now = c.split_at.ensures.back ∙ ap (λ (n : ℕ). drop n c.args.line.now) c.blanks.ensures in
    no_word c.args.line.now (ap length (sym left) ∙ eqb-true _ _ (sym c.is_empty.ensures ∙ c.if-is_empty.true))

pub returns-then-eq : goal.returns-then-eq
returns-then-eq c =
    let left : c.split_at.result.1.now ≡ unblank c.args.line.now = c.split_at.ensures.back ∙ ap (λ (n : ℕ). drop n c.args.line.now) c.blanks.ensures in
    let word : c.split_at-2.result.0.now ≡ take (position_or_len (λ b. is_blank b) (unblank c.args.line.now)) (unblank c.args.line.now) =
    rw (← left) (c.split_at-2.ensures.front ∙ ap (λ (n : ℕ). take n c.split_at.result.1.now) c.word_len.ensures) in
    ended_first c.args.line.now c.split_at-2.result.0.now (subst (λ (xs : List ℕ). 0 < length xs) left (some_left c.split_at.result.1.now (sym c.is_empty.ensures ∙ c.if-is_empty.false))) word
    (ap (bytes_eq c.split_at-2.result.0.now) (sym c.as_slice.ensures) ∙ sym c.eq.ensures ∙ c.if-eq.true)

pub returns : goal.returns
returns c =
    let left : c.split_at.result.1.now ≡ unblank c.args.line.now = c.split_at.ensures.back ∙ ap (λ (n : ℕ). drop n c.args.line.now) c.blanks.ensures in
    let word : c.split_at-2.result.0.now ≡ take (position_or_len (λ b. is_blank b) (unblank c.args.line.now)) (unblank c.args.line.now) =
    rw (← left) (c.split_at-2.ensures.front ∙ ap (λ (n : ℕ). take n c.split_at.result.1.now) c.word_len.ensures) in
    let rest : c.split_at-2.result.1.now ≡ drop (position_or_len (λ b. is_blank b) (unblank c.args.line.now)) (unblank c.args.line.now) =
    rw (← left) (c.split_at-2.ensures.back ∙ ap (λ (n : ℕ). drop n c.split_at.result.1.now) c.word_len.ensures) in
    first_word c.args.line.now c.split_at-2.result.0.now (subst (λ (xs : List ℕ). 0 < length xs) left (some_left c.split_at.result.1.now (sym c.is_empty.ensures ∙ c.if-is_empty.false))) word
    (ap (bytes_eq c.split_at-2.result.0.now) (sym c.as_slice.ensures) ∙ sym c.eq.ensures ∙ c.if-eq.false) ∙ ap (λ (r : List ℕ). c.split_at-2.result.0.now ∷ words r) (sym rest)
