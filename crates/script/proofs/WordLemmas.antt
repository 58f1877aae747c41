-- The words of a line, taken from its front one at a time.
use Rattle.std.proofs.Common.{◌≡◌, ℕ, ◌+◌, ◌<◌, ◌≤◌, suc, Bool, true, false, cond, ltb, List, [], ◌∷◌, length, take, drop, get_or, refl, sym, ap, subst, ◌∙◌, arith, inl, inr, add-one}
use Rattle.std.specs.Prelude.{not, codes, filter, take_while}
use Rattle.std.specs.List.{All, slice_split, prefix_len, position_or_len}
use Rattle.std.specs.Str.{bytes_eq}
use Rattle.std.proofs.Math.Seq.{drop-cons, drop-length, take-length}
use Rattle.std.proofs.lemmas.Bool.{cases_lt, cond-true, lt-ltb}
use Rattle.std.proofs.lemmas.List.{length-take-le}
use Rattle.std.proofs.lemmas.List.Splits.{slice_split-cons_yes, slice_split-cons_no, slice_split_at, slice_split_first, slice_split_none}
use Rattle.std.proofs.lemmas.List.Elements.{All-head, All-tail}
use Rattle.std.proofs.lemmas.List.Sums.{prefix_len-le-length, passes_at_first, take_while-cons}
use Rattle.script.specs.Laws.{IsWord, SpacedWordsAreRead}
use Rattle.script.specs.Text.{spaced}
use Rattle.script.specs.Words.{is_blank, pieces, words}

abbrev blank : ℕ → Bool
blank b = is_blank b

-- the line without the blanks at its front
abbrev pub unblank : List ℕ → List ℕ
unblank line = drop (prefix_len blank line) line

-- a blank at the front makes no piece
blank_first : (b : ℕ) (bs : List ℕ) → blank b ≡ true → pieces (b ∷ bs) ≡ pieces bs
blank_first b bs e = ap (λ (ps : List (List ℕ)). filter (λ w. ltb 0 (length w)) ps) (slice_split-cons_yes blank b bs e)

-- nor do several
pieces_unblank : (line : List ℕ) → pieces (unblank line) ≡ pieces line
pieces_unblank [] = refl
pieces_unblank (b ∷ bs) = by (blank b) refl (pieces_unblank bs) where
  by : (t : Bool) → blank b ≡ t → pieces (unblank bs) ≡ pieces bs → pieces (drop (cond t (1 + prefix_len blank bs) 0) (b ∷ bs)) ≡ pieces (b ∷ bs)
  by true e more = let on : 1 + prefix_len blank bs ≡ suc (prefix_len blank bs) = omega arith in ap (λ (n : ℕ). pieces (drop n (b ∷ bs))) on ∙ more ∙ sym (blank_first b bs e)
  by false e more = refl

-- what is left begins with a byte of a word
pub begins_word : (line : List ℕ) → 0 < length (unblank line) → 0 < position_or_len blank (unblank line)
begins_word [] = λ some. absurd (omega arith)
begins_word (b ∷ bs) = by (blank b) refl (begins_word bs) where
  by : (t : Bool) → blank b ≡ t → (0 < length (unblank bs) → 0 < position_or_len blank (unblank bs)) → 0 < length (drop (cond t (1 + prefix_len blank bs) 0) (b ∷ bs)) → 0 < position_or_len blank (drop (cond t (1 + prefix_len blank bs) 0) (b ∷ bs))
  by true e more =
      let on : suc (prefix_len blank bs) ≡ 1 + prefix_len blank bs = omega arith in
      subst (λ (n : ℕ). 0 < length (drop n (b ∷ bs)) → 0 < position_or_len blank (drop n (b ∷ bs))) on more
  by false e more = λ some. rw e (omega arith)

whole_by : (b : ℕ) (bs : List ℕ) (t : Bool) → blank b ≡ t → length (b ∷ bs) ≤ cond (not t) (1 + position_or_len blank bs) 0 → (length bs ≤ position_or_len blank bs → slice_split blank bs ≡ bs ∷ []) → slice_split blank (b ∷ bs) ≡ (b ∷ bs) ∷ []
whole_by b bs true e le more = absurd (omega arith)
whole_by b bs false e le more = slice_split-cons_no blank b bs e ∙ rw (more (omega arith)) refl

-- a line without blanks is one piece
whole : (bs : List ℕ) → length bs ≤ position_or_len blank bs → slice_split blank bs ≡ bs ∷ []
whole [] le = refl
whole (b ∷ bs) le = whole_by b bs (blank b) refl le (whole bs)

-- pieces of which the first is no empty one
first_kept : (w : List ℕ) (ps : List (List ℕ)) → 0 < length w → filter (λ x. ltb 0 (length x)) (w ∷ ps) ≡ w ∷ filter (λ x. ltb 0 (length x)) ps
first_kept w ps some = cond-true (ltb 0 (length w)) (w ∷ filter (λ x. ltb 0 (length x)) ps) (filter (λ x. ltb 0 (length x)) ps) (lt-ltb _ _ some)

-- the pieces of a line that begins with a word
first_piece : (line : List ℕ) → 0 < position_or_len blank line → pieces line ≡ take (position_or_len blank line) line ∷ pieces (drop (position_or_len blank line) line)
first_piece line some =
    let at = position_or_len blank line in
    let most : at ≤ length line = prefix_len-le-length (λ b. not (blank b)) line in
    let front : length (take at line) ≡ at = length-take-le at line most in
    elim (cases_lt at (length line)) [
      | inl lt ↦
          let split : slice_split blank line ≡ take at line ∷ slice_split blank (drop (at + 1) line) = slice_split_first blank line 0 lt in
          let behind : drop at line ≡ get_or line at 0 ∷ drop (at + 1) line = drop-cons line at 0 lt ∙ ap (λ (n : ℕ). get_or line at 0 ∷ drop n line) (sym (add-one at)) in
          ap (λ (ps : List (List ℕ)). filter (λ w. ltb 0 (length w)) ps) split
          ∙ first_kept (take at line) (slice_split blank (drop (at + 1) line)) (omega arith)
          ∙ ap (λ (ps : List (List ℕ)). take at line ∷ ps) (sym (blank_first (get_or line at 0) (drop (at + 1) line) (passes_at_first blank line 0 lt)) ∙ ap pieces (sym behind))
      | inr ge ↦
          let same : at ≡ length line = omega arith in
          let all : take at line ≡ line = ap (λ (n : ℕ). take n line) same ∙ take-length line in
          let none : drop at line ≡ [] = ap (λ (n : ℕ). drop n line) same ∙ drop-length line in
          ap (λ (ps : List (List ℕ)). filter (λ w. ltb 0 (length w)) ps) (whole line ge)
          ∙ first_kept line [] (omega arith)
          ∙ rw (all, none) refl
    ]

-- ---- words

-- of which the first is no `=`
abbrev counts : List ℕ → Bool
counts w = not (bytes_eq w (codes "="))

-- a line of blanks has no words
pub no_word : (line : List ℕ) → length (unblank line) ≡ 0 → words line ≡ []
unfolding words
no_word line e = ap (λ (ps : List (List ℕ)). take_while counts ps) (sym (pieces_unblank line) ∙ ap pieces (nothing (unblank line) e)) where
  nothing : (xs : List ℕ) → length xs ≡ 0 → xs ≡ []
  nothing [] e = refl
  nothing (x ∷ xs) e = absurd (omega arith)

-- and so has one without bytes
pub no_bytes : (line : List ℕ) → length line ≡ 0 → words line ≡ []
unfolding words
no_bytes [] e = refl
no_bytes (b ∷ line) e = absurd (omega arith)

words_unblank : (line : List ℕ) → 0 < length (unblank line) → words line ≡ take_while counts (take (position_or_len blank (unblank line)) (unblank line) ∷ pieces (drop (position_or_len blank (unblank line)) (unblank line)))
unfolding words
words_unblank line some = ap (λ (ps : List (List ℕ)). take_while counts ps) (sym (pieces_unblank line) ∙ first_piece (unblank line) (begins_word line some))

-- nor has one whose first word is `=`
pub ended_first : (line word : List ℕ) → 0 < length (unblank line) → word ≡ take (position_or_len blank (unblank line)) (unblank line) → bytes_eq word (codes "=") ≡ true → words line ≡ []
ended_first line word some is e =
    words_unblank line some ∙ rw (sym is) (take_while-cons counts word (pieces (drop (position_or_len blank (unblank line)) (unblank line))) ∙ rw e refl)

-- any other has its first word, and those of what follows it
pub first_word : (line word : List ℕ) → 0 < length (unblank line) → word ≡ take (position_or_len blank (unblank line)) (unblank line) → bytes_eq word (codes "=") ≡ false
    → words line ≡ word ∷ words (drop (position_or_len blank (unblank line)) (unblank line))
unfolding words
first_word line word some is e =
    words_unblank line some ∙ rw (sym is) (take_while-cons counts word (pieces (drop (position_or_len blank (unblank line)) (unblank line))) ∙ rw e refl)

-- ---- words with single spaces

pieces_spaced : (ws : List (List ℕ)) → All IsWord ws → pieces (spaced ws) ≡ ws
pieces_spaced [] h = refl
pieces_spaced (w ∷ []) h =
    let first = All-head IsWord w [] h in
    ap (λ (ps : List (List ℕ)). filter (λ x. ltb 0 (length x)) ps) (slice_split_none blank w first.whole) ∙ first_kept w [] first.some
pieces_spaced (w ∷ v ∷ ws) h =
    let first = All-head IsWord w (v ∷ ws) h in
    ap (λ (ps : List (List ℕ)). filter (λ x. ltb 0 (length x)) ps) (slice_split_at blank w 32 (spaced (v ∷ ws)) first.whole refl)
    ∙ first_kept w (slice_split blank (spaced (v ∷ ws))) first.some
    ∙ ap (λ (ps : List (List ℕ)). w ∷ ps) (pieces_spaced (v ∷ ws) (All-tail IsWord w (v ∷ ws) h))

pub spaced_words : SpacedWordsAreRead
unfolding words
spaced_words ws h = ap (λ (ps : List (List ℕ)). take_while counts ps) (pieces_spaced ws h)
