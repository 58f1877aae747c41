-- Numbers that are read one after the other.
use Rattle.std.proofs.Common.{◌≡◌, ℕ, ◌<◌, ◌≤◌, true, false, eqb, leb, List, [], ◌∷◌, ◌++◌, length, vec_len, Vec, Global, Option, Some, None, Result, Ok, Err, refl, sym, ap, ◌∙◌, append_assoc, arith}
use Rattle.std.specs.Prelude.{map, codes, count_by, IfOk, IfSome}
use Rattle.std.specs.List.{slice_split}
use Rattle.std.specs.Str.{bytes_eq}
use Rattle.std.proofs.lemmas.Bool.{cond-true, cond-false, le-leb, lt-leb}
use Rattle.std.proofs.lemmas.List.Splits.{length-slice_split}
use Rattle.std.proofs.lemmas.List.{length-map}
use Rattle.std.specs.Option.{option_map}
use Rattle.script.specs.Arguments.{ancestors_of, numbers_of}
use Rattle.text_fields.specs.Numbers.{number_of}

abbrev pub with_front : List ℕ → Option (List ℕ) → Option (List ℕ)
with_front front read = option_map (λ ns. front ++ ns) read

-- one more
pub front_more : (front : List ℕ) (w : List ℕ) (ws : List (List ℕ)) (n : ℕ) → number_of w ≡ Some n → with_front front (numbers_of (w ∷ ws)) ≡ with_front (front ++ n ∷ []) (numbers_of ws)
front_more front w ws n e = rw e (regroup (numbers_of ws)) where
  regroup : (r : Option (List ℕ)) → with_front front (option_map (λ ns. n ∷ ns) r) ≡ with_front (front ++ n ∷ []) r
  regroup None = refl
  regroup (Some ns) = ap (λ (l : List ℕ). Some l) (simp append_assoc)

-- one that is no number
pub front_none : (front : List ℕ) (w : List ℕ) (ws : List (List ℕ)) → number_of w ≡ None → with_front front (numbers_of (w ∷ ws)) ≡ None
front_none front w ws e = rw e refl

-- as many items as what they show
pub as_many : {X E : Type 0} (f : X → List ℕ) (r : Result (Vec X Global) E) (ys : List (List ℕ)) → IfOk r (λ v. map f v.items ≡ ys) → IfOk r (λ v. vec_len v ≡ length ys)
as_many f (Ok v) ys h = let e : length (map f v.items) ≡ length ys = ap length h in v.ok.0 ∙ (rw length-map at e)
as_many f (Err e) ys h = tt

-- ---- how many

-- a word with so many commas has too many parts
pub too_many : (w : List ℕ) → bytes_eq w (codes "-") ≡ false → 8192 ≤ count_by (λ b. eqb b 44) w → None ≡ ancestors_of w
unfolding ancestors_of
too_many w other many =
    let more : leb (length (slice_split (λ b. eqb b 44) w)) 8192 ≡ false = lt-leb _ _ (omega (arith, length-slice_split (λ b. eqb b 44) w)) in
    sym (cond-false (bytes_eq w (codes "-")) _ _ other ∙ cond-false (leb (length (slice_split (λ b. eqb b 44) w)) 8192) _ _ more)

-- any other is read part by part
pub part_by_part : (w : List ℕ) → bytes_eq w (codes "-") ≡ false → count_by (λ b. eqb b 44) w < 8192 → numbers_of (slice_split (λ b. eqb b 44) w) ≡ ancestors_of w
unfolding ancestors_of
part_by_part w other few =
    let fits : leb (length (slice_split (λ b. eqb b 44) w)) 8192 ≡ true = le-leb _ _ (omega (arith, length-slice_split (λ b. eqb b 44) w)) in
    sym (cond-false (bytes_eq w (codes "-")) _ _ other ∙ cond-true (leb (length (slice_split (λ b. eqb b 44) w)) 8192) _ _ fits)

-- as many numbers as parts
pub few_enough : {E : Type 0} (r : Result (Option (Vec ℕ Global)) E) (n : ℕ) → n ≤ 8192 → IfOk r (λ slots. IfSome slots (λ v. vec_len v ≡ n)) → IfOk r (λ slots. IfSome slots (λ v. vec_len v ≤ 8192))
few_enough (Ok (Some v)) n le h = omega (arith, h)
few_enough (Ok None) n le h = tt
few_enough (Err e) n le h = tt
