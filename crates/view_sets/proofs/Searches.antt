-- What a binary search answers among slots, and which slots a sort with `dedup` keeps.
use Rattle.std.proofs.Common.{◌≡◌, ℕ, ◌<◌, ◌≤◌, List, [], ◌∷◌, length, get_or, Bool, true, false, ◌||◌, eqb, Result, Ok, Err, MatchResult, refl, sym, ap, subst, ◌∙◌, inl, inr, arith}
use Rattle.std.specs.Result.{is_ok}
use Rattle.std.specs.List.{list_any, dedup, dedup_from}
use Rattle.std.specs.List.Sorted.{IsPermutation, IsStrictlyIncreasing}
use Rattle.std.specs.FinSet as set
use Rattle.std.specs.Ordering.{nat_cmp}
use Rattle.std.specs.Cmp.{nat_cmp_total}
use Rattle.std.specs.FinSet.{contains-from_list_nat, same_set, nat_cmp-IsAntisymmetric}
use Rattle.std.proofs.lemmas.Bool.{cases_Bool, cases_lt, eq-eqb, ne_eqb, eqb-true}
use Rattle.std.proofs.lemmas.List.{get_or_default}
use Rattle.std.proofs.lemmas.List.Folds.{list_any_at, list_any_none}
use Rattle.std.proofs.lemmas.List.Sorted.{list_any-IsPermutation}
use Rattle.std.proofs.lemmas.List.Kept.{AllPairs-from_increasing}
use Rattle.view_sets.specs.Slots.{among}

-- what a binary search says at numbers that do not fall
abbrev IsFound : List ℕ → ℕ → Result ℕ ℕ → Type 0
IsFound xs x r = MatchResult r (λ i. (i < length xs) × (get_or xs i 0 ≡ x)) (λ i. (i ≤ length xs) × ((k : ℕ) → k < i → get_or xs k 0 < x) × ((k : ℕ) → i ≤ k → k < length xs → x < get_or xs k 0))

-- a search ends at the number, or at a gap where it is not in the list
pub is_ok-IsFound : (xs : List ℕ) (x : ℕ) (r : Result ℕ ℕ) → IsFound xs x r → is_ok r ≡ among x xs
is_ok-IsFound xs x (Ok i) h = sym (list_any_at (λ s. eqb s x) xs i 0 h.0 (eq-eqb (get_or xs i 0) x h.1))
is_ok-IsFound xs x (Err i) h = sym (list_any_none (λ s. eqb s x) xs (λ k d lt.
    let apart : get_or xs k 0 ≡ x → ⊥ = λ e. elim (cases_lt k i) [ inl below ↦ omega (arith, h.1 k below) | inr above ↦ omega (arith, h.2 k above lt) ] in
    subst (λ (n : ℕ). eqb n x ≡ false) (get_or_default xs k 0 d lt) (ne_eqb (get_or xs k 0) x apart)))

or_twice : (a b : Bool) → (a || b) ≡ (a || (a || b))
or_twice true b = refl
or_twice false b = refl

any_dedup_from : (p : ℕ → Bool) (k : ℕ) (xs : List ℕ) → list_any p (dedup_from eqb k xs) ≡ (p k || list_any p xs)
any_dedup_from p k [] = refl
any_dedup_from p k (x ∷ xs) = elim (cases_Bool (eqb x k)) [
  | inl same ↦ rw (same, eqb-true x k same) (any_dedup_from p k xs ∙ or_twice (p k) (list_any p xs))
  | inr differs ↦ rw differs (ap (λ b. p k || b) (any_dedup_from p x xs))
]

-- the first of equal numbers stays
pub any_dedup : (p : ℕ → Bool) (xs : List ℕ) → list_any p (dedup eqb xs) ≡ list_any p xs
any_dedup p [] = refl
any_dedup p (x ∷ xs) = any_dedup_from p x xs

-- numbers in another order, each once, are the same set
pub set_dedup : (xs ys : List ℕ) → IsPermutation xs ys → set.from_list {R = nat_cmp} (dedup eqb ys) ≡ set.from_list xs
set_dedup xs ys moved = same_set nat_cmp_total nat_cmp-IsAntisymmetric _ _ (λ q.
    contains-from_list_nat (dedup eqb ys) q ∙ any_dedup (λ y. eqb y q) ys ∙ sym (list_any-IsPermutation (λ y. eqb y q) xs ys moved) ∙ sym (contains-from_list_nat xs q))

-- slots that rise do not fall
pub IsStrictlyIncreasing-le : (xs : List ℕ) → IsStrictlyIncreasing xs → (i j : ℕ) → i ≤ j → j < length xs → get_or xs i 0 ≤ get_or xs j 0
IsStrictlyIncreasing-le xs up i j le lt = elim (cases_lt i j) [
  | inl below ↦ let far : get_or xs i 0 < get_or xs j 0 = AllPairs-from_increasing xs up i j 0 below lt in omega arith
  | inr not_below ↦ let same : i ≡ j = omega arith in omega (arith, ap (λ k. get_or xs k 0) same)
]
