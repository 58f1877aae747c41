-- How many elements a list without repeats has, whose elements are all in another list.
use Rattle.std.proofs.Common.{◌≡◌, ◌≢◌, ℕ, zero, suc, ◌*◌, ◌<◌, ◌≤◌, eqb, Bool, cond, not, ◌||◌, IsTrue, IsFalse, List, [], ◌∷◌, length, get_or, filter, All, AllPairs, Contains, count_by, refl, sym, ap, ◌∙◌, inl, inr, ◌⊎◌, arith}
use Rattle.std.specs.List.{list_any}
use Rattle.std.proofs.lemmas.Bool.{true≢false, cases_Bool, eqb-false, not-true, not_from_false, false_from_ne_true, true_from_ne_false}
use Rattle.std.proofs.lemmas.List.Elements.{All-contains, All-head, All-filter, filter_passes}
use Rattle.std.proofs.lemmas.List.Filters.{length-filter_both}
use Rattle.std.proofs.lemmas.List.Sums.{sum_by-cons, length-filter}
use Rattle.adb_model.proofs.Members.{contains_here, contains_next, into_filter}
use Rattle.adb_model.proofs.Pairs.{pairs_head, pairs_tail}
use Rattle.adb_model.proofs.Filters.{filter_swap}
use Rattle.adb_model.proofs.OneChanged.{one_if, none_counted}

some_there : {X : Type 0} (xs : List X) (x : X) → Contains xs x → 0 < length xs
some_there xs x c = let lt = c.1 in omega (arith, lt)

module _ {X : Type 0} (same : X → X → Bool) (is_same : (x y : X) → IsTrue (same x y) → x ≡ y) (self : (x : X) → IsTrue (same x x)) where
  pub within : (xs ys : List X) → AllPairs (λ x y. x ≢ y) xs → ((x : X) → Contains xs x → Contains ys x) → length xs ≤ length ys
  within [] ys differ all = omega arith
  within (x ∷ xs) ys differ all =
      let rest = within xs (filter (λ y. not (same x y)) ys) (pairs_tail (λ x y. x ≢ y) x xs differ)
      (λ z c. into_filter (λ y. not (same x y)) ys z (all z (contains_next x z xs c))
      (not_from_false _ (false_from_ne_true _ (λ t. All-contains (λ y. x ≢ y) xs z (pairs_head (λ x y. x ≢ y) x xs differ) c (is_same x z t))))) in
      let here = some_there (filter (same x) ys) x (into_filter (same x) ys x (all x (contains_here x xs)) (self x)) in
      omega (arith, length-filter_both (same x) (λ y. not (same x y)) (λ y. refl) ys, rest, here)

-- ---- a count, and whether there is one to count

pub some_counted : {X : Type 0} (p : X → Bool) (xs : List X) → IsTrue (list_any p xs) → 0 < count_by p xs
some_counted p [] t = absurd (true≢false (sym t))
some_counted {X} p (x ∷ xs) t = by (cases_Bool (p x)) (some_counted p xs)
  where
    by : IsTrue (p x) ⊎ IsFalse (p x) → (IsTrue (list_any p xs) → 0 < count_by p xs) → 0 < count_by p (x ∷ xs)
    by (inl here) ih = omega (arith, sum_by-cons (λ (y : X). cond (p y) 1 0) x xs, ap one_if here)
    by (inr not_here) ih = omega (arith, sum_by-cons (λ (y : X). cond (p y) 1 0) x xs, ih (sym (ap (λ b. b || list_any p xs) not_here) ∙ t))

pub counted_some : {X : Type 0} (p : X → Bool) (xs : List X) → 0 < count_by p xs → IsTrue (list_any p xs)
counted_some p xs lt = true_from_ne_false _ (λ f. let none = none_counted p xs f in omega arith)

-- ---- few of each number, and few numbers

module _ {X : Type 0} (f : X → ℕ) (most : ℕ) where
  pub few_of_few : (n : ℕ) (xs : List X) → All (λ x. (1 ≤ f x) × (f x ≤ n)) xs → ((k : ℕ) → count_by (λ x. eqb (f x) k) xs ≤ most) → length xs ≤ n * most
  few_of_few zero [] all few = omega arith
  few_of_few zero (x ∷ xs) all few = let first = All-head (λ x. (1 ≤ f x) × (f x ≤ 0)) x xs all in absurd (omega (arith, first.0, first.1))
  few_of_few (suc n) xs all few =
      let rest = few_of_few n (filter (λ x. not (eqb (f x) (suc n))) xs) lower fewer in
      omega (arith, few (suc n), length-filter (λ x. eqb (f x) (suc n)) xs, length-filter_both (λ x. eqb (f x) (suc n)) (λ x. not (eqb (f x) (suc n))) (λ x. refl) xs, rest)
    where
      lower : All (λ x. (1 ≤ f x) × (f x ≤ n)) (filter (λ x. not (eqb (f x) (suc n))) xs)
      lower k d lt =
          let x = get_or (filter (λ x. not (eqb (f x) (suc n))) xs) k d in
          let bounds = All-filter (λ x. not (eqb (f x) (suc n))) (λ x. (1 ≤ f x) × (f x ≤ suc n)) xs all k d lt in
          let upto = bounds.1 in
          let other : f x ≢ suc n = eqb-false (f x) (suc n) (not-true (eqb (f x) (suc n)) (filter_passes (λ x. not (eqb (f x) (suc n))) xs k d lt)) in
          (bounds.0, omega (arith, upto, other))

      fewer : (k : ℕ) → count_by (λ x. eqb (f x) k) (filter (λ x. not (eqb (f x) (suc n))) xs) ≤ most
      fewer k =
          let p : X → Bool = λ x. eqb (f x) k in
          let q : X → Bool = λ x. not (eqb (f x) (suc n)) in
          omega (
            arith,
            few k,
            length-filter p xs,
            length-filter p (filter q xs),
            ap length (filter_swap p q xs),
            length-filter_both (λ x. eqb (f x) (suc n)) q (λ x. refl) (filter p xs),
          )
