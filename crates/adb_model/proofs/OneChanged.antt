-- Sums and counts of a list of which one element changes or leaves.
use Rattle.std.proofs.Common.{◌≡◌, ◌≢◌, ℕ, suc, ◌+◌, eqb, Bool, true, false, cond, not, ◌&&◌, IsFalse, List, [], ◌∷◌, map, filter, length, All, AllPairs, Contains, count_by, sum_by, refl, sym, ap, ◌∙◌, subst, inl, inr, ◌⊎◌, arith}
use Rattle.std.specs.List.{list_any}
use Rattle.std.proofs.lemmas.Bool.{eq-eqb, ne_eqb, or_parts}
use Rattle.std.proofs.lemmas.List.Elements.{All-contains}
use Rattle.std.proofs.lemmas.List.Sums.{sum_by-cons}
use Rattle.adb_model.proofs.Members.{contains_none, contains_cases}
use Rattle.adb_model.proofs.Pairs.{pairs_head, pairs_tail}

-- one where the test passes
abbrev pub one_if : Bool → ℕ
one_if b = cond b 1 0

pub none_counted : {X : Type 0} (p : X → Bool) (xs : List X) → IsFalse (list_any p xs) → count_by p xs ≡ 0
none_counted p [] f = refl
none_counted {X} p (x ∷ xs) f =
    let parts = or_parts (p x) (list_any p xs) f in
    sum_by-cons (λ (y : X). cond (p y) 1 0) x xs ∙ ap (λ b. cond b 1 0 + count_by p xs) parts.0 ∙ omega (arith, none_counted p xs parts.1)

pub length_sum : {X : Type 0} (xs : List X) → sum_by (λ (x : X). 1) xs ≡ length xs
length_sum [] = refl
length_sum {X} (x ∷ xs) = omega (arith, sum_by-cons (λ (y : X). 1) x xs, length_sum xs)

-- the sum over what passes, as a sum over all
pub sum_passed : {X : Type 0} (p : X → Bool) (f : X → ℕ) (xs : List X) → sum_by f (filter p xs) ≡ sum_by (λ x. cond (p x) (f x) 0) xs
sum_passed p f [] = refl
sum_passed {X} p f (x ∷ xs) = by (p x) (sum_passed p f xs) ∙ sym (sum_by-cons (λ (y : X). cond (p y) (f y) 0) x xs)
  where
    by : (b : Bool) → sum_by f (filter p xs) ≡ sum_by (λ x. cond (p x) (f x) 0) xs → sum_by f (cond b (x ∷ filter p xs) (filter p xs)) ≡ cond b (f x) 0 + sum_by (λ x. cond (p x) (f x) 0) xs
    by true ih = omega (arith, sum_by-cons f x (filter p xs), ih)
    by false ih = omega (arith, ih)

pub filter_both : {X : Type 0} (p q : X → Bool) (xs : List X) → filter p (filter q xs) ≡ filter (λ x. q x && p x) xs
filter_both p q [] = refl
filter_both p q (x ∷ xs) = by (q x) (p x) refl (filter_both p q xs)
  where
    by : (b c : Bool) → p x ≡ c → filter p (filter q xs) ≡ filter (λ x. q x && p x) xs → filter p (cond b (x ∷ filter q xs) (filter q xs)) ≡ cond (b && c) (x ∷ filter (λ x. q x && p x) xs) (filter (λ x. q x && p x) xs)
    by true true e ih = ap (λ d. cond d (x ∷ filter p (filter q xs)) (filter p (filter q xs))) e ∙ ap (λ l. x ∷ l) ih
    by true false e ih = ap (λ d. cond d (x ∷ filter p (filter q xs)) (filter p (filter q xs))) e ∙ ih
    by false c e ih = ih

-- a number tells the elements apart
module _ {X : Type 0} (id : X → ℕ) (t : X) where
  apart : (x : X) (xs : List X) → AllPairs (λ x y. id x ≢ id y) (x ∷ xs) → Contains xs t → id x ≢ id t
  apart x xs pairs c = All-contains (λ y. id x ≢ id y) xs t (pairs_head (λ x y. id x ≢ id y) x xs pairs) c

  module _ (f : X → X) (other : (x : X) → id x ≢ id t → f x ≡ x) (g : X → ℕ) where
    none_changed : (xs : List X) → All (λ y. id t ≢ id y) xs → sum_by g (map f xs) ≡ sum_by g xs
    none_changed [] ne = refl
    none_changed (x ∷ xs) ne =
        let same = other x (λ e. ne 0 x (omega arith) (sym e)) in
        let rest = none_changed xs (λ k d lt. ne (suc k) d (omega (arith, lt))) in
        sum_by-cons g (f x) (map f xs) ∙ ap (λ y. g y + sum_by g (map f xs)) same ∙ ap (λ n. g x + n) rest ∙ sym (sum_by-cons g x xs)

    -- the one that has the number is another then
    pub one_changed : (xs : List X) → AllPairs (λ x y. id x ≢ id y) xs → Contains xs t → sum_by g (map f xs) + g t ≡ sum_by g xs + g (f t)
    one_changed [] pairs c = absurd (contains_none t c)
    one_changed (x ∷ xs) pairs c = by (contains_cases x t xs c) (one_changed xs (pairs_tail (λ x y. id x ≢ id y) x xs pairs))
      where
        by : (x ≡ t) ⊎ Contains xs t → (Contains xs t → sum_by g (map f xs) + g t ≡ sum_by g xs + g (f t)) → sum_by g (map f (x ∷ xs)) + g t ≡ sum_by g (x ∷ xs) + g (f t)
        by (inl e) ih =
            let rest = none_changed xs (subst (λ y. All (λ z. id y ≢ id z) xs) e (pairs_head (λ x y. id x ≢ id y) x xs pairs)) in
            omega (arith, sum_by-cons g (f x) (map f xs), sum_by-cons g x xs, rest, ap g e, ap (λ y. g (f y)) e)
        by (inr d) ih = omega (arith, sum_by-cons g (f x) (map f xs), sum_by-cons g x xs, ap g (other x (apart x xs pairs d)), ih d)

  abbrev others : List X → List X
  others xs = filter (λ x. not (eqb (id x) (id t))) xs

  module _ (g : X → ℕ) where
    none_left : (xs : List X) → All (λ y. id t ≢ id y) xs → sum_by g (others xs) ≡ sum_by g xs
    none_left [] ne = refl
    none_left (x ∷ xs) ne =
        let stays = ne_eqb (id x) (id t) (λ e. ne 0 x (omega arith) (sym e)) in
        let rest = none_left xs (λ k d lt. ne (suc k) d (omega (arith, lt))) in
        ap (λ b. sum_by g (cond (not b) (x ∷ others xs) (others xs))) stays ∙ sum_by-cons g x (others xs) ∙ ap (λ n. g x + n) rest ∙ sym (sum_by-cons g x xs)

    -- the one that has the number leaves
    pub one_left : (xs : List X) → AllPairs (λ x y. id x ≢ id y) xs → Contains xs t → sum_by g xs ≡ sum_by g (others xs) + g t
    one_left [] pairs c = absurd (contains_none t c)
    one_left (x ∷ xs) pairs c = by (contains_cases x t xs c) (one_left xs (pairs_tail (λ x y. id x ≢ id y) x xs pairs))
      where
        by : (x ≡ t) ⊎ Contains xs t → (Contains xs t → sum_by g xs ≡ sum_by g (others xs) + g t) → sum_by g (x ∷ xs) ≡ sum_by g (cond (not (eqb (id x) (id t))) (x ∷ others xs) (others xs)) + g t
        by (inl e) ih =
            let rest = none_left xs (subst (λ y. All (λ z. id y ≢ id z) xs) e (pairs_head (λ x y. id x ≢ id y) x xs pairs)) in
            let gone : sum_by g (cond (not (eqb (id x) (id t))) (x ∷ others xs) (others xs)) ≡ sum_by g (others xs) = ap (λ b. sum_by g (cond (not b) (x ∷ others xs) (others xs))) (eq-eqb (id x) (id t) (ap id e)) in
            omega (arith, sum_by-cons g x xs, rest, gone, ap g e)
        by (inr d) ih =
            let stays : sum_by g (cond (not (eqb (id x) (id t))) (x ∷ others xs) (others xs)) ≡ sum_by g (x ∷ others xs) = ap (λ b. sum_by g (cond (not b) (x ∷ others xs) (others xs))) (ne_eqb (id x) (id t) (apart x xs pairs d)) in
            omega (arith, sum_by-cons g x xs, sum_by-cons g x (others xs), stays, ih d)
