-- Totals over a list, when one member changes, and ranges of numbers.
use Rattle.std.proofs.Common.{◌≡◌, ◌≢◌, ℕ, zero, suc, ◌+◌, ◌≤◌, ◌<◌, List, [], ◌∷◌, ◌++◌, set, refl, ap, sym, arith, Option, Some, None, eq-eqb, ne_eqb, lt-ltb, le-ltb, lt_of_not-le}
use mathlib.Core.Option.{some, some-ne-none, some-injective}
use mathlib.Core.Logic.{dite}
use native.Mathlib.Decide.{ℕ_discrete, dec_le}
use lib.ListN.{get_elem?}
use Rattle.turn_lock.specs.Rule.{total, is_ticket, below, in_range}

module _ {A : Type 0} (f : A → ℕ) where
  pub total_set : (l : List A) (i : ℕ) (v w : A) → get_elem? l i ≡ some v → total f (set l i w) + f v ≡ total f l + f w
  total_set [] i v w e = absurd (some-ne-none v (sym e))
  total_set (x ∷ xs) zero v w e = let p : f x ≡ f v = ap f (some-injective x v e) in omega arith
  total_set (x ∷ xs) (suc i) v w e = let h = total_set xs i v w e in omega arith

  pub still : (l : List A) (i : ℕ) (v w : A) → get_elem? l i ≡ some v → f w ≡ f v → total f (set l i w) ≡ total f l
  still l i v w e s = let h = total_set l i v w e in omega arith

  pub one_of : (l : List A) (i : ℕ) (v : A) → get_elem? l i ≡ some v → f v ≤ total f l
  one_of [] i v e = absurd (some-ne-none v (sym e))
  one_of (x ∷ xs) zero v e = let p : f x ≡ f v = ap f (some-injective x v e) in omega arith
  one_of (x ∷ xs) (suc i) v e = let h = one_of xs i v e in omega arith

  pub two_of : (l : List A) (i j : ℕ) (v u : A) → i ≢ j → get_elem? l i ≡ some v → get_elem? l j ≡ some u → f v + f u ≤ total f l
  two_of [] i j v u n e d = absurd (some-ne-none v (sym e))
  two_of (x ∷ xs) zero zero v u n e d = absurd (n refl)
  two_of (x ∷ xs) zero (suc j) v u n e d = let p : f x ≡ f v = ap f (some-injective x v e) in let h = one_of xs j u d in omega arith
  two_of (x ∷ xs) (suc i) zero v u n e d = let p : f x ≡ f u = ap f (some-injective x u d) in let h = one_of xs i v e in omega arith
  two_of (x ∷ xs) (suc i) (suc j) v u n e d = let h = two_of xs i j v u (λ s. n (ap suc s)) e d in omega arith

  pub none_of : (l : List A) → ((i : ℕ) (v : A) → get_elem? l i ≡ some v → f v ≡ 0) → total f l ≡ 0
  none_of [] h = refl
  none_of (x ∷ xs) h = let a = h 0 x refl in let b = none_of xs (λ i v e. h (suc i) v e) in omega arith

  pub total-append : (xs ys : List A) → total f (xs ++ ys) ≡ total f xs + total f ys
  total-append [] ys = omega arith
  total-append (x ∷ xs) ys = let h = total-append xs ys in omega arith

  module _ (g : A → ℕ) where
    pub all_under : (l : List A) → ((j : ℕ) (u : A) → get_elem? l j ≡ some u → f u ≤ g u) → total f l ≤ total g l
    all_under [] h = omega arith
    all_under (x ∷ xs) h = let a = h 0 x refl in let b = all_under xs (λ j u e. h (suc j) u e) in omega arith

    pub under : (l : List A) (i : ℕ) (v : A) → get_elem? l i ≡ some v → ((j : ℕ) (u : A) → get_elem? l j ≡ some u → f u ≤ g u) → total f l + g v ≤ total g l + f v
    under [] i v e h = absurd (some-ne-none v (sym e))
    under (x ∷ xs) zero v e h = let p : f x ≡ f v = ap f (some-injective x v e) in let q : g x ≡ g v = ap g (some-injective x v e) in let r = all_under xs (λ j u d. h (suc j) u d) in omega arith
    under (x ∷ xs) (suc i) v e h = let r = under xs i v e (λ j u d. h (suc j) u d) in let a = h 0 x refl in omega arith

pub here : (x : ℕ) → is_ticket x (Some x) ≡ 1
here x = rw (eq-eqb x x refl) refl

pub not_here : (x y : ℕ) → x ≢ y → is_ticket x (Some y) ≡ 0
not_here x y n = rw (ne_eqb x y n) refl

pub no_ticket : (x : ℕ) (t : Option ℕ) → ((y : ℕ) → t ≡ Some y → x ≢ y) → is_ticket x t ≡ 0
no_ticket x None h = refl
no_ticket x (Some y) h = not_here x y (h y refl)

pub is_most : (x : ℕ) (t : Option ℕ) → is_ticket x t ≤ 1
is_most x None = omega arith
is_most x (Some y) = dite (ℕ_discrete x y) (λ e. rw (eq-eqb x y e) (omega arith)) (λ n. let z = not_here x y n in omega arith)

pub some_is : (a b : ℕ) → Some a ≡ Some b → a ≡ b
some_is a b e = ap (λ (o : Option ℕ). or_zero o) e
  where
    or_zero : Option ℕ → ℕ
    or_zero None = 0
    or_zero (Some y) = y

pub below_yes : (x n : ℕ) → x < n → below x n ≡ 1
below_yes x n h = rw (lt-ltb x n h) refl

pub below_no : (x n : ℕ) → n ≤ x → below x n ≡ 0
below_no x n h = rw (le-ltb x n h) refl

pub below_most : (x n : ℕ) → below x n ≤ 1
below_most x n = dite (dec_le n x) (λ h. let b = below_no x n h in omega arith) (λ h. let b = below_yes x n (lt_of_not-le h) in omega arith)

pub below_mono : (x a b : ℕ) → a ≤ b → below x a ≤ below x b
below_mono x a b le = dite (dec_le b x) (λ h. let p = below_no x a (omega arith) in omega arith) (λ h. let p = below_yes x b (lt_of_not-le h) in let q = below_most x a in omega arith)

-- a range in two parts
pub in_cut : (x a n m c s : ℕ) → c ≡ a + n → s ≡ n + m → in_range x (a, s) ≡ in_range x (a, n) + in_range x (c, m)
in_cut x a n m c s is all =
    let p = below_mono x a (a + n) (omega arith) in
    let q = below_mono x (a + n) ((a + n) + m) (omega arith) in
    let u : below x c ≡ below x (a + n) = ap (below x) is in
    let v : below x (c + m) ≡ below x ((a + n) + m) = ap (λ (k : ℕ). below x (k + m)) is in
    let w : below x (a + s) ≡ below x ((a + n) + m) = ap (below x) (let e : a + s ≡ (a + n) + m = omega arith in e) in
    omega arith

pub in_first : (x : ℕ) → in_range x (x, 1) ≡ 1
in_first x = let p = below_no x x (omega arith) in let q = below_yes x (x + 1) (omega arith) in omega arith

pub in_empty : (x a : ℕ) → in_range x (a, 0) ≡ 0
in_empty x a = let w : below x (a + 0) ≡ below x a = ap (below x) (let e : a + 0 ≡ a = omega arith in e) in omega arith

pub in_most : (x : ℕ) (r : ℕ × ℕ) → in_range x r ≤ 1
in_most x r = let p = below_most x (r.0 + r.1) in omega arith

pub in_within : (x a n : ℕ) → 0 < in_range x (a, n) → (a ≤ x) × (x < a + n)
in_within x a n h = dite (dec_le (a + n) x) (λ g. let p = below_no x (a + n) g in absurd (omega arith))
    (λ g. dite (dec_le a x) (λ k. (k, lt_of_not-le g)) (λ k. let q = below_yes x a (lt_of_not-le k) in let r = below_most x (a + n) in absurd (omega arith)))
