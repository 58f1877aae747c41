-- Members of lists that pass a test.
use Rattle.std.proofs.Common.{◌≡◌, ℕ, List, [], ◌∷◌, ◌++◌, map, eqb, Bool, true, false, ◌||◌, Contains, refl, sym, ap, ◌∙◌, subst}
use Rattle.std.specs.List.{list_any}
use Rattle.std.proofs.lemmas.Bool.{eqb-true, eq-eqb, or_left, or_right}
use Rattle.std.proofs.lemmas.List.Folds.{Any-from_list_any, list_any-from_Any, list_any-append}
use Rattle.adb_model.specs.Lists.{among}

-- two tests that pass together are one
pub both_ways : (a b : Bool) → (a ≡ true → b ≡ true) → (b ≡ true → a ≡ true) → a ≡ b
both_ways true b f g = sym (f refl)
both_ways false true f g = g refl
both_ways false false f g = refl

module _ {X : Type 0} where
  -- a member that passes
  pub any_some : (p : X → Bool) (xs : List X) → list_any p xs ≡ true → (x : X) × (p x ≡ true) × Contains xs x
  any_some p xs e = let a = Any-from_list_any p xs e in (a.1, a.4, (a.0, a.2, a.3))

  pub some_any : (p : X → Bool) (xs : List X) (x : X) → Contains xs x → p x ≡ true → list_any p xs ≡ true
  some_any p xs x c t = list_any-from_Any p xs (c.0, x, c.1, c.2, t)

  pub any_weaker : (p q : X → Bool) (xs : List X) → ((x : X) → p x ≡ true → q x ≡ true) → list_any p xs ≡ true → list_any q xs ≡ true
  any_weaker p q xs weaker e = let a = any_some p xs e in some_any q xs a.0 a.2 (weaker a.0 a.1)

  pub any_front : (p : X → Bool) (xs ys : List X) → list_any p xs ≡ true → list_any p (xs ++ ys) ≡ true
  any_front p xs ys e = list_any-append p xs ys ∙ or_left (list_any p xs) (list_any p ys) e

  pub any_back : (p : X → Bool) (xs ys : List X) → list_any p ys ≡ true → list_any p (xs ++ ys) ≡ true
  any_back p xs ys e = list_any-append p xs ys ∙ or_right (list_any p xs) (list_any p ys) e

  pub any_mapped : {Y : Type 0} (f : X → Y) (p : Y → Bool) (xs : List X) → list_any p (map f xs) ≡ list_any (λ x. p (f x)) xs
  any_mapped f p [] = refl
  any_mapped f p (x ∷ xs) = ap (λ b. p (f x) || b) (any_mapped f p xs)

-- a number that is among others
pub among_some : (n : ℕ) (ns : List ℕ) → among n ns ≡ true → Contains ns n
among_some n ns e = let a = any_some (λ x. eqb x n) ns e in subst (Contains ns) (eqb-true a.0 n a.1) a.2

pub some_among : (n : ℕ) (ns : List ℕ) → Contains ns n → among n ns ≡ true
some_among n ns c = some_any (λ x. eqb x n) ns n c (eq-eqb n n refl)
