-- Lists that go on from one another, and what every entry meets.
use Rattle.std.proofs.Common.{◌≡◌, ◌≤◌, ◌<◌, List, [], ◌∷◌, ◌++◌, length, refl, ap, sym, ◌∙◌, arith, leb, le-leb, leb-true, Bool, true, false, if◌then◌else◌}
use Rattle.turn_lock.specs.Rule.{Every}
use Rattle.turn_lock.specs.Passes.{longer}

module _ {A : Type 0} where
  pub every_map : (P Q : A → Type 0) → ((a : A) → P a → Q a) → (xs : List A) → Every P xs → Every Q xs
  every_map P Q h [] p = tt
  every_map P Q h (x ∷ xs) p = (h x p.0, every_map P Q h xs p.1)

  pub every_append : (P : A → Type 0) (xs ys : List A) → Every P xs → Every P ys → Every P (xs ++ ys)
  every_append P [] ys p q = q
  every_append P (x ∷ xs) ys p q = (p.0, every_append P xs ys p.1 q)

  pub every_behind : (P : A → Type 0) (xs ys : List A) → Every P (xs ++ ys) → Every P ys
  every_behind P [] ys p = p
  every_behind P (x ∷ xs) ys p = every_behind P xs ys p.1

  -- of two beginnings of one list the shorter begins the longer
  pub shorter : (xs r ys q zs : List A) → xs ++ r ≡ zs → ys ++ q ≡ zs → length xs ≤ length ys → (d : List A) × (xs ++ d ≡ ys) × (d ++ q ≡ r)
  shorter [] r ys q zs e f le = (ys, refl, f ∙ sym e)
  shorter (x ∷ xs) r [] q zs e f le = absurd (omega arith)
  shorter (x ∷ xs) r (y ∷ ys) q [] e f le = absurd (cc e)
  shorter (x ∷ xs) r (y ∷ ys) q (z ∷ zs) e f le = let s = shorter xs r ys q zs (cc e) (cc f) (omega arith) in let h : x ≡ y = cc (e, f) in (s.0, cc (h, s.1), s.2)

  pub longer_first : (xs ys : List A) → length ys ≤ length xs → longer xs ys ≡ xs
  longer_first xs ys le = ap (λ (b : Bool). if b then xs else ys) (le-leb (length ys) (length xs) le)

  -- a beginning as long as the whole is the whole
  pub no_rest : (xs r : List A) → length (xs ++ r) ≤ length xs → r ≡ []
  no_rest [] [] le = refl
  no_rest [] (y ∷ r) le = absurd (omega arith)
  no_rest (x ∷ xs) r le = no_rest xs r (omega arith)

  pub every_both : (P Q : A → Type 0) (xs : List A) → Every P xs → Every Q xs → Every (λ a. P a × Q a) xs
  every_both P Q [] p q = tt
  every_both P Q (x ∷ xs) p q = ((p.0, q.0), every_both P Q xs p.1 q.1)

  pub none_left : (P : A → Type 0) (xs : List A) → Every P xs → ((a : A) → P a → ⊥) → xs ≡ []
  none_left P [] p h = refl
  none_left P (x ∷ xs) p h = absurd (h x p.0)

  pub longer_second : (xs ys : List A) → length xs < length ys → longer xs ys ≡ ys
  longer_second xs ys lt = by_test (leb (length ys) (length xs)) refl
    where
      by_test : (b : Bool) → leb (length ys) (length xs) ≡ b → longer xs ys ≡ ys
      by_test true is = let le = leb-true (length ys) (length xs) is in absurd (omega arith)
      by_test false is = ap (λ (b : Bool). if b then xs else ys) is

  pub every_front : (P : A → Type 0) (xs ys : List A) → Every P (xs ++ ys) → Every P xs
  every_front P [] ys p = tt
  every_front P (x ∷ xs) ys p = (p.0, every_front P xs ys p.1)
