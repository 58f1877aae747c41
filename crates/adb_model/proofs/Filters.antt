-- Filters: what they keep of tests, of ends and of each other.
use Rattle.std.proofs.Common.{◌≡◌, Bool, true, false, cond, ◌||◌, IsTrue, IsFalse, List, [], ◌∷◌, ◌++◌, filter, Contains, Some, None, unwrap_or, refl, sym, ap, ◌∙◌, append-nil, arith}
use Rattle.std.specs.List.{list_any}
use Rattle.std.proofs.lemmas.Bool.{true≢false}
use Rattle.std.proofs.lemmas.List.Elements.{filter-append}
use Rattle.adb_model.specs.Lists.{last}
use Rattle.adb_model.proofs.Members.{any_at, member, from_filter, into_filter, contains_next}

pub same_truth : (a b : Bool) → (IsTrue a → IsTrue b) → (IsTrue b → IsTrue a) → a ≡ b
same_truth true b to from = sym (to refl)
same_truth false true to from = from refl
same_truth false false to from = refl

module _ {X : Type 0} where
  -- a new element that does not pass changes nothing
  pub filter_push_other : (p : X → Bool) (xs : List X) (x : X) → IsFalse (p x) → filter p (xs ++ x ∷ []) ≡ filter p xs
  filter_push_other p xs x f = filter-append p xs (x ∷ []) ∙ ap (λ b. filter p xs ++ cond b (x ∷ []) []) f ∙ append-nil (filter p xs)

  pub filter_push_same : (p : X → Bool) (xs : List X) (x : X) → IsTrue (p x) → filter p (xs ++ x ∷ []) ≡ filter p xs ++ x ∷ []
  filter_push_same p xs x t = filter-append p xs (x ∷ []) ∙ ap (λ b. filter p xs ++ cond b (x ∷ []) []) t

  -- the first filter keeps what the second one asks for
  pub filter_twice : (p keep : X → Bool) → ((x : X) → IsTrue (p x) → IsTrue (keep x)) → (xs : List X) → filter p (filter keep xs) ≡ filter p xs
  filter_twice p keep all [] = refl
  filter_twice p keep all (x ∷ xs) = by (keep x) (p x) refl refl (filter_twice p keep all xs)
    where
      by : (b c : Bool) → keep x ≡ b → p x ≡ c → filter p (filter keep xs) ≡ filter p xs → filter p (cond b (x ∷ filter keep xs) (filter keep xs)) ≡ cond c (x ∷ filter p xs) (filter p xs)
      by true true e f ih = ap (λ d. cond d (x ∷ filter p (filter keep xs)) (filter p (filter keep xs))) f ∙ ap (λ (l : List X). x ∷ l) ih
      by true false e f ih = ap (λ d. cond d (x ∷ filter p (filter keep xs)) (filter p (filter keep xs))) f ∙ ih
      by false true e f ih = absurd (true≢false (sym (all x f) ∙ e))
      by false false e f ih = ih

  -- the first filter keeps nothing that the second one asks for
  pub filter_apart : (p keep : X → Bool) → ((x : X) → IsTrue (p x) → IsFalse (keep x)) → (xs : List X) → filter p (filter keep xs) ≡ []
  filter_apart p keep none [] = refl
  filter_apart p keep none (x ∷ xs) = by (keep x) (p x) refl refl (filter_apart p keep none xs)
    where
      by : (b c : Bool) → keep x ≡ b → p x ≡ c → filter p (filter keep xs) ≡ [] → filter p (cond b (x ∷ filter keep xs) (filter keep xs)) ≡ []
      by true true e f ih = absurd (true≢false (sym e ∙ none x f))
      by true false e f ih = ap (λ d. cond d (x ∷ filter p (filter keep xs)) (filter p (filter keep xs))) f ∙ ih
      by false c e f ih = ih

  pub filter_swap : (p q : X → Bool) (xs : List X) → filter p (filter q xs) ≡ filter q (filter p xs)
  filter_swap p q [] = refl
  filter_swap p q (x ∷ xs) = by (p x) (q x) refl refl (filter_swap p q xs)
    where
      by : (b c : Bool) → p x ≡ b → q x ≡ c → filter p (filter q xs) ≡ filter q (filter p xs) → filter p (cond c (x ∷ filter q xs) (filter q xs)) ≡ filter q (cond b (x ∷ filter p xs) (filter p xs))
      by true true e f ih =
          ap (λ d. cond d (x ∷ filter p (filter q xs)) (filter p (filter q xs))) e ∙ ap (λ (l : List X). x ∷ l) ih
          ∙ sym (ap (λ d. cond d (x ∷ filter q (filter p xs)) (filter q (filter p xs))) f)
      by true false e f ih = ih ∙ sym (ap (λ d. cond d (x ∷ filter q (filter p xs)) (filter q (filter p xs))) f)
      by false true e f ih = ap (λ d. cond d (x ∷ filter p (filter q xs)) (filter p (filter q xs))) e ∙ ih
      by false false e f ih = ih

  pub any_filter : (p keep : X → Bool) → ((x : X) → IsTrue (p x) → IsTrue (keep x)) → (xs : List X) → list_any p (filter keep xs) ≡ list_any p xs
  any_filter p keep all [] = refl
  any_filter p keep all (x ∷ xs) = by (keep x) (p x) refl refl (any_filter p keep all xs)
    where
      by : (b c : Bool) → keep x ≡ b → p x ≡ c → list_any p (filter keep xs) ≡ list_any p xs → list_any p (cond b (x ∷ filter keep xs) (filter keep xs)) ≡ (c || list_any p xs)
      by true true e f ih = ap (λ d. d || list_any p (filter keep xs)) f
      by true false e f ih = ap (λ d. d || list_any p (filter keep xs)) f ∙ ih
      by false true e f ih = absurd (true≢false (sym (all x f) ∙ e))
      by false false e f ih = ih

  pub any_unfilter : (p keep : X → Bool) (xs : List X) → IsTrue (list_any p (filter keep xs)) → IsTrue (list_any p xs)
  any_unfilter p keep xs t = let a = member p (filter keep xs) t in any_at p xs a.0 (from_filter keep xs a.0 a.1).0 a.2

  pub last_push : (xs : List X) (x : X) → last (xs ++ x ∷ []) ≡ Some x
  last_push [] x = refl
  last_push (y ∷ ys) x = ap (λ o. Some (unwrap_or o y)) (last_push ys x)

  pub last_none : (xs : List X) → last xs ≡ None → xs ≡ []
  last_none [] e = refl
  last_none (x ∷ xs) e = absurd cc

  pub last_contained : (xs : List X) (x : X) → last xs ≡ Some x → Contains xs x
  last_contained [] x e = absurd cc
  last_contained (y ∷ []) x e = (0, omega arith, cc)
  last_contained (y ∷ z ∷ zs) x e = contains_next y x (z ∷ zs) (last_contained (z ∷ zs) x e)

  -- the filter keeps the members that the test asks for
  pub any_filter_at : (p keep : X → Bool) (xs : List X) → ((x : X) → Contains xs x → IsTrue (p x) → IsTrue (keep x)) → list_any p (filter keep xs) ≡ list_any p xs
  any_filter_at p keep xs stays =
      same_truth _ _ (any_unfilter p keep xs) (λ t. let a = member p xs t in any_at p (filter keep xs) a.0 (into_filter keep xs a.0 a.1 (stays a.0 a.1 a.2)) a.2)
