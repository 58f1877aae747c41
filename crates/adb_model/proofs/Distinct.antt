-- Equal keys, and each element once.
use Rattle.std.proofs.Common.{◌≡◌, ◌≢◌, ℕ, Bool, true, false, cond, not, IsTrue, IsFalse, List, [], ◌∷◌, ◌++◌, map, filter, All, AllPairs, Contains, refl, sym, ap, ◌∙◌, subst, inl, inr, ◌⊎◌, arith}
use Rattle.std.specs.List.{list_any}
use Rattle.std.specs.Str.{bytes_eq}
use Rattle.std.specs.Cmp.Lexicographic.{nat_list_eq_equiv, same_text}
use Rattle.std.proofs.lemmas.Bool.{true≢false, cases_Bool, or_cases, or_parts, not_from_true, not_from_false, not-true, false_from_ne_true}
use Rattle.std.proofs.lemmas.List.Elements.{filter_passes, All-head, All-tail}
use Rattle.std.proofs.lemmas.List.Kept.{AllPairs-cons, AllPairs-filter}
use Rattle.adb_model.specs.Lists.{distinct}
use Rattle.adb_model.proofs.Members.{contains_next, contains_cases, into_filter, from_filter}
use Rattle.adb_model.proofs.Pairs.{pairs_none}
use Rattle.adb_model.proofs.Filters.{filter_push_same, filter_push_other, filter_twice, filter_swap}

pub bytes_eq-true : (a b : List ℕ) → IsTrue (bytes_eq a b) → a ≡ b
bytes_eq-true a b t = same_text a b (sym t)

pub bytes_eq_self : (a : List ℕ) → IsTrue (bytes_eq a a)
bytes_eq_self a = nat_list_eq_equiv.refl a

pub eq-bytes_eq : (a b : List ℕ) → a ≡ b → IsTrue (bytes_eq a b)
eq-bytes_eq a b e = ap (bytes_eq a) (sym e) ∙ bytes_eq_self a

pub ne-bytes_eq : (a b : List ℕ) → a ≢ b → IsFalse (bytes_eq a b)
ne-bytes_eq a b ne = elim (cases_Bool (bytes_eq a b)) [ inl t ↦ absurd (ne (bytes_eq-true a b t)) | inr f ↦ f ]

module _ {X : Type 0} (same : X → X → Bool) (is_same : (x y : X) → IsTrue (same x y) → x ≡ y) (self : (x : X) → IsTrue (same x x)) where
  pub into_distinct : (xs : List X) (x : X) → Contains xs x → Contains (distinct same xs) x
  into_distinct [] x c = c
  into_distinct (y ∷ ys) x c =
      elim (contains_cases y x ys c) [
        | inl e ↦ (0, omega arith, e)
        | inr d ↦ elim (cases_Bool (same y x)) [
          | inl t ↦ (0, omega arith, is_same y x t)
          | inr f ↦ contains_next y x _ (into_filter (λ z. not (same y z)) (distinct same ys) x (into_distinct ys x d) (not_from_false (same y x) f))
        ]
      ]

  pub from_distinct : (xs : List X) (x : X) → Contains (distinct same xs) x → Contains xs x
  from_distinct [] x c = c
  from_distinct (y ∷ ys) x c =
      elim (contains_cases y x (filter (λ z. not (same y z)) (distinct same ys)) c) [
        | inl e ↦ (0, omega arith, e)
        | inr d ↦ contains_next y x ys (from_distinct ys x (from_filter (λ z. not (same y z)) (distinct same ys) x d).0)
      ]

  pub distinct_pairs : (xs : List X) → AllPairs (λ x y. x ≢ y) (distinct same xs)
  distinct_pairs [] = pairs_none (λ x y. x ≢ y)
  distinct_pairs (y ∷ ys) =
      AllPairs-cons (λ x y. x ≢ y) y (filter (λ z. not (same y z)) (distinct same ys))
      (λ k d lt e. let passes = filter_passes (λ z. not (same y z)) (distinct same ys) k d lt in true≢false (sym (subst (λ z. IsTrue (same y z)) e (self y)) ∙ not-true _ passes))
      (AllPairs-filter (λ x y. x ≢ y) (λ z. not (same y z)) (distinct same ys) (distinct_pairs ys))

module _ {X : Type 0} (same : X → X → Bool) where
  -- one more element, that is not there yet
  pub distinct_new : (xs : List X) (x : X) → IsFalse (list_any (λ y. same y x) xs) → distinct same (xs ++ x ∷ []) ≡ distinct same xs ++ x ∷ []
  distinct_new [] x f = refl
  distinct_new (y ∷ ys) x f =
      let parts = or_parts (same y x) (list_any (λ y. same y x) ys) f in
      ap (λ (l : List X). y ∷ filter (λ z. not (same y z)) l) (distinct_new ys x parts.1) ∙ ap (λ (l : List X). y ∷ l) (filter_push_same (λ z. not (same y z)) (distinct same ys) x (not_from_false _ parts.0))

  -- one more element, that is there already
  pub distinct_old : (xs : List X) (x : X) → IsTrue (list_any (λ y. same y x) xs) → distinct same (xs ++ x ∷ []) ≡ distinct same xs
  distinct_old [] x t = absurd (true≢false (sym t))
  distinct_old (y ∷ ys) x t = by (cases_Bool (list_any (λ y. same y x) ys)) (or_cases (same y x) (list_any (λ y. same y x) ys) t) (distinct_old ys x)
    where
      by : IsTrue (list_any (λ y. same y x) ys) ⊎ IsFalse (list_any (λ y. same y x) ys) → IsTrue (same y x) ⊎ IsTrue (list_any (λ y. same y x) ys)
          → (IsTrue (list_any (λ y. same y x) ys) → distinct same (ys ++ x ∷ []) ≡ distinct same ys) → distinct same (y ∷ (ys ++ x ∷ [])) ≡ distinct same (y ∷ ys)
      by (inl there) c ih = ap (λ (l : List X). y ∷ filter (λ z. not (same y z)) l) (ih there)
      by (inr none) (inl here) ih = ap (λ (l : List X). y ∷ filter (λ z. not (same y z)) l) (distinct_new ys x none) ∙ ap (λ (l : List X). y ∷ l) (filter_push_other (λ z. not (same y z)) (distinct same ys) x (not_from_true _ here))
      by (inr none) (inr there) ih = absurd (true≢false (sym there ∙ none))

-- ---- a part of the elements, that equal elements share

module _ {X : Type 0} (same : X → X → Bool) (part : X → Bool) (alike : (x y : X) → IsTrue (same x y) → part x ≡ part y) where
  pub filter_distinct : (xs : List X) → filter part (distinct same xs) ≡ distinct same (filter part xs)
  filter_distinct [] = refl
  filter_distinct (x ∷ xs) = by (part x) refl (filter_distinct xs)
    where
      differs : X → Bool
      differs y = not (same x y)

      by : (b : Bool) → part x ≡ b → filter part (distinct same xs) ≡ distinct same (filter part xs) → filter part (x ∷ filter (λ y. not (same x y)) (distinct same xs)) ≡ distinct same (cond b (x ∷ filter part xs) (filter part xs))
      by true e ih =
          ap (λ b. cond b (x ∷ filter part (filter differs (distinct same xs))) (filter part (filter differs (distinct same xs)))) e
          ∙ ap (λ (l : List X). x ∷ l) (filter_swap part differs (distinct same xs) ∙ ap (filter differs) ih)
      by false e ih =
          ap (λ b. cond b (x ∷ filter part (filter differs (distinct same xs))) (filter part (filter differs (distinct same xs)))) e
          ∙ filter_twice part differs (λ y t. not_from_false (same x y) (false_from_ne_true (same x y) (λ s. true≢false (sym t ∙ sym (alike x y s) ∙ e)))) (distinct same xs) ∙ ih

  module _ {Y : Type 0} (f : X → Y) (other : Y → Y → Bool) (told : (x y : X) → IsTrue (part x) → IsTrue (part y) → same x y ≡ other (f x) (f y)) where
    map_filter : (p : X → Bool) (r : Y → Bool) (xs : List X) → All (λ x. p x ≡ r (f x)) xs → map f (filter p xs) ≡ filter r (map f xs)
    map_filter p r [] all = refl
    map_filter p r (x ∷ xs) all = by (p x) (All-head (λ x. p x ≡ r (f x)) x xs all) (map_filter p r xs (All-tail (λ x. p x ≡ r (f x)) x xs all))
      where
        by : (b : Bool) → b ≡ r (f x) → map f (filter p xs) ≡ filter r (map f xs) → map f (cond b (x ∷ filter p xs) (filter p xs)) ≡ filter r (f x ∷ map f xs)
        by true e ih = ap (λ (l : List Y). f x ∷ l) ih ∙ ap (λ b. cond b (f x ∷ filter r (map f xs)) (filter r (map f xs))) e
        by false e ih = ih ∙ ap (λ b. cond b (f x ∷ filter r (map f xs)) (filter r (map f xs))) e

    -- the part's elements, each once, as they are told apart by what f makes of them
    pub map_distinct : (xs : List X) → map f (distinct same (filter part xs)) ≡ distinct other (map f (filter part xs))
    map_distinct [] = refl
    map_distinct (x ∷ xs) = by (part x) refl (map_distinct xs)
      where
        by : (b : Bool) → part x ≡ b → map f (distinct same (filter part xs)) ≡ distinct other (map f (filter part xs)) → map f (distinct same (cond b (x ∷ filter part xs) (filter part xs))) ≡ distinct other (map f (cond b (x ∷ filter part xs) (filter part xs)))
        by true e ih =
            let once = distinct same (filter part xs) in
            let in_part : All (λ y. part y ≡ true) once = subst (All (λ y. part y ≡ true)) (filter_distinct xs) (filter_passes part (distinct same xs)) in
            ap (λ (l : List Y). f x ∷ l) (map_filter (λ y. not (same x y)) (λ z. not (other (f x) z)) once (λ k d lt. ap not (told x _ e (in_part k d lt))) ∙ ap (filter (λ z. not (other (f x) z))) ih)
        by false e ih = ih
