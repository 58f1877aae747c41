-- Elements put in rising order, each once, by any total order.
use Rattle.std.proofs.Common.{◌≡◌, ◌≢◌, ◌<◌, cond, List, [], ◌∷◌, AllPairs, Contains, fold, refl, sym, ap, ◌∙◌, subst, inl, inr, ◌⊎◌, arith}
use Rattle.std.specs.Ordering.{is_lt, is_eq, ordering_reverse}
use Rattle.std.specs.declared.cmp.Ordering.{Ordering}
use Rattle.std.specs.declared.cmp.Ordering.TheVariants.{Less, Equal, Greater}
use Rattle.std.specs.Cmp.{IsTotalOrder, tied_itself}
use Rattle.std.proofs.lemmas.List.Elements.{All-cons, All-contains, Contains-get_or}
use Rattle.std.proofs.lemmas.List.Kept.{AllPairs-cons}
use Rattle.adb_model.specs.Lists.{placed, rising}
use Rattle.adb_model.proofs.Members.{contains_here, contains_next, contains_cases, contains_none}
use Rattle.adb_model.proofs.Pairs.{pairs_none, pairs_head, pairs_tail}

module _ {X : Type 0} (cmp : X → X → Ordering) (order : IsTotalOrder cmp) where
  abbrev Rise : List X → Type 0
  Rise xs = AllPairs (λ a b. cmp a b ≡ Less) xs

  -- no element is below itself
  pub less_apart : (x y : X) → cmp x y ≡ Less → x ≢ y
  less_apart x y lt e = let none : Equal ≡ Less = sym (tied_itself order x) ∙ ap (cmp x) e ∙ lt in absurd cc

  -- what an element's place is in a rising list: before another, at it, behind it
  at_place : (P : List X → Type 0) (x y : X) (ys : List X) → (cmp x y ≡ Less → P (x ∷ y ∷ ys)) → (cmp x y ≡ Equal → P (y ∷ ys)) → (cmp y x ≡ Less → P (y ∷ placed cmp x ys)) → P (placed cmp x (y ∷ ys))
  at_place P x y ys before at behind = by (cmp x y) refl
    where
      by : (o : Ordering) → cmp x y ≡ o → P (cond (is_lt (cmp x y)) (x ∷ y ∷ ys) (cond (is_eq (cmp x y)) (y ∷ ys) (y ∷ placed cmp x ys)))
      by Less e = subst (λ o. P (cond (is_lt o) (x ∷ y ∷ ys) (cond (is_eq o) (y ∷ ys) (y ∷ placed cmp x ys)))) (sym e) (before e)
      by Equal e = subst (λ o. P (cond (is_lt o) (x ∷ y ∷ ys) (cond (is_eq o) (y ∷ ys) (y ∷ placed cmp x ys)))) (sym e) (at e)
      by Greater e = subst (λ o. P (cond (is_lt o) (x ∷ y ∷ ys) (cond (is_eq o) (y ∷ ys) (y ∷ placed cmp x ys)))) (sym e) (behind (order.antisymm y x ∙ ap ordering_reverse e))

  still_placed : (x z : X) (ys : List X) → Contains ys z → Contains (placed cmp x ys) z
  still_placed x z [] c = absurd (contains_none z c)
  still_placed x z (y ∷ ys) c =
      at_place (λ l. Contains l z) x y ys (λ lt. contains_next x z (y ∷ ys) c) (λ e. c)
      (λ gt. elim (contains_cases y z ys c) [ inl e ↦ (0, omega arith, e) | inr d ↦ contains_next y z (placed cmp x ys) (still_placed x z ys d) ])

  from_placed : (x z : X) (ys : List X) → Contains (placed cmp x ys) z → (x ≡ z) ⊎ Contains ys z
  from_placed x z [] c = contains_cases x z [] c
  from_placed x z (y ∷ ys) c =
      at_place (λ l. Contains l z → (x ≡ z) ⊎ Contains (y ∷ ys) z) x y ys
      (λ lt d. contains_cases x z (y ∷ ys) d)
      (λ e d. inr d)
      (λ gt d. elim (contains_cases y z (placed cmp x ys) d) [
        | inl e ↦ inr (0, omega arith, e)
        | inr f ↦ elim (from_placed x z ys f) [ inl e ↦ inl e | inr g ↦ inr (contains_next y z ys g) ]
      ])
      c

  rise_placed : (x : X) (ys : List X) → Rise ys → Rise (placed cmp x ys)
  rise_placed x [] up = AllPairs-cons (λ a b. cmp a b ≡ Less) x [] (λ k d lt. let none : k < 0 = lt in absurd (omega arith)) (pairs_none (λ a b. cmp a b ≡ Less))
  rise_placed x (y ∷ ys) up =
      at_place Rise x y ys
      (λ lt. AllPairs-cons (λ a b. cmp a b ≡ Less) x (y ∷ ys) (All-cons (λ b. cmp x b ≡ Less) y ys lt (λ k d in'. order.trans x y _ lt (pairs_head (λ a b. cmp a b ≡ Less) y ys up k d in'))) up)
      (λ e. up)
      (λ gt. AllPairs-cons (λ a b. cmp a b ≡ Less) y (placed cmp x ys)
      (λ k d in'. elim (from_placed x _ ys (Contains-get_or (placed cmp x ys) k d in')) [
        | inl e ↦ subst (λ z. cmp y z ≡ Less) e gt
        | inr c ↦ All-contains (λ b. cmp y b ≡ Less) ys _ (pairs_head (λ a b. cmp a b ≡ Less) y ys up) c
      ])
      (rise_placed x ys (pairs_tail (λ a b. cmp a b ≡ Less) y ys up)))

  -- ---- one after the other

  from_onto : (xs ys : List X) (z : X) → Contains (fold (λ ys x. placed cmp x ys) ys xs) z → Contains xs z ⊎ Contains ys z
  from_onto [] ys z c = inr c
  from_onto (x ∷ xs) ys z c =
      elim (from_onto xs (placed cmp x ys) z c) [
        | inl d ↦ inl (contains_next x z xs d)
        | inr d ↦ elim (from_placed x z ys d) [ inl e ↦ inl (0, omega arith, e) | inr f ↦ inr f ]
      ]

  pub from_rising : (xs : List X) (z : X) → Contains (rising cmp xs) z → Contains xs z
  from_rising xs z c = elim (from_onto xs [] z c) [ inl d ↦ d | inr d ↦ absurd (contains_none z d) ]

  rise_onto : (xs ys : List X) → Rise ys → Rise (fold (λ ys x. placed cmp x ys) ys xs)
  rise_onto [] ys up = up
  rise_onto (x ∷ xs) ys up = rise_onto xs (placed cmp x ys) (rise_placed x ys up)

  pub rising_rises : (xs : List X) → AllPairs (λ a b. cmp a b ≡ Less) (rising cmp xs)
  rising_rises xs = rise_onto xs [] (pairs_none (λ a b. cmp a b ≡ Less))

  module _ (same : (x y : X) → cmp x y ≡ Equal → x ≡ y) where
    into_placed : (x : X) (ys : List X) → Contains (placed cmp x ys) x
    into_placed x [] = contains_here x []
    into_placed x (y ∷ ys) = at_place (λ l. Contains l x) x y ys (λ lt. contains_here x (y ∷ ys)) (λ e. (0, omega arith, sym (same x y e))) (λ gt. contains_next y x (placed cmp x ys) (into_placed x ys))

    still_onto : (xs ys : List X) (z : X) → Contains ys z → Contains (fold (λ ys x. placed cmp x ys) ys xs) z
    still_onto [] ys z c = c
    still_onto (x ∷ xs) ys z c = still_onto xs (placed cmp x ys) z (still_placed x z ys c)

    into_onto : (xs ys : List X) (z : X) → Contains xs z → Contains (fold (λ ys x. placed cmp x ys) ys xs) z
    into_onto [] ys z c = absurd (contains_none z c)
    into_onto (x ∷ xs) ys z c =
        elim (contains_cases x z xs c) [
          | inl e ↦ still_onto xs (placed cmp x ys) z (subst (Contains (placed cmp x ys)) e (into_placed x ys))
          | inr d ↦ into_onto xs (placed cmp x ys) z d
        ]

    pub into_rising : (xs : List X) (z : X) → Contains xs z → Contains (rising cmp xs) z
    into_rising xs z c = into_onto xs [] z c
