-- Rising lists of numbers, each once.
use Rattle.std.proofs.Common.{◌≡◌, ◌≢◌, ℕ, ◌<◌, ◌≤◌, List, [], ◌∷◌, get_or, Bool, true, false, cond, eqb, ltb, ◌||◌, All, AllPairs, fold, nat_cmp, refl, sym, ap, ap₂, subst, ◌∙◌, inl, inr, arith}
use Rattle.std.specs.List.Sorted.{IsStrictlyIncreasing}
use Rattle.std.proofs.lemmas.Bool.{cases_Bool, cases_lt, lt-ltb, le-ltb, ltb-true, ltb-false, eq-eqb, ne_eqb, eqb-true, eqb-false, true≢false}
use Rattle.std.proofs.lemmas.List.Elements.{All-cons, All-head, All-tail}
use Rattle.std.proofs.lemmas.List.Folds.{list_any_none}
use Rattle.std.proofs.lemmas.List.Kept.{AllPairs-cons, AllPairs-from_increasing}
use Rattle.adb_model.specs.Lists.{among, placed, rising}
use Rattle.open_plan.proofs.Facts.{pairs_head, pairs_tail}

abbrev Rises : List ℕ → Type 0
Rises xs = AllPairs (λ a b. a < b) xs

-- ---- one number that is put in

abbrev put : ℕ → List ℕ → List ℕ
put x ys = placed nat_cmp x ys

among_put : (x : ℕ) (ys : List ℕ) (s : ℕ) → among s (put x ys) ≡ (eqb x s || among s ys)
among_put x [] s = refl
among_put x (y ∷ ys) s = elim (cases_Bool (ltb x y)) [
  | inl lower ↦ rw lower refl
  | inr not_lower ↦ rw not_lower (elim (cases_Bool (eqb x y)) [
    | inl same ↦ rw same (twice (eqb y s) (among s ys) ∙ ap (λ n. eqb n s || (eqb y s || among s ys)) (sym (eqb-true x y same)))
    | inr other ↦ rw other (ap (λ b. eqb y s || b) (among_put x ys s) ∙ swapped (eqb y s) (eqb x s) (among s ys))
  ])
]
  where
    twice : (a b : Bool) → (a || b) ≡ (a || (a || b))
    twice true b = refl
    twice false b = refl

    swapped : (a b c : Bool) → (a || (b || c)) ≡ (b || (a || c))
    swapped true true c = refl
    swapped true false c = refl
    swapped false b c = refl

all_put : (P : ℕ → Type 0) (x : ℕ) (ys : List ℕ) → P x → All P ys → All P (put x ys)
all_put P x [] here all = All-cons P x [] here all
all_put P x (y ∷ ys) here all = elim (cases_Bool (ltb x y)) [
  | inl lower ↦ rw lower (All-cons P x (y ∷ ys) here all)
  | inr not_lower ↦ rw not_lower (elim (cases_Bool (eqb x y)) [
    | inl same ↦ rw same all
    | inr other ↦ rw other (All-cons P y (put x ys) (All-head P y ys all) (all_put P x ys here (All-tail P y ys all)))
  ])
]

rises_put : (x : ℕ) (ys : List ℕ) → Rises ys → Rises (put x ys)
rises_put x [] up = λ i j d lt within. omega (arith, lt, within)
rises_put x (y ∷ ys) up = elim (cases_Bool (ltb x y)) [
  | inl lower ↦
      let lt = ltb-true x y lower in
      rw lower (AllPairs-cons (λ a b. a < b) x (y ∷ ys) (All-cons (λ b. x < b) y ys lt (λ k d within. omega (arith, lt, pairs_head (λ a b. a < b) y ys up k d within))) up)
  | inr not_lower ↦ rw not_lower (elim (cases_Bool (eqb x y)) [
    | inl same ↦ rw same up
    | inr other ↦
        let lt : y < x = above (ltb-false x y not_lower) (eqb-false x y other) in
        rw other (AllPairs-cons (λ a b. a < b) y (put x ys) (all_put (λ b. y < b) x ys lt (pairs_head (λ a b. a < b) y ys up)) (rises_put x ys (pairs_tail (λ a b. a < b) y ys up)))
  ])
]
  where
    above : y ≤ x → x ≢ y → y < x
    above le differs = elim (cases_lt y x) [ inl lt ↦ lt | inr ge ↦ absurd (differs (omega (arith, le, ge))) ]

-- ---- all numbers of a list

abbrev all_in : List ℕ → List ℕ → List ℕ
all_in ys xs = fold (λ zs x. put x zs) ys xs

among_all : (xs ys : List ℕ) (s : ℕ) → among s (all_in ys xs) ≡ (among s xs || among s ys)
among_all [] ys s = refl
among_all (x ∷ xs) ys s =
    among_all xs (put x ys) s ∙ ap (λ b. among s xs || b) (among_put x ys s) ∙ swapped (among s xs) (eqb x s) (among s ys)
  where
    swapped : (a b c : Bool) → (a || (b || c)) ≡ ((b || a) || c)
    swapped true true c = refl
    swapped true false c = refl
    swapped false true c = refl
    swapped false false c = refl

rises_all : (xs ys : List ℕ) → Rises ys → Rises (all_in ys xs)
rises_all [] ys up = up
rises_all (x ∷ xs) ys up = rises_all xs (put x ys) (rises_put x ys up)

-- ---- rising lists of the same numbers are one

none_above : (x : ℕ) (xs : List ℕ) → All (λ b. x < b) xs → among x xs ≡ false
none_above x xs all = list_any_none (λ b. eqb b x) xs (λ k d lt. ne_eqb (get_or xs k d) x (λ e. omega (arith, e, all k d lt)))

here : (x : ℕ) (xs : List ℕ) → among x (x ∷ xs) ≡ true
here x xs = ap (λ b. b || among x xs) (eq-eqb x x refl)

not_below : (x y : ℕ) (xs ys : List ℕ) → x < y → Rises (y ∷ ys) → among x (x ∷ xs) ≡ among x (y ∷ ys) → ⊥
not_below x y xs ys lt up same =
    true≢false (sym (here x xs) ∙ same ∙ none_above x (y ∷ ys) (All-cons (λ b. x < b) y ys lt (λ k d within. omega (arith, lt, pairs_head (λ a b. a < b) y ys up k d within))))

same_list : (xs ys : List ℕ) → Rises xs → Rises ys → ((s : ℕ) → among s xs ≡ among s ys) → xs ≡ ys
same_list [] [] up vp same = refl
same_list [] (y ∷ ys) up vp same = absurd (true≢false (sym (here y ys) ∙ sym (same y)))
same_list (x ∷ xs) [] up vp same = absurd (true≢false (sym (here x xs) ∙ same x))
same_list (x ∷ xs) (y ∷ ys) up vp same = ap₂ (λ (z : ℕ) (zs : List ℕ). z ∷ zs) heads (same_list xs ys (pairs_tail (λ a b. a < b) x xs up) (pairs_tail (λ a b. a < b) y ys vp) rest)
  where
    heads : x ≡ y
    heads = elim (cases_lt x y) [
      | inl lt ↦ absurd (not_below x y xs ys lt vp (same x))
      | inr ge ↦ elim (cases_lt y x) [
        | inl gt ↦ absurd (not_below y x ys xs gt up (sym (same y)))
        | inr le ↦ omega (arith, ge, le)
      ]
    ]

    rest : (s : ℕ) → among s xs ≡ among s ys
    rest s = elim (cases_Bool (eqb x s)) [
      | inl t ↦
          let at_x : x ≡ s = eqb-true x s t in
          let at_y : y ≡ s = sym heads ∙ at_x in
          subst (λ n. among n xs ≡ false) at_x (none_above x xs (pairs_head (λ a b. a < b) x xs up))
          ∙ sym (subst (λ n. among n ys ≡ false) at_y (none_above y ys (pairs_head (λ a b. a < b) y ys vp)))
      | inr f ↦
          let g : eqb y s ≡ false = ap (λ n. eqb n s) (sym heads) ∙ f in
          sym (ap (λ b. b || among s xs) f) ∙ same s ∙ ap (λ b. b || among s ys) g
    ]

-- a rising list that has just the numbers of another
pub rising_is : (xs ys : List ℕ) → IsStrictlyIncreasing ys → ((s : ℕ) → among s ys ≡ among s xs) → ys ≡ rising nat_cmp xs
rising_is xs ys up each =
    same_list ys (rising nat_cmp xs) (AllPairs-from_increasing ys up) (rises_all xs [] (λ i j d lt within. omega (arith, lt, within)))
    (λ s. each s ∙ sym (among_all xs [] s ∙ alone (among s xs)))
  where
    alone : (b : Bool) → (b || false) ≡ b
    alone true = refl
    alone false = refl
