-- What is told of an index of which one key's lists are edited.
use Rattle.std.proofs.Common.{◌≡◌, ℕ, ◌<◌, List, [], ◌∷◌, ◌++◌, Bool, true, false, cond, eqb, ltb, ◌||◌, refl, sym, ap, ◌∙◌, inl, inr, arith}
use Rattle.std.specs.List.{filter}
use Rattle.std.specs.Str.{bytes_eq}
use Rattle.std.proofs.lemmas.Bool.{cases_Bool, cases_lt, lt-ltb, le-ltb, eqb-true, eq-eqb}
use Rattle.std.proofs.lemmas.List.Folds.{list_any-append}
use Rattle.slot_list.specs.Versions.{with_slot}
use Rattle.accounts_index.specs.Index.{Kept, Index, kept, IsWith}
use Rattle.adb_model.specs.Lists.{among}
use Rattle.open_plan.proofs.Facts.{same_bytes, cond_of, cond_same}

-- what the key has, where it is the other key
own : {X : Type 0} (g : List ℕ → X) (key k : List ℕ) (y : X) → cond (bytes_eq key k) (g key) y ≡ cond (bytes_eq key k) (g k) y
own g key k y = elim (cases_Bool (bytes_eq key k)) [
  | inl t ↦ rw t (ap g (same_bytes key k t))
  | inr f ↦ rw f refl
]

module _ (old new : Index) (key : List ℕ) (x : Kept) where
  -- what is told of the key changes so, and of each other key it stays
  pub turns : {X : Type 0} (f : Kept → X) (g : X → X) → IsWith old new key x → f x ≡ g (f (kept old key)) → (k : List ℕ) → f (kept new k) ≡ cond (bytes_eq key k) (g (f (kept old k))) (f (kept old k))
  turns f g is same k =
      ap f (is k) ∙ cond_of f (bytes_eq key k) x (kept old k)
      ∙ ap (λ y. cond (bytes_eq key k) y (f (kept old k))) same
      ∙ own (λ q. g (f (kept old q))) key k (f (kept old k))

  -- what the edit leaves alone
  pub stays : {X : Type 0} (f : Kept → X) → IsWith old new key x → f x ≡ f (kept old key) → (k : List ℕ) → f (kept new k) ≡ f (kept old k)
  stays f is same k = turns f (λ y. y) is same k ∙ cond_same (bytes_eq key k) (f (kept old k))

-- a slot that is put in is there, and each other one as before
pub among_with : (slot s : ℕ) (slots : List ℕ) → among s (with_slot slot slots) ≡ (eqb slot s || among s slots)
among_with slot s slots =
    list_any-append (λ x. eqb x s) (filter (λ x. ltb x slot) slots) (slot ∷ filter (λ x. ltb slot x) slots)
    ∙ parted slots
  where
    low : List ℕ → Bool
    low xs = among s (filter (λ x. ltb x slot) xs)

    high : List ℕ → Bool
    high xs = among s (filter (λ x. ltb slot x) xs)

    -- one more on either side, or the slot itself
    below : (a b c d : Bool) → (a || (b || c)) ≡ (b || d) → ((x : Bool) → ((x || a) || (b || c)) ≡ (b || (x || d)))
    below a b c d e true = by b
      where
        by : (q : Bool) → true ≡ (q || true)
        by true = refl
        by false = refl
    below a b c d e false = e

    above : (a b c d : Bool) → (a || (b || c)) ≡ (b || d) → ((x : Bool) → (a || (b || (x || c))) ≡ (b || (x || d)))
    above a b c d e true = by a b
      where
        by : (p q : Bool) → (p || (q || true)) ≡ (q || true)
        by true true = refl
        by true false = refl
        by false q = refl
    above a b c d e false = e

    itself : (a b c d : Bool) → (a || (b || c)) ≡ (b || d) → (a || (b || c)) ≡ (b || (b || d))
    itself a true c d e = e
    itself a false c d e = e

    parted : (xs : List ℕ) → (low xs || (eqb slot s || high xs)) ≡ (eqb slot s || among s xs)
    parted [] = refl
    parted (x ∷ xs) = elim (cases_lt x slot) [
      | inl lt ↦ rw (lt-ltb x slot lt) (rw (le-ltb slot x (omega (arith, lt))) (below (low xs) (eqb slot s) (high xs) (among s xs) (parted xs) (eqb x s)))
      | inr ge ↦ elim (cases_lt slot x) [
        | inl gt ↦ rw (le-ltb x slot ge) (rw (lt-ltb slot x gt) (above (low xs) (eqb slot s) (high xs) (among s xs) (parted xs) (eqb x s)))
        | inr le ↦
            let same : x ≡ slot = omega (arith, ge, le) in
            rw (le-ltb x slot ge) (rw (le-ltb slot x le) (rw (ap (λ y. eqb y s) same) (itself (low xs) (eqb slot s) (high xs) (among s xs) (parted xs))))
      ]
    ]
