-- What a player has in hand, of each slot one at the most: one more, one fewer, and the one of a slot.
use Rattle.std.proofs.Common.{◌≡◌, ℕ, zero, suc, ◌+◌, ◌<◌, ◌≤◌, ◌==◌, List, [], ◌∷◌, ◌++◌, length, get_or, Bool, true, false, cond, eqb, ltb, not, IsFalse, Option, Some, None, is_some, IsSome, find, count_by, position, refl, sym, ap, ◌∙◌, subst, inl, inr, arith, slice_get}
use Rattle.std.specs.List.{remove, list_any, prefix_len, AllByRecursion}
use Rattle.std.specs.Option.{option_or, option_map}
use Rattle.std.proofs.lemmas.Bool.{cases_Bool, eqb-true, lt-ltb, or_parts}
use Rattle.std.proofs.lemmas.Bool.Decides.{nat_tests}
use Rattle.std.proofs.lemmas.Option.{get_or_from_slice_get, slice_get-get_or}
use Rattle.std.proofs.lemmas.List.Quantifiers.{position-Some}
use Rattle.std.proofs.lemmas.List.Folds.{find-append}
use Rattle.std.proofs.lemmas.List.Sums.{sum_by-cons}
use Rattle.replay.specs.Standing.{AreOpen}

abbrev one_if : Bool → ℕ
one_if b = cond b 1 0

module _ {X : Type 0} where
  count_cons : (p : X → Bool) (x : X) (xs : List X) → count_by p (x ∷ xs) ≡ one_if (p x) + count_by p xs
  count_cons p x xs = sum_by-cons (λ (y : X). cond (p y) 1 0) x xs

  -- ---- a search that finds nothing

  any_prefix : (test : X → Bool) (ps : List X) → list_any test ps ≡ ltb (prefix_len (λ p. not (test p)) ps) (length ps)
  any_prefix test [] = refl
  any_prefix test (p ∷ ps) = elim (cases_Bool (test p)) [
    | inl passes ↦ rw passes (sym (lt-ltb 0 (suc (length ps)) (omega arith)))
    | inr fails ↦ rw fails (any_prefix test ps ∙ later (prefix_len (λ q. not (test q)) ps) (length ps))
  ]
    where
      later : (m n : ℕ) → ltb m n ≡ ltb (1 + m) (suc n)
      later m n = grind (arith, nat_tests)

  any_position : (test : X → Bool) (ps : List X) → list_any test ps ≡ is_some (position test ps)
  any_position test ps = any_prefix test ps ∙ shown (ltb (prefix_len (λ p. not (test p)) ps) (length ps)) (prefix_len (λ p. not (test p)) ps)
    where
      shown : (b : Bool) (n : ℕ) → b ≡ is_some (cond b (Some n) None)
      shown true n = refl
      shown false n = refl

  none_found : (p : X → Bool) (xs : List X) → IsFalse (list_any p xs) → find p xs ≡ None
  none_found p [] f = refl
  none_found p (x ∷ xs) f = let parts = or_parts (p x) (list_any p xs) f in ap (λ b. cond b (Some x) (find p xs)) parts.0 ∙ none_found p xs parts.1

  pub no_position : (p : X → Bool) (xs : List X) → position p xs ≡ None → find p xs ≡ None
  no_position p xs e = none_found p xs (any_position p xs ∙ ap is_some e)

  none_counted : (p : X → Bool) (xs : List X) → find p xs ≡ None → count_by p xs ≡ 0
  none_counted p [] e = refl
  none_counted p (x ∷ xs) e = by (p x) refl (none_counted p xs)
    where
      by : (b : Bool) → p x ≡ b → (find p xs ≡ None → count_by p xs ≡ 0) → count_by p (x ∷ xs) ≡ 0
      by true t rest = absurd (let wrong : Some x ≡ None = sym (ap (λ b. cond b (Some x) (find p xs)) t) ∙ e in cc)
      by false f rest = omega (arith, count_cons p x xs, ap one_if f, rest (sym (ap (λ b. cond b (Some x) (find p xs)) f) ∙ e))

  zero_found : (p : X → Bool) (xs : List X) → count_by p xs ≡ 0 → find p xs ≡ None
  zero_found p [] e = refl
  zero_found p (x ∷ xs) e = by (p x) refl (zero_found p xs)
    where
      by : (b : Bool) → p x ≡ b → (count_by p xs ≡ 0 → find p xs ≡ None) → find p (x ∷ xs) ≡ None
      by true t rest = absurd (omega (arith, e, count_cons p x xs, ap one_if t))
      by false f rest = ap (λ b. cond b (Some x) (find p xs)) f ∙ rest (omega (arith, e, count_cons p x xs, ap one_if f))

  count_push : (p : X → Bool) (xs : List X) (x : X) → count_by p (xs ++ x ∷ []) ≡ count_by p xs + one_if (p x)
  count_push p [] x = count_cons p x [] ∙ omega arith
  count_push p (y ∷ ys) x = omega (arith, count_cons p y (ys ++ x ∷ []), count_cons p y ys, count_push p ys x)

  -- ---- the first that passes

  abbrev IsFirst : (X → Bool) → List X → ℕ → X → Type 0
  IsFirst test xs i d = (i < length xs) × (test (get_or xs i d) ≡ true) × ((k : ℕ) → k < i → test (get_or xs k d) ≡ false)

  next_first : (test : X → Bool) (x : X) (xs : List X) (i : ℕ) (d : X) → IsFirst test (x ∷ xs) (suc i) d → IsFirst test xs i d
  next_first test x xs i d first = (omega (arith, first.0), first.1, λ k lt. first.2 (suc k) (omega arith))

  first_found : (p : X → Bool) (xs : List X) (i : ℕ) (d : X) → IsFirst p xs i d → find p xs ≡ Some (get_or xs i d)
  first_found p [] i d first = absurd (omega (arith, first.0))
  first_found p (x ∷ xs) zero d first = ap (λ b. cond b (Some x) (find p xs)) first.1
  first_found p (x ∷ xs) (suc i) d first = ap (λ b. cond b (Some x) (find p xs)) (first.2 0 (omega arith)) ∙ first_found p xs i d (next_first p x xs i d first)

  -- what leaves is counted no more
  removed_counted : (p : X → Bool) (xs : List X) (i : ℕ) (d : X) → i < length xs → count_by p xs ≡ count_by p (remove xs i) + one_if (p (get_or xs i d))
  removed_counted p [] i d lt = absurd (omega (arith, lt))
  removed_counted p (x ∷ xs) zero d lt = omega (arith, count_cons p x xs)
  removed_counted p (x ∷ xs) (suc i) d lt = omega (arith, count_cons p x xs, count_cons p x (remove xs i), removed_counted p xs i d (omega (arith, lt)))

  -- a search for others finds what it found
  others_found : (q : X → Bool) (xs : List X) (i : ℕ) (d : X) → i < length xs → q (get_or xs i d) ≡ false → find q (remove xs i) ≡ find q xs
  others_found q [] i d lt f = absurd (omega (arith, lt))
  others_found q (x ∷ xs) zero d lt f = sym (ap (λ b. cond b (Some x) (find q xs)) f)
  others_found q (x ∷ xs) (suc i) d lt f = ap (λ o. cond (q x) (Some x) o) (others_found q xs i d (omega (arith, lt)) f)

-- ---- what holds of those that are left

module _ {X : Type 0} (P : X → Type 0) where
  pub each_left : (xs : List X) (i : ℕ) → i < length xs → AllByRecursion P xs → AllByRecursion P (remove xs i)
  each_left [] i lt h = absurd (omega (arith, lt))
  each_left (x ∷ xs) zero lt h = h.1
  each_left (x ∷ xs) (suc i) lt h = (h.0, each_left xs i (omega (arith, lt)) h.1)

  -- a fact that follows for those that don't pass a test, where none passes it
  pub each_apart : (Q : X → Type 0) (p : X → Bool) → ((x : X) → p x ≡ false → P x → Q x) → (xs : List X) → count_by p xs ≡ 0 → AllByRecursion P xs → AllByRecursion Q xs
  each_apart Q p on [] none h = tt
  each_apart Q p on (x ∷ xs) none h = by (p x) refl (each_apart Q p on xs)
    where
      by : (b : Bool) → p x ≡ b → (count_by p xs ≡ 0 → AllByRecursion P xs → AllByRecursion Q xs) → Q x × AllByRecursion Q xs
      by true t rest = absurd (omega (arith, none, count_cons p x xs, ap one_if t))
      by false f rest = (on x f h.0, rest (omega (arith, none, count_cons p x xs, ap one_if f)) h.1)

or_none : {X : Type 0} (o : Option X) → option_or o None ≡ o
or_none None = refl
or_none (Some x) = refl

pub some_from : {X : Type 0} (o : Option X) (x : X) → o ≡ Some x → IsSome o
some_from (Some y) x e = refl
some_from None x e = absurd cc

no_seen : {X Y : Type 0} (seen : X → Y) (o : Option X) → option_map seen o ≡ None → o ≡ None
no_seen seen None e = refl
no_seen seen (Some x) e = absurd cc

-- ---- those in hand are open

module _ {X Y : Type 0} (slot_of : X → ℕ) (seen : X → Y) where
  abbrev is_of : ℕ → X → Bool
  is_of s x = slot_of x == s

  of_another : (s slot : ℕ) (x : X) → slot_of x ≡ slot → eqb slot s ≡ false → is_of s x ≡ false
  of_another s slot x is f = ap (λ k. eqb k s) is ∙ f

  -- the same are open
  pub open_as : (hand : List X) (old new : ℕ → Option Y) → ((s : ℕ) → new s ≡ old s) → AreOpen slot_of seen hand old → AreOpen slot_of seen hand new
  open_as hand old new same h = record { each = λ s. same s ∙ h.each s; differ = h.differ }

  -- none is open where none is in hand
  pub none_open : (hand : List X) (old : ℕ → Option Y) (slot : ℕ) → AreOpen slot_of seen hand old → position (is_of slot) hand ≡ None → old slot ≡ None
  none_open hand old slot h e = h.each slot ∙ ap (option_map seen) (no_position (is_of slot) hand e)

  module _ (hand : List X) (old : ℕ → Option Y) (h : AreOpen slot_of seen hand old) where
    few : (s : ℕ) → count_by (is_of s) hand ≤ 1
    few s = h.differ s

    -- ---- one more

    pub one_more : (x : X) (new : ℕ → Option Y) → old (slot_of x) ≡ None → new (slot_of x) ≡ Some (seen x) → ((s : ℕ) → eqb (slot_of x) s ≡ false → new s ≡ old s) → AreOpen slot_of seen (hand ++ x ∷ []) new
    one_more x new before now others = record { each = each; differ = differ }
      where
        none : find (is_of (slot_of x)) hand ≡ None
        none = no_seen seen (find (is_of (slot_of x)) hand) (sym (h.each (slot_of x)) ∙ before)

        pushed : (s : ℕ) (b : Bool) → eqb (slot_of x) s ≡ b → find (is_of s) (hand ++ x ∷ []) ≡ option_or (find (is_of s) hand) (cond b (Some x) None)
        pushed s b e = find-append (is_of s) hand (x ∷ []) ∙ ap (λ c. option_or (find (is_of s) hand) (cond c (Some x) None)) e

        none_at : (s : ℕ) → eqb (slot_of x) s ≡ true → find (is_of s) hand ≡ None
        none_at s e = subst (λ (k : ℕ). find (is_of k) hand ≡ None) (eqb-true (slot_of x) s e) none

        at : (s : ℕ) (b : Bool) → eqb (slot_of x) s ≡ b → new s ≡ option_map seen (find (is_of s) (hand ++ x ∷ []))
        at s true e =
            subst (λ (k : ℕ). new k ≡ Some (seen x)) (eqb-true (slot_of x) s e) now
            ∙ sym (ap (option_map seen) (pushed s true e ∙ ap (λ o. option_or o (Some x)) (none_at s e)))
        at s false e = others s e ∙ h.each s ∙ sym (ap (option_map seen) (pushed s false e ∙ or_none (find (is_of s) hand)))

        each : (s : ℕ) → new s ≡ option_map seen (find (is_of s) (hand ++ x ∷ []))
        each s = at s (eqb (slot_of x) s) refl

        counted : (s : ℕ) (b : Bool) → eqb (slot_of x) s ≡ b → count_by (is_of s) (hand ++ x ∷ []) ≤ 1
        counted s true e = omega (arith, count_push (is_of s) hand x, ap one_if e, none_counted (is_of s) hand (none_at s e))
        counted s false e = omega (arith, count_push (is_of s) hand x, ap one_if e, few s)

        differ : (s : ℕ) → count_by (is_of s) (hand ++ x ∷ []) ≤ 1
        differ s = counted s (eqb (slot_of x) s) refl

    -- ---- the one of a slot

    module _ (slot place : ℕ) (at : position (is_of slot) hand ≡ Some place) (x : X) (got : slice_get hand place ≡ Some x) where
      first : IsFirst (is_of slot) hand place x
      first = position-Some (is_of slot) hand place x at

      is_got : get_or hand place x ≡ x
      is_got = get_or_from_slice_get hand place x x got

      pub is_open : old slot ≡ Some (seen x)
      is_open = h.each slot ∙ ap (option_map seen) (first_found (is_of slot) hand place x first) ∙ ap (λ (y : X). Some (seen y)) is_got

      pub of_slot : slot_of x ≡ slot
      of_slot = sym (ap (λ (y : X). slot_of y) is_got) ∙ eqb-true _ _ first.1

      pub none_left : count_by (is_of slot) (remove hand place) ≡ 0
      none_left = omega (arith, removed_counted (is_of slot) hand place x first.0, ap one_if first.1, few slot)

      pub one_fewer : (new : ℕ → Option Y) → ((s : ℕ) → new s ≡ (cond (eqb slot s) None (old s))) → AreOpen slot_of seen (remove hand place) new
      one_fewer new leaves = record { each = each; differ = differ }
        where
          gone : find (is_of slot) (remove hand place) ≡ None
          gone = zero_found (is_of slot) (remove hand place) none_left

          at_slot : (s : ℕ) (b : Bool) → eqb slot s ≡ b → new s ≡ option_map seen (find (is_of s) (remove hand place))
          at_slot s true e =
              leaves s ∙ ap (λ b. cond b None (old s)) e
              ∙ sym (ap (option_map seen) (subst (λ (k : ℕ). find (is_of k) (remove hand place) ≡ None) (eqb-true slot s e) gone))
          at_slot s false e =
              leaves s ∙ ap (λ b. cond b None (old s)) e ∙ h.each s
              ∙ sym (ap (option_map seen) (others_found (is_of s) hand place x first.0 (of_another s slot (get_or hand place x) (eqb-true _ _ first.1) e)))

          each : (s : ℕ) → new s ≡ option_map seen (find (is_of s) (remove hand place))
          each s = at_slot s (eqb slot s) refl

          differ : (s : ℕ) → count_by (is_of s) (remove hand place) ≤ 1
          differ s = omega (arith, removed_counted (is_of s) hand place x first.0, few s)

  -- the one at the place that a search gave
  pub found_at : (hand searched_in : List X) (slot place : ℕ) (o : Option ℕ) (x : X) → o ≡ Some place → o ≡ position (is_of slot) searched_in → searched_in ≡ hand → x ≡ get_or hand place x
      → (position (is_of slot) hand ≡ Some place) × (slice_get hand place ≡ Some x)
  found_at hand searched_in slot place o x is searched same got =
      let at : position (is_of slot) hand ≡ Some place = sym (ap (position (is_of slot)) same) ∙ sym searched ∙ is in
      (at, slice_get-get_or hand place x (position-Some (is_of slot) hand place x at).0 ∙ ap (λ (y : X). Some y) (sym got))

  -- none of the slot was found
  pub not_found : (hand searched_in : List X) (slot : ℕ) (o : Option ℕ) → o ≡ None → o ≡ position (is_of slot) searched_in → searched_in ≡ hand → position (is_of slot) hand ≡ None
  not_found hand searched_in slot o is searched same = sym (ap (position (is_of slot)) same) ∙ sym searched ∙ is
