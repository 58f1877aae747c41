-- What a search by slot finds, and what an edit at that place does.
use Rattle.std.proofs.Common.{◌≡◌, ℕ, suc, ◌+◌, ◌-◌, ◌<◌, ◌≤◌, List, ◌∷◌, ◌++◌, length, take, drop, set, get_or, map, true, false, cond, not, eqb, ltb, Some, None, Result, Ok, Err, IfOk, IfErr, sym, ap, subst, ◌∙◌, inl, inr, arith, AllPairs, All}
use Rattle.std.specs.List.{filter, find, insert, remove, list_any, refill}
use Rattle.std.specs.List.Sorted.{IsSearchInRange, IsBinarySearchResult, IsNonDecreasingBy, IsStrictlyIncreasing}
use Rattle.std.specs.Ordering.{nat_cmp, ordering_index}
use Rattle.std.proofs.lemmas.Bool.{cases_lt, lt-ltb, le-ltb, eq-eqb, ne_eqb}
use Rattle.std.proofs.lemmas.Bool.Decides.{nat_tests}
use Rattle.std.proofs.lemmas.Cmp.{ranked}
use Rattle.std.proofs.lemmas.Grind.{common_steps}
use Rattle.std.proofs.lemmas.List.{set_split, take_at, length-set}
use Rattle.std.proofs.lemmas.List.Quantifiers.{all_pairs_remove}
use Rattle.std.proofs.lemmas.List.Folds.{list_any_at, list_any_none}
use Rattle.std.proofs.lemmas.List.Edits.{length-insert, get_or-insert_below, get_or-insert_at, get_or-insert_above}
use Rattle.slot_list.specs.Places.{IsAt, IsGap}
use Rattle.slot_list.proofs.Filters.{filter_all, filter_front, filter_back, filter_but, find_none, find_there, map_at}

module _ {X : Type 0} (slot_of : X → ℕ) where
  -- each element is of a lower slot than all later ones
  abbrev pub Rising : List X → Type 0
  Rising xs = AllPairs (λ x y. slot_of x < slot_of y) xs

  -- the comparisons with a slot rise along the list, as a binary search asks
  comparisons_rise : (xs : List X) → Rising xs → (slot : ℕ) → IsNonDecreasingBy (λ x. ordering_index (nat_cmp (slot_of x) slot)) xs
  comparisons_rise xs up slot i j d le lt = elim (cases_lt i j) [
    | inl below ↦ let rises : slot_of (get_or xs i d) < slot_of (get_or xs j d) = up i j d below lt in grind (arith, nat_tests)
    | inr not_below ↦ let same : i ≡ j = omega arith in let e = ap (λ k. ordering_index (nat_cmp (slot_of (get_or xs k d)) slot)) same in omega arith
  ]

  -- a binary search by slot ends at the slot, or at the gap for it
  pub searched : (xs : List X) → Rising xs → (slot : ℕ) (r : Result ℕ ℕ) → IsSearchInRange r (length xs) → IsBinarySearchResult (λ x. nat_cmp (slot_of x) slot) xs r → record { found : IfOk r (IsAt slot_of xs slot); absent : IfErr r (IsGap slot_of xs slot) }
  searched xs up slot (Ok i) in_range equal =
      let here : (d : X) → slot_of (get_or xs i d) ≡ slot = λ d. ranked _ slot _ (sym (equal d)) in
      record {
        found = record {
          in_range = in_range;
          has_slot = here;
          lower_before = λ k d lo hi. omega (arith, up k i d hi in_range, here d);
          higher_after = λ k d lo hi. omega (arith, up i k d (omega arith) hi, here d);
        };
        absent = tt;
      }
  searched xs up slot (Err i) in_range parted = record {
    found = tt;
    absent = record {
      in_range = in_range;
      lower_before = λ k d lo hi. ranked _ slot _ (sym ((parted (comparisons_rise xs up slot)).0 k d lo hi));
      higher_from = λ k d lo hi. ranked _ slot _ (sym ((parted (comparisons_rise xs up slot)).1 k d lo hi));
    };
  }

  module _ (xs : List X) (slot i : ℕ) (found : IsAt slot_of xs slot i) where
    pub find_at : (d : X) → find (λ x. eqb (slot_of x) slot) xs ≡ Some (get_or xs i d)
    find_at d = find_there (λ x. eqb (slot_of x) slot) xs i d found.in_range
        (λ k d lo hi. ne_eqb _ slot (λ e. omega (arith, found.lower_before k d lo hi))) (λ d. eq-eqb _ slot (found.has_slot d))

    pub any_at : (d : X) → list_any (λ x. eqb (slot_of x) slot) xs ≡ true
    any_at d = list_any_at (λ x. eqb (slot_of x) slot) xs i d found.in_range (eq-eqb _ slot (found.has_slot d))

    pub without_at : filter (λ x. not (eqb (slot_of x) slot)) xs ≡ remove xs i
    without_at = filter_but (λ x. not (eqb (slot_of x) slot)) xs i found.in_range
        (λ k d lo hi. ap not (ne_eqb _ slot (λ e. omega (arith, found.lower_before k d lo hi))))
        (λ d. ap not (eq-eqb _ slot (found.has_slot d)))
        (λ k d lo hi. ap not (ne_eqb _ slot (λ e. omega (arith, found.higher_after k d lo hi))))

    -- an element of the slot is written over the one there
    pub put_at : (x : X) → filter (λ y. ltb (slot_of y) slot) xs ++ x ∷ filter (λ y. ltb slot (slot_of y)) xs ≡ set xs i x
    put_at x =
        let front = filter_front (λ y. ltb (slot_of y) slot) xs i
        (λ k d lo hi. lt-ltb _ slot (found.lower_before k d lo hi)) (λ k d lo hi. le-ltb _ slot (at_least k d lo hi)) (omega (arith, found.in_range)) in
        let back = filter_back (λ y. ltb slot (slot_of y)) xs (suc i)
        (λ k d lo hi. le-ltb slot _ (at_most k d hi)) (λ k d lo hi. lt-ltb slot _ (found.higher_after k d (omega arith) hi)) (omega (arith, found.in_range)) in
        ap (λ l. l ++ x ∷ filter (λ y. ltb slot (slot_of y)) xs) front ∙ ap (λ l. take i xs ++ x ∷ l) back ∙ sym (set_split xs i x found.in_range)
      where
        at_least : (k : ℕ) (d : X) → i ≤ k → k < length xs → slot ≤ slot_of (get_or xs k d)
        at_least k d lo hi = elim (cases_lt i k) [
          | inl above ↦ omega (arith, found.higher_after k d (omega arith) hi)
          | inr not_above ↦ let same : k ≡ i = omega arith in omega (arith, ap (λ n. slot_of (get_or xs n d)) same, found.has_slot d)
        ]

        at_most : (k : ℕ) (d : X) → k < suc i → slot_of (get_or xs k d) ≤ slot
        at_most k d hi = elim (cases_lt k i) [
          | inl below ↦ omega (arith, found.lower_before k d (omega arith) below)
          | inr not_below ↦ let same : k ≡ i = omega arith in omega (arith, ap (λ n. slot_of (get_or xs n d)) same, found.has_slot d)
        ]

    pub set_rises : (x : X) → slot_of x ≡ slot → Rising xs → Rising (set xs i x)
    set_rises x same up k l d lt in_range = grind (arith, common_steps, up k l d, up k i d, up i l d, found.in_range, found.has_slot d)

    pub remove_rises : Rising xs → Rising (remove xs i)
    remove_rises up = all_pairs_remove (λ x y. slot_of x < slot_of y) xs i found.in_range up

    -- what has the slot is changed
    pub map_there : (f : X → X) (d : X) → map (λ x. cond (eqb (slot_of x) slot) (f x) x) xs ≡ set xs i (f (get_or xs i d))
    map_there f d =
        let change = λ (x : X). cond (eqb (slot_of x) slot) (f x) x in
        map_at change xs i d found.in_range
        (λ k e lo hi. ap (λ b. cond b (f (get_or xs k e)) (get_or xs k e)) (ne_eqb _ slot (λ same. omega (arith, found.lower_before k e lo hi))))
        (λ k e lo hi. ap (λ b. cond b (f (get_or xs k e)) (get_or xs k e)) (ne_eqb _ slot (λ same. omega (arith, found.higher_after k e lo hi))))
        ∙ ap (λ b. set xs i (cond b (f (get_or xs i d)) (get_or xs i d))) (eq-eqb _ slot (found.has_slot d))

  module _ (xs : List X) (slot i : ℕ) (gap : IsGap slot_of xs slot i) where
    no_slot : All (λ x. eqb (slot_of x) slot ≡ false) xs
    no_slot k d lt = elim (cases_lt k i) [
      | inl below ↦ ne_eqb _ slot (λ e. omega (arith, gap.lower_before k d (omega arith) below))
      | inr above ↦ ne_eqb _ slot (λ e. omega (arith, gap.higher_from k d above lt))
    ]

    pub find_gap : find (λ x. eqb (slot_of x) slot) xs ≡ None
    find_gap = find_none (λ x. eqb (slot_of x) slot) xs no_slot

    pub any_gap : list_any (λ x. eqb (slot_of x) slot) xs ≡ false
    any_gap = list_any_none (λ x. eqb (slot_of x) slot) xs no_slot

    pub without_gap : filter (λ x. not (eqb (slot_of x) slot)) xs ≡ xs
    without_gap = filter_all (λ x. not (eqb (slot_of x) slot)) xs (λ k d lt. ap not (no_slot k d lt))

    pub put_gap : (x : X) → filter (λ y. ltb (slot_of y) slot) xs ++ x ∷ filter (λ y. ltb slot (slot_of y)) xs ≡ insert xs i x
    put_gap x =
        let front = filter_front (λ y. ltb (slot_of y) slot) xs i
        (λ k d lo hi. lt-ltb _ slot (gap.lower_before k d lo hi)) (λ k d lo hi. le-ltb _ slot (omega (arith, gap.higher_from k d lo hi))) gap.in_range in
        let back = filter_back (λ y. ltb slot (slot_of y)) xs i
        (λ k d lo hi. le-ltb slot _ (omega (arith, gap.lower_before k d lo hi))) (λ k d lo hi. lt-ltb slot _ (gap.higher_from k d lo hi)) gap.in_range in
        ap (λ l. l ++ x ∷ filter (λ y. ltb slot (slot_of y)) xs) front ∙ ap (λ l. take i xs ++ x ∷ l) back

    pub insert_rises : (x : X) → slot_of x ≡ slot → Rising xs → Rising (insert xs i x)
    insert_rises x same up k l d lt in_range =
        let new = insert xs i x in
        let at_new = λ (n : ℕ). slot_of (get_or new n d) in
        let at_old = λ (n : ℕ). slot_of (get_or xs n d) in
        let length_new = length-insert xs i x gap.in_range in
        let below : (n : ℕ) → n < i → at_new n ≡ at_old n = λ n lo. ap slot_of (get_or-insert_below xs i x d n lo gap.in_range) in
        let here : (n : ℕ) → n ≡ i → at_new n ≡ slot = λ n is. rw is (ap slot_of (get_or-insert_at xs i x d gap.in_range) ∙ same) in
        let above : (n : ℕ) → i < n → at_new n ≡ at_old (n - 1) = λ n hi. subst (λ q. at_new q ≡ at_old (n - 1)) {x = n - 1 + 1} (omega arith) (ap slot_of (get_or-insert_above xs i x d (n - 1) (omega arith) gap.in_range)) in
        grind (arith, below k, here k, above k, below l, here l, above l, up k l d, up k (l - 1) d, up (k - 1) (l - 1) d, gap.lower_before k d, gap.higher_from (l - 1) d)

-- what is left of a list that was lent, where one element was written
pub written : {X : Type 0} (xs lent : List X) (i : ℕ) (x : X) → lent ≡ xs → refill (length xs) xs (set lent i x) ≡ set xs i x
written xs lent i x same = rw same (take_at (set xs i x) (drop (length (set xs i x)) xs) (length xs) (length-set xs i x))

-- rising slots, by neighbours
pub IsStrictlyIncreasing-from_rising : (xs : List ℕ) → Rising (λ s. s) xs → IsStrictlyIncreasing xs
IsStrictlyIncreasing-from_rising xs up k lt = up k (k + 1) 0 (omega arith) lt
