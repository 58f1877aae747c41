-- What the change of one cell leaves of sums, of lists of places, and of ids.
use Rattle.std.proofs.Common.{◌≡◌, ◌≢◌, ℕ, ◌+◌, ◌<◌, List, [], ◌∷◌, ◌++◌, length, set, get_or, take, Bool, true, false, cond, Option, Some, None, sum_by, sym, ap, subst, ◌∙◌, inl, inr, arith, length-set, length-append, length-take, get_or-set_same, get_or-set_other}
use Rattle.std.specs.Prelude.{◌↔◌, ◌==◌}
use Rattle.std.proofs.lemmas.Bool.{cases_lt, false≢true, eqb-true}
use Rattle.std.proofs.lemmas.List.{get_or_append_left, get_or-append-add, get_or_default, get_or-take}
use Rattle.std.proofs.lemmas.List.Sums.{sum_by-set}
use Rattle.cell_table.specs.declared.phase.Phase.{Phase}
use Rattle.cell_table.specs.declared.phase.Phase.TheVariants.{Free}
use Rattle.cell_table.specs.Phases.{has_id}
use Rattle.cell_table.specs.Cells.{cell_at}
use Rattle.cell_table.specs.Inside.{ArePlaces, AreIds}

-- two numbers are one, or apart
pub at_or_apart : {P : Type 0} (k i : ℕ) → (k ≡ i → P) → (k ≢ i → P) → P
at_or_apart k i same apart = elim (cases_lt k i) [
  | inl below ↦ apart (λ e. omega arith)
  | inr not_below ↦ elim (cases_lt i k) [ inl above ↦ apart (λ e. omega arith) | inr not_above ↦ same (omega arith) ]
]

pub some_same : {a b : ℕ} → Some a ≡ Some b → a ≡ b
some_same e = cc

none_some : {a : ℕ} → None ≡ Some a → ⊥
none_some e = cc

pub eq_when : (a b : ℕ) → a ≡ b → (a == b) ≡ true
eq_when a b e = grind arith

abbrev pub one_if : Bool → ℕ
one_if b = cond b 1 0

module _ {T : Type 0} (cells : List (Phase T)) (i : ℕ) (was now : Phase T) (lt : i < length cells) (is : cell_at cells i ≡ was) where
  abbrev changed : List (Phase T)
  changed = set cells i now

  pub sum_by-changed : (f : Phase T → ℕ) → sum_by f changed + f was ≡ sum_by f cells + f now
  sum_by-changed f = rw (← is) (sum_by-set f cells i now Free lt)

  cell_here : cell_at changed i ≡ now
  cell_here = get_or-set_same cells i now Free lt

  cell_other : (k : ℕ) → k ≢ i → cell_at changed k ≡ cell_at cells k
  cell_other k apart = get_or-set_other cells i k now Free apart

  module _ (test : Phase T → Bool) (places : List ℕ) (all : ArePlaces test cells places) where
    -- the cell passes as before
    pub places_same : test now ≡ test was → ArePlaces test changed places
    places_same same = record {
      each = λ k d in_range. let old = all.each k d in_range in let place = get_or places k d in (
        omega (arith, old.0, length-set cells i now),
        at_or_apart place i
            (λ here. ap (λ n. test (cell_at changed n)) here ∙ ap test cell_here ∙ same ∙ ap test (sym is) ∙ ap (λ n. test (cell_at cells n)) (sym here) ∙ old.1)
            (λ apart. ap test (cell_other place apart) ∙ old.1),
      );
      apart = all.apart;
      every = let one = ap one_if same in omega (arith, all.every, sum_by-changed (λ c. one_if (test c)), one);
    }

    -- the cell passes now
    pub places_more : test was ≡ false → test now ≡ true → ArePlaces test changed (places ++ i ∷ [])
    places_more not passes = record {
      each = λ k d in_range. elim (cases_lt k (length places)) [
        | inl old ↦
            let e = get_or_append_left places (i ∷ []) d k old in
            let place = get_or places k d in
            let held = all.each k d old in
            subst (λ p. (p < length changed) × (test (cell_at changed p) ≡ true)) (sym e)
            (omega (arith, held.0, length-set cells i now), ap test (cell_other place (λ here. other place here held.1)) ∙ held.1)
        | inr new ↦
            let e : get_or (places ++ i ∷ []) k d ≡ i = last k d (omega (arith, length-append places (i ∷ []))) in
            subst (λ p. (p < length changed) × (test (cell_at changed p) ≡ true)) (sym e)
            (omega (arith, lt, length-set cells i now), ap test cell_here ∙ passes)
      ];
      apart = λ k l d below in_range. elim (cases_lt l (length places)) [
        | inl old ↦ rw (get_or_append_left places (i ∷ []) d l old, get_or_append_left places (i ∷ []) d k (omega arith)) (all.apart k l d below old)
        | inr new ↦
            let e : get_or (places ++ i ∷ []) l d ≡ i = last l d (omega (arith, length-append places (i ∷ []))) in
            rw (e, get_or_append_left places (i ∷ []) d k (omega (arith, length-append places (i ∷ []))))
            (λ here. other (get_or places k d) here (all.each k d (omega (arith, length-append places (i ∷ [])))).1)
      ];
      every =
          let zero_was = ap one_if not in
          let one_now = ap one_if passes in
          omega (arith, length-append places (i ∷ []), all.every, sum_by-changed (λ c. one_if (test c)), zero_was, one_now);
    }
      where
        other : (place : ℕ) → place ≡ i → test (cell_at cells place) ≡ true → ⊥
        other place here held = false≢true (sym not ∙ ap test (sym is) ∙ ap (λ n. test (cell_at cells n)) (sym here) ∙ held)

        last : (k : ℕ) (d : ℕ) → k ≡ length places → get_or (places ++ i ∷ []) k d ≡ i
        last k d here = let at : k ≡ length places + 0 = omega arith in ap (λ n. get_or (places ++ i ∷ []) n d) at ∙ get_or-append-add places (i ∷ []) 0 d

    -- the cell passed, and is the last of the list
    pub places_less : test was ≡ true → test now ≡ false → (n : ℕ) → length places ≡ n + 1 → get_or places n 0 ≡ i → ArePlaces test changed (take n places)
    places_less passed not n long here = record {
      each = λ k d in_range.
          let below : k < n = omega (arith, length-take n places) in
          let e = get_or-take n places k d below in
          let held = all.each k d (omega arith) in
          let apart = all.apart k n d below (omega arith) in
          let place_n : get_or places n d ≡ i = get_or_default places n d 0 (omega arith) ∙ here in
          subst (λ p. (p < length changed) × (test (cell_at changed p) ≡ true)) (sym e)
          (omega (arith, held.0, length-set cells i now), ap test (cell_other (get_or places k d) (λ same. apart (same ∙ sym place_n))) ∙ held.1);
      apart = λ k l d below in_range.
          let l_below : l < n = omega (arith, length-take n places) in
          rw (get_or-take n places k d (omega arith), get_or-take n places l d l_below) (all.apart k l d below (omega arith));
      every =
          let one_was = ap one_if passed in
          let zero_now = ap one_if not in
          omega (arith, length-take n places, all.every, sum_by-changed (λ c. one_if (test c)), one_was, zero_now);
    }

  module _ (find : ℕ → Option ℕ) (all : AreIds cells find) where
    -- the cell has its id as before
    pub ids_same : ((n : ℕ) → has_id n now ≡ has_id n was) → AreIds changed find
    ids_same same id k = subst (λ b. (find id ≡ Some k) ↔ (b ≡ true)) (at_or_apart k i
        (λ here. ap (λ n. has_id id (cell_at cells n)) here ∙ ap (has_id id) is ∙ sym (same id) ∙ ap (has_id id) (sym cell_here) ∙ ap (λ n. has_id id (cell_at changed n)) (sym here))
        (λ apart. ap (has_id id) (sym (cell_other k apart)))) (all id k)

    -- a cell without an id gets one that none has
    pub ids_more : ((n : ℕ) → has_id n was ≡ false) → (id : ℕ) → ((n : ℕ) → has_id n now ≡ (id == n)) → find id ≡ None → (found : ℕ → Option ℕ) → ((n : ℕ) → n ≡ id → found n ≡ Some i) → ((n : ℕ) → n ≢ id → found n ≡ find n) → AreIds changed found
    ids_more none id one absent found new others n k = at_or_apart n id
        (λ same. at_or_apart k i
        (λ here. ((λ e. ap (λ m. has_id n (cell_at changed m)) here ∙ ap (has_id n) cell_here ∙ one n ∙ eq_when id n (sym same)), (λ e. new n same ∙ ap Some (sym here))))
        (λ apart. (
          (λ e. absurd (apart (some_same (sym e ∙ new n same)))),
          (λ e. absurd (none_some (sym (ap find same ∙ absent) ∙ (all n k).1 (ap (has_id n) (sym (cell_other k apart)) ∙ e)))),
        )))
        (λ differs. at_or_apart k i
        (λ here. (
          (λ e. absurd (false≢true (sym (none n) ∙ ap (has_id n) (sym is) ∙ ap (λ m. has_id n (cell_at cells m)) (sym here) ∙ (all n k).0 (sym (others n differs) ∙ e)))),
          (λ e. absurd (differs (sym (eqb-true id n (sym (one n) ∙ ap (has_id n) (sym cell_here) ∙ ap (λ m. has_id n (cell_at changed m)) (sym here) ∙ e))))),
        ))
        (λ apart. (
          (λ e. ap (has_id n) (cell_other k apart) ∙ (all n k).0 (sym (others n differs) ∙ e)),
          (λ e. others n differs ∙ (all n k).1 (ap (has_id n) (sym (cell_other k apart)) ∙ e)),
        )))

    -- a cell loses its id
    pub ids_less : (id : ℕ) → ((n : ℕ) → has_id n was ≡ (id == n)) → ((n : ℕ) → has_id n now ≡ false) → (found : ℕ → Option ℕ) → ((n : ℕ) → n ≡ id → found n ≡ None) → ((n : ℕ) → n ≢ id → found n ≡ find n) → AreIds changed found
    ids_less id one none found gone others n k = at_or_apart n id
        (λ same.
        let held : find n ≡ Some i = (all n i).1 (ap (has_id n) is ∙ one n ∙ eq_when id n (sym same)) in (
          (λ e. absurd (none_some (sym (gone n same) ∙ e))),
          (λ e. at_or_apart k i
              (λ here. absurd (false≢true (sym (none n) ∙ ap (has_id n) (sym cell_here) ∙ ap (λ m. has_id n (cell_at changed m)) (sym here) ∙ e)))
              (λ apart. absurd (apart (some_same (sym ((all n k).1 (ap (has_id n) (sym (cell_other k apart)) ∙ e)) ∙ held))))),
        ))
        (λ differs. at_or_apart k i
        (λ here. (
          (λ e. absurd (differs (sym (eqb-true id n (sym (one n) ∙ ap (has_id n) (sym is) ∙ ap (λ m. has_id n (cell_at cells m)) (sym here) ∙ (all n k).0 (sym (others n differs) ∙ e)))))),
          (λ e. absurd (false≢true (sym (none n) ∙ ap (has_id n) (sym cell_here) ∙ ap (λ m. has_id n (cell_at changed m)) (sym here) ∙ e))),
        ))
        (λ apart. (
          (λ e. ap (has_id n) (cell_other k apart) ∙ (all n k).0 (sym (others n differs) ∙ e)),
          (λ e. others n differs ∙ (all n k).1 (ap (has_id n) (sym (cell_other k apart)) ∙ e)),
        )))
