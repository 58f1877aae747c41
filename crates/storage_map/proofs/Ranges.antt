-- What is left of a walk over the slots from one on.
use Rattle.std.proofs.Common.{◌≡◌, ℕ, ◌<◌, ◌≤◌, List, [], ◌∷◌, Bool, true, false, eqb, not, ◌&&◌, Option, Some, None, IsSome, is_some, refl, sym, ap, subst, ◌∙◌, inl, inr, arith}
use Rattle.std.specs.List.{AllByRecursion, filter}
use Rattle.std.specs.List.Sorted.{IsStrictlySortedBy}
use Rattle.std.specs.Map.{keys_of}
use Rattle.std.specs.Ordering.{nat_cmp, is_le}
use Rattle.std.specs.declared.cmp.Ordering.TheVariants.{Less}
use Rattle.std.proofs.lemmas.Bool.{cases_Bool, eq-eqb, eqb-true, ne_eqb}
use Rattle.std.proofs.lemmas.Bool.Decides.{nat_tests}
use Rattle.std.proofs.lemmas.List.Kept.{IsStrictlySortedBy-filter}
use Rattle.storage_map.specs.declared.entry.Live.{Live}
use Rattle.storage_map.specs.declared.entry.Entry.{Entry}
use Rattle.storage_map.specs.Slots.{Slots, live_at, IsNextLive}

from_test : (from k : ℕ) → is_le (nat_cmp from k) ≡ true → from ≤ k
from_test from k is = grind (arith, nat_tests)

below_test : (from k : ℕ) → is_le (nat_cmp from k) ≡ false → k < from
below_test from k is = grind (arith, nat_tests)

later : (k y : ℕ) → nat_cmp k y ≡ Less → k < y
later k y is = grind (arith, nat_tests)

-- what is left has the storages in use from a slot on, by rising slot
pub record IsRest (es : Slots) (from : ℕ) (rest : Slots) : Type 0 where
  pub sorted : IsStrictlySortedBy nat_cmp (keys_of rest)
  pub above : AllByRecursion (λ k. from ≤ k) (keys_of rest)
  pub same : (q : ℕ) → from ≤ q → live_at rest q ≡ live_at es q

-- the entries of the slots from one on
abbrev pub entries_from : ℕ → Slots → Slots
entries_from from es = filter (λ e. is_le (nat_cmp from e.0) && not false) es

-- ---- at the start

keys-filter : (p : ℕ → Bool) (es : Slots) → keys_of (filter (λ e. p e.0) es) ≡ filter p (keys_of es)
keys-filter p [] = refl
keys-filter p (e ∷ es) = elim (cases_Bool (p e.0)) [
  | inl kept ↦ rw kept (ap (λ ks. e.0 ∷ ks) (keys-filter p es))
  | inr left ↦ rw left (keys-filter p es)
]

above_from : (from : ℕ) (es : Slots) → AllByRecursion (λ k. from ≤ k) (keys_of (entries_from from es))
above_from from [] = tt
above_from from (e ∷ es) = elim (cases_Bool (is_le (nat_cmp from e.0))) [
  | inl kept ↦ rw kept (from_test from e.0 kept, above_from from es)
  | inr left ↦ rw left (above_from from es)
]

same_from : (from : ℕ) (es : Slots) (q : ℕ) → from ≤ q → live_at (entries_from from es) q ≡ live_at es q
same_from from [] q le = refl
same_from from (e ∷ es) q le = elim (cases_Bool (is_le (nat_cmp from e.0))) [
  | inl kept ↦ elim (cases_Bool (eqb e.0 q)) [
    | inl here ↦ rw (kept, here) refl
    | inr other ↦ rw (kept, other) (same_from from es q le)
  ]
  | inr left ↦
      let lt = below_test from e.0 left in
      let other : eqb e.0 q ≡ false = ne_eqb e.0 q (λ e. omega arith) in
      rw (left, other) (same_from from es q le)
]

pub begins : (from : ℕ) (es : Slots) → IsStrictlySortedBy nat_cmp (keys_of es) → IsRest es from (entries_from from es)
begins from es sorted = record {
  sorted = subst (λ (ks : List ℕ). IsStrictlySortedBy nat_cmp ks) (sym (keys-filter (λ k. is_le (nat_cmp from k) && not false) es)) (IsStrictlySortedBy-filter nat_cmp (λ k. is_le (nat_cmp from k) && not false) (keys_of es) sorted);
  above = above_from from es;
  same = same_from from es;
}

-- ---- at a slot

none_below : (k q : ℕ) (es : Slots) → AllByRecursion (λ y. nat_cmp k y ≡ Less) (keys_of es) → q ≤ k → live_at es q ≡ None
none_below k q [] all le = refl
none_below k q (e ∷ es) all le =
    let lt = later k e.0 all.0 in
    let other : eqb e.0 q ≡ false = ne_eqb e.0 q (λ e. omega arith) in
    rw other (none_below k q es all.1 le)

-- the first of what is left is in use
pub hit : (es : Slots) (from s : ℕ) (e : Entry) (more : Slots) → IsRest es from ((s, e) ∷ more) → IsSome e.live → IsNextLive es from (Some s)
unfolding IsStrictlySortedBy
hit es from s e more rest some =
    let here : eqb s s ≡ true = eq-eqb s s refl in
    let live : live_at ((s, e) ∷ more) s ≡ e.live = rw here refl in (
      rest.above.0,
      subst (λ (o : Option Live). IsSome o) (sym live ∙ rest.same s rest.above.0) some,
      λ q from_q below.
          let other : eqb s q ≡ false = ne_eqb s q (λ e. omega arith) in
          let none : live_at ((s, e) ∷ more) q ≡ None = rw other (none_below s q more rest.sorted.0 (omega arith)) in
          sym (rest.same q from_q) ∙ none,
    )

pub not_some : (o : Option Live) → is_some o ≡ false → o ≡ None
not_some None is = refl
not_some (Some l) is = cc

-- the first of what is left isn't in use
pub pass : (es : Slots) (from s : ℕ) (e : Entry) (more : Slots) → IsRest es from ((s, e) ∷ more) → e.live ≡ None → IsRest es from more
unfolding IsStrictlySortedBy
pass es from s e more rest none = record {
  sorted = rest.sorted.1;
  above = rest.above.1;
  same = λ q from_q. elim (cases_Bool (eqb s q)) [
    | inl here ↦
        let is : live_at ((s, e) ∷ more) q ≡ e.live = rw here refl in
        let is_here = eqb-true s q here in
        let le : q ≤ s = omega arith in
        none_below s q more rest.sorted.0 le ∙ sym none ∙ sym is ∙ rest.same q from_q
    | inr other ↦
        let is : live_at ((s, e) ∷ more) q ≡ live_at more q = rw other refl in
        sym is ∙ rest.same q from_q
  ];
}
