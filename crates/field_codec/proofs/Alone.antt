-- Entries have one order by rising slot.
use Rattle.std.proofs.Common.{◌≡◌, ℕ, zero, suc, ◌<◌, ◌⊎◌, Less, List, [], ◌∷◌, length, get_or, Bool, eqb, refl, sym, ap, subst, ◌∙◌, inl, inr, arith}
use Rattle.std.specs.Ordering.{nat_cmp, eq_by_cmp}
use Rattle.std.specs.List.{AllByRecursion, Contains, IsDistinct}
use Rattle.std.specs.List.Sorted.{IsPermutation, IsStrictlySortedBy}
use Rattle.std.proofs.lemmas.List.Sorted.{IsPermutation-map, IsPermutation-sym, Contains-permutation}
use Rattle.std.proofs.lemmas.Map.Keys.{sorted_head, sorted_tail, sorted_from_strictly_increasing, IsDistinct-from_sorted, IsDistinct-IsPermutation}
use Rattle.field_codec.specs.declared.fields.FieldStorage.{FieldStorage}
use Rattle.field_codec.specs.Manifest.{AreByRisingSlot, slots_of}
use Rattle.field_codec.proofs.Rising.{eqb_flips}
use Rattle.field_codec.proofs.Slots.{at_slot}

-- a storage is one of these
Has : List FieldStorage → FieldStorage → Type 0
Has [] z = ⊥
Has (x ∷ xs) z = (x ≡ z) ⊎ Has xs z

has_at : (xs : List FieldStorage) (z : FieldStorage) (k : ℕ) → k < length xs → get_or xs k z ≡ z → Has xs z
unfolding Has
has_at [] z k lt is = absurd (omega arith)
has_at (x ∷ xs) z zero lt is = inl is
has_at (x ∷ xs) z (suc k) lt is = inr (has_at xs z k (omega arith) is)

at_has : (xs : List FieldStorage) (z : FieldStorage) → Has xs z → Contains xs z
unfolding Has
at_has [] z h = absurd h
at_has (x ∷ xs) z (inl e) = (0, omega arith, e)
at_has (x ∷ xs) z (inr h) = let c = at_has xs z h in let lt = c.1 in (suc c.0, omega arith, c.2)

less_is : (x y : ℕ) → nat_cmp x y ≡ Less → x < y
less_is x y is = grind arith

above : (slot : ℕ) (xs : List FieldStorage) (z : FieldStorage) → AllByRecursion (λ y. nat_cmp slot y ≡ Less) (slots_of xs) → Has xs z → slot < z.slot
unfolding Has
above slot [] z all h = absurd h
above slot (x ∷ xs) z all (inl e) = subst (λ (t : FieldStorage). slot < t.slot) e (less_is slot x.slot all.0)
above slot (x ∷ xs) z all (inr h) = above slot xs z all.1 h

-- rising lists with the same members are one
same_rising : (xs ys : List FieldStorage) → IsStrictlySortedBy nat_cmp (slots_of xs) → IsStrictlySortedBy nat_cmp (slots_of ys) → ((z : FieldStorage) → Has xs z → Has ys z) → ((z : FieldStorage) → Has ys z → Has xs z) → xs ≡ ys
unfolding Has
same_rising [] [] up up' there back = refl
same_rising [] (y ∷ ys) up up' there back = absurd (back y (inl refl))
same_rising (x ∷ xs) [] up up' there back = absurd (there x (inl refl))
same_rising (x ∷ xs) (y ∷ ys) up up' there back =
    let head = sorted_head nat_cmp x.slot (slots_of xs) up in
    let head' = sorted_head nat_cmp y.slot (slots_of ys) up' in
    let first : x ≡ y = elim (there x (inl refl)) [
      | inl e ↦ sym e
      | inr h ↦ elim (back y (inl refl)) [
        | inl e ↦ e
        | inr h' ↦ let low = above y.slot ys x head' h in let high = above x.slot xs y head h' in absurd (omega arith)
      ]
    ] in
    let slots : x.slot ≡ y.slot = ap (λ (s : FieldStorage). s.slot) first in
    let rest = same_rising xs ys (sorted_tail nat_cmp x.slot (slots_of xs) up) (sorted_tail nat_cmp y.slot (slots_of ys) up')
    (λ z h. elim (there z (inr h)) [
      | inl e ↦ let e' : y.slot ≡ z.slot = ap (λ (s : FieldStorage). s.slot) e in let high = above x.slot xs z head h in absurd (omega arith)
      | inr h' ↦ h'
    ])
    (λ z h. elim (back z (inr h)) [
      | inl e ↦ let e' : x.slot ≡ z.slot = ap (λ (s : FieldStorage). s.slot) e in let high = above y.slot ys z head' h in absurd (omega arith)
      | inr h' ↦ h'
    ]) in
    (λ i. first i ∷ rest i)

moved : (xs ys : List FieldStorage) → IsPermutation xs ys → (z : FieldStorage) → Has xs z → Has ys z
moved xs ys same z h = let c = Contains-permutation xs ys z same (at_has xs z h) in has_at ys z c.0 c.1 c.2

-- entries are one list by rising slot
pub one_order : (entries xs ys : List FieldStorage) → AreByRisingSlot entries xs → AreByRisingSlot entries ys → xs ≡ ys
one_order entries xs ys a b =
    same_rising xs ys (sorted_from_strictly_increasing (slots_of xs) a.rise) (sorted_from_strictly_increasing (slots_of ys) b.rise)
    (λ z h. moved entries ys b.same z (moved xs entries (IsPermutation-sym entries xs a.same) z h))
    (λ z h. moved entries xs a.same z (moved ys entries (IsPermutation-sym entries ys b.same) z h))

-- and so their slots differ
pub entries_differ : (entries storages : List FieldStorage) → AreByRisingSlot entries storages → IsDistinct eqb (slots_of entries)
entries_differ entries storages a =
    let same : eq_by_cmp nat_cmp ≡ eqb = λ i x y. (at_slot x y ∙ eqb_flips y x) i in
    let slots = IsPermutation-map (λ (s : FieldStorage). s.slot) storages entries (IsPermutation-sym entries storages a.same) in
    IsDistinct-IsPermutation eqb eqb_flips (slots_of storages) (slots_of entries) slots
    (subst (λ (eq : ℕ → ℕ → Bool). IsDistinct eq (slots_of storages)) same (IsDistinct-from_sorted nat_cmp (slots_of storages) (sorted_from_strictly_increasing (slots_of storages) a.rise)))
