-- How often storages are pinned, after a pin comes or goes.
use Rattle.std.proofs.Common.{◌≡◌, ◌≢◌, ◌↔◌, ℕ, ◌+◌, ◌<◌, ◌≤◌, eqb, ltb, Bool, true, false, cond, not, ◌&&◌, ◌||◌, IsTrue, IsFalse, List, [], ◌∷◌, length, map, Contains, Option, Some, None, count_by, refl, sym, ap, ap₂, ◌∙◌, subst, inl, inr, ◌⊎◌, arith, length-append}
use Rattle.std.specs.List.{list_any}
use Rattle.std.specs.Option.{option_map_or, is_some}
use Rattle.std.proofs.lemmas.Bool.{true≢false, and_parts, or_cases, or_left, or_parts, or_from, eqb-true, eq-eqb, ltb-true, lt-ltb, not-true, true_from_ne_false}
use Rattle.std.proofs.lemmas.Option.{same_Some}
use Rattle.std.proofs.lemmas.List.{length-map}
use Rattle.std.proofs.lemmas.List.Sums.{sum_by-cons}
use Rattle.std.proofs.lemmas.List.Elements.{All-contains}
use Rattle.adb_model.specs.Lists.{among, without_last}
use Rattle.adb_model.specs.State.{Pin, Shrink, Snap, Storage, State}
use Rattle.adb_model.specs.Storages.{is_filling, is_pinned, storage_with, pin_count}
use Rattle.adb_model.specs.Call.{InStorage}
use Rattle.adb_model.specs.Callers.{pinned, is_pin, unpinned}
use Rattle.adb_model.specs.Stats.{counts_of}
use Rattle.adb_model.specs.Sound.{IsSound, is_settled}
use Rattle.adb_model.specs.Once.{IsOnce, snap_ids}
use Rattle.adb_model.proofs.Members.{member, any_weaker, found, among_at, contains_none, into_map, from_map}
use Rattle.adb_model.proofs.Pairs.{pairs_map}
use Rattle.adb_model.proofs.Taken.{count_push}
use Rattle.adb_model.proofs.OneChanged.{one_if, none_counted, length_sum}
use Rattle.adb_model.proofs.Within.{within, some_counted, counted_some, few_of_few}
use Rattle.adb_model.proofs.Filters.{same_truth}
use Rattle.adb_model.proofs.FreshIds.{at_id, old_settled}
use Rattle.adb_model.proofs.Ids.{old_of}

-- ---- one more pin, the last of all

module _ (m : State) (pass id : ℕ) where
  abbrev pin : Pin
  pin = record { pass = pass; id = id }

  pub pinned_count : (i : ℕ) → pin_count (pinned m pass (InStorage id)) i ≡ pin_count m i + cond (eqb id i) 1 0
  pinned_count i = omega (arith, count_push (λ (p : Pin). eqb p.id i) m.pins pin)

  pub pinned_by : (p i : ℕ) → count_by (is_pin p i) (pinned m pass (InStorage id)).pins ≡ count_by (is_pin p i) m.pins + cond (eqb pass p && eqb id i) 1 0
  pinned_by p i = count_push (is_pin p i) m.pins pin

  pub pinned_of : (p : ℕ) → count_by (λ q. eqb q.pass p) (pinned m pass (InStorage id)).pins ≡ count_by (λ q. eqb q.pass p) m.pins + cond (eqb pass p) 1 0
  pinned_of p = count_push (λ (q : Pin). eqb q.pass p) m.pins pin

  pub pinned_length : length (pinned m pass (InStorage id)).pins ≡ length m.pins + 1
  pinned_length = length-append m.pins (pin ∷ [])

-- ---- the last pin of its kind leaves

-- of what the test says of each that passes, there is one fewer
taken_counted : {X : Type 0} (p q : X → Bool) (c : Bool) → ((x : X) → IsTrue (p x) → q x ≡ c) → (xs : List X) → IsTrue (list_any p xs) → count_by q xs ≡ count_by q (without_last p xs) + cond c 1 0
taken_counted p q c says [] t = absurd (true≢false (sym t))
taken_counted {X} p q c says (x ∷ xs) t = by (list_any p xs) (p x) refl refl (taken_counted p q c says xs)
  where
    by : (b d : Bool) → list_any p xs ≡ b → p x ≡ d → (IsTrue (list_any p xs) → count_by q xs ≡ count_by q (without_last p xs) + cond c 1 0)
        → count_by q (x ∷ xs) ≡ count_by q (cond b (x ∷ without_last p xs) (cond d xs (x ∷ xs))) + cond c 1 0
    by true d e f ih = omega (arith, sum_by-cons (λ (y : X). cond (q y) 1 0) x xs, sum_by-cons (λ (y : X). cond (q y) 1 0) x (without_last p xs), ih e)
    by false true e f ih = omega (arith, sum_by-cons (λ (y : X). cond (q y) 1 0) x xs, ap one_if (says x f))
    by false false e f ih = absurd (true≢false (sym t ∙ or_from _ _ f e))

module _ (m : State) (pass id : ℕ) (there : IsTrue (list_any (is_pin pass id) m.pins)) where
  of_pin : (p : Pin) → IsTrue (is_pin pass id p) → (p.pass ≡ pass) × (p.id ≡ id)
  of_pin p t = let parts = and_parts (eqb p.pass pass) (eqb p.id id) t in (eqb-true p.pass pass parts.0, eqb-true p.id id parts.1)

  pub taken_count : (i : ℕ) → pin_count m i ≡ pin_count (unpinned m pass id) i + cond (eqb id i) 1 0
  taken_count i = omega (arith, taken_counted (is_pin pass id) (λ p. eqb p.id i) (eqb id i) (λ p t. ap (λ (q : ℕ). eqb q i) (of_pin p t).1) m.pins there)

  pub taken_by : (p i : ℕ) → count_by (is_pin p i) m.pins ≡ count_by (is_pin p i) (unpinned m pass id).pins + cond (eqb pass p && eqb id i) 1 0
  taken_by p i = taken_counted (is_pin pass id) (is_pin p i) (eqb pass p && eqb id i) (λ q t. ap₂ (λ (a b : ℕ). eqb a p && eqb b i) (of_pin q t).0 (of_pin q t).1) m.pins there

  pub taken_of : (p : ℕ) → count_by (λ q. eqb q.pass p) m.pins ≡ count_by (λ q. eqb q.pass p) (unpinned m pass id).pins + cond (eqb pass p) 1 0
  taken_of p = taken_counted (is_pin pass id) (λ q. eqb q.pass p) (eqb pass p) (λ q t. ap (λ (a : ℕ). eqb a p) (of_pin q t).0) m.pins there

  pub taken_length : length m.pins ≡ length (unpinned m pass id).pins + 1
  taken_length = omega (arith, length_sum m.pins, length_sum (unpinned m pass id).pins, taken_counted (is_pin pass id) (λ q. true) true (λ q t. refl) m.pins there)

-- ---- what is pinned is there

pub some_pins : (m : State) (pass id : ℕ) → (0 < count_by (is_pin pass id) m.pins) ↔ IsTrue (list_any (is_pin pass id) m.pins)
some_pins m pass id = (counted_some (is_pin pass id) m.pins, some_counted (is_pin pass id) m.pins)

pub own_pins : (m : State) (pass id : ℕ) → IsTrue (list_any (is_pin pass id) m.pins) → IsTrue (is_pinned m id)
own_pins m pass id t = or_left _ _ (or_left _ _ (any_weaker (is_pin pass id) (λ p. eqb p.id id) m.pins (λ p c s. (and_parts (eqb p.pass pass) (eqb p.id id) s).1) t))

pub pinned_some : (m : State) (id : ℕ) → is_pinned m id ≡ ltb 0 (pin_count m id)
pinned_some m id = same_truth _ _ (λ t. lt-ltb 0 _ (to (or_cases _ _ t))) (λ t. from (ltb-true 0 _ t))
  where
    in_snap : (o : Option Snap) → IsTrue (option_map_or (λ n. among id n.ids) o false) → 0 < option_map_or (λ n. count_by (λ i. eqb i id) n.ids) o 0
    in_snap None t = absurd (true≢false (sym t))
    in_snap (Some n) t = some_counted (λ i. eqb i id) n.ids t

    from_snap : (o : Option Snap) → 0 < option_map_or (λ n. count_by (λ i. eqb i id) n.ids) o 0 → IsTrue (option_map_or (λ n. among id n.ids) o false)
    from_snap None lt = absurd (omega (arith, lt))
    from_snap (Some n) lt = counted_some (λ i. eqb i id) n.ids lt

    to : IsTrue (list_any (λ p. eqb p.id id) m.pins || list_any (λ h. eqb h.old id) m.shrinks) ⊎ IsTrue (option_map_or (λ n. among id n.ids) m.snap false) → 0 < pin_count m id
    to (inl t) = elim (or_cases (list_any (λ p. eqb p.id id) m.pins) (list_any (λ h. eqb h.old id) m.shrinks) t) [
      | inl p ↦ omega (arith, some_counted (λ (p : Pin). eqb p.id id) m.pins p)
      | inr g ↦ omega (arith, some_counted (λ (h : Shrink). eqb h.old id) m.shrinks g)
    ]
    to (inr t) = omega (arith, in_snap m.snap t)

    none_in_snap : (o : Option Snap) → IsFalse (option_map_or (λ n. among id n.ids) o false) → option_map_or (λ n. count_by (λ i. eqb i id) n.ids) o 0 ≡ 0
    none_in_snap None f = refl
    none_in_snap (Some n) f = none_counted (λ i. eqb i id) n.ids f

    from : 0 < pin_count m id → IsTrue (is_pinned m id)
    from lt = true_from_ne_false _ (λ f.
        let parts = or_parts (list_any (λ p. eqb p.id id) m.pins || list_any (λ h. eqb h.old id) m.shrinks) _ f in
        let two = or_parts (list_any (λ p. eqb p.id id) m.pins) (list_any (λ h. eqb h.old id) m.shrinks) parts.0 in
        omega (arith, lt, none_counted (λ (p : Pin). eqb p.id id) m.pins two.0, none_counted (λ (h : Shrink). eqb h.old id) m.shrinks two.1, none_in_snap m.snap parts.1))

module _ (m : State) (h : IsSound m) where
  pinned_settled : (id : ℕ) → IsTrue (is_pinned m id) → IsTrue (is_settled m id)
  pinned_settled id t = elim (or_cases (list_any (λ p. eqb p.id id) m.pins || list_any (λ g. eqb g.old id) m.shrinks) _ t) [
    | inl two ↦ elim (or_cases (list_any (λ p. eqb p.id id) m.pins) (list_any (λ g. eqb g.old id) m.shrinks) two) [
      | inl p ↦
          let a = member (λ (p : Pin). eqb p.id id) m.pins p in
          subst (λ n. IsTrue (is_settled m n)) (eqb-true a.0.id id a.2) (All-contains (λ (p : Pin). IsTrue (is_settled m p.id)) m.pins a.0 h.ids.pins a.1)
      | inr g ↦ (let a = member (λ (g : Shrink). eqb g.old id) m.shrinks g in subst (λ n. IsTrue (is_settled m n)) (eqb-true a.0.old id a.2) (old_settled m h a.0 a.1))
    ]
    | inr n ↦ h.ids.snap id n
  ]

  settled_found : (id : ℕ) → IsTrue (is_settled m id) → (t : Storage) × (storage_with m id ≡ Some t) × IsFalse (is_filling t)
  settled_found id s =
      let a = member (λ u. eqb u.id id && not (is_filling u)) m.storages s in
      let parts = and_parts (eqb a.0.id id) (not (is_filling a.0)) a.2 in
      (a.0, subst (λ n. storage_with m n ≡ Some a.0) (eqb-true a.0.id id parts.0) (at_id m h a.0 a.1), not-true _ parts.1)

  pub pinned_there : (id : ℕ) → IsTrue (is_pinned m id) → IsTrue (is_some (storage_with m id))
  pinned_there id t = ap is_some (settled_found id (pinned_settled id t)).1

  pub pinned_filled : (id : ℕ) → IsTrue (is_pinned m id) → (t : Storage) → storage_with m id ≡ Some t → IsFalse (is_filling t)
  pinned_filled id p t e =
      let f = settled_found id (pinned_settled id p) in
      ap is_filling (same_Some t f.0 (sym e ∙ f.1)) ∙ f.2

  -- ---- how many pins there are

  pub few_pins : length m.pins ≤ 4194304
  few_pins = few_of_few (λ (p : Pin). p.pass) 64 65536 m.pins h.limits.passes h.limits.pins

  -- each shrink is of another slot, and of a storage there
  pub few_shrinks : length m.shrinks ≤ length m.storages
  few_shrinks =
      let slots = within eqb eqb-true (λ s. eq-eqb s s refl) (map (λ (g : Shrink). g.slot) m.shrinks) (map (λ (t : Storage). t.slot) m.storages)
      (pairs_map (λ a b. a ≢ b) (λ (g : Shrink). g.slot) m.shrinks h.ids.one_shrink)
      (λ s c.
      let g = from_map (λ (g : Shrink). g.slot) m.shrinks s c in
      let o = old_of m h.ids g.0 g.1 in
      subst (Contains (map (λ (t : Storage). t.slot) m.storages)) (o.1.slot ∙ g.2) (into_map (λ (t : Storage). t.slot) m.storages o.0 o.1.there)) in
      omega (arith, slots, length-map m.shrinks (λ (g : Shrink). g.slot), length-map m.storages (λ (t : Storage). t.slot))

  -- each storage of the snapshot is another one, and is there
  few_in_snap : IsOnce m → length (snap_ids m) ≤ length m.storages
  few_in_snap o =
      let ids = within eqb eqb-true (λ s. eq-eqb s s refl) (snap_ids m) (map (λ (t : Storage). t.id) m.storages) o.snap
      (λ id c.
      let a = settled_found id (h.ids.snap id (in_ids m.snap id c)) in
      let f = found (λ (u : Storage). eqb u.id id) m.storages a.0 a.1 in
      subst (Contains (map (λ (t : Storage). t.id) m.storages)) (eqb-true a.0.id id f.1) (into_map (λ (t : Storage). t.id) m.storages a.0 f.0)) in
      omega (arith, ids, length-map m.storages (λ (t : Storage). t.id))
    where
      in_ids : (o : Option Snap) (id : ℕ) → Contains (option_map_or (λ n. n.ids) o []) id → IsTrue (option_map_or (λ n. among id n.ids) o false)
      in_ids None id c = absurd (contains_none id c)
      in_ids (Some n) id c = among_at id n.ids c

  pub few_counted : IsOnce m → (counts_of m).pins ≤ 6291456
  few_counted o = omega (arith, few_pins, few_shrinks, few_in_snap o, h.limits.count, as_long m.snap)
    where
      as_long : (s : Option Snap) → option_map_or (λ n. length n.ids) s 0 ≡ length (option_map_or (λ n. n.ids) s [])
      as_long None = refl
      as_long (Some n) = refl
