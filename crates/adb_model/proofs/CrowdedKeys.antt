-- Which keys are crowded, in rising order.
use Rattle.std.proofs.Common.{◌≡◌, ◌≢◌, ℕ, ◌<◌, eqb, ltb, not, ◌&&◌, IsTrue, List, [], ◌∷◌, ◌++◌, length, map, AllPairs, Contains, refl, sym, ap, ◌∙◌, subst, inl, inr, ◌↔◌, arith}
use Rattle.std.specs.List.{list_any}
use Rattle.std.specs.Str.{bytes_eq}
use Rattle.std.specs.declared.cmp.Ordering.TheVariants.{Less, Equal}
use Rattle.std.specs.Cmp.Lexicographic.{nat_list_cmp_total}
use Rattle.std.specs.FinMap.{nat_cmp-IsAntisymmetric, slice_cmp-IsAntisymmetric}
use Rattle.std.proofs.lemmas.Bool.{and_parts, and_from, or_cases, eqb-true, eq-eqb, ltb-true}
use Rattle.std.proofs.lemmas.List.Elements.{Contains-append_left, Contains-append_right}
use Rattle.std.proofs.lemmas.List.Kept.{AllPairs-filter}
use Rattle.adb_model.specs.Lists.{among, distinct, rising}
use Rattle.adb_model.specs.State.{Stored, Pair, State}
use Rattle.adb_model.specs.Load.{is_of}
use Rattle.adb_model.specs.Presence.{has_store, is_cached, is_named, is_pair, is_present, ends_in_tomb, slots_of}
use Rattle.adb_model.specs.Reclaimable.{present_slots, is_crowded, key_cmp, crowded_keys}
use Rattle.adb_model.proofs.Members.{member, any_at, from_filter, into_filter, into_map, among_at, among_from, contains_here}
use Rattle.adb_model.proofs.Distinct.{bytes_eq-true, distinct_pairs}
use Rattle.adb_model.proofs.Known.{present_from, present_into}
use Rattle.adb_model.proofs.Within.{within}
use Rattle.adb_model.proofs.RisingBy.{less_apart, rising_rises, into_rising}

-- ---- keys in order

pub key_apart : (a b : List ℕ) → key_cmp a b ≡ Less → a ≢ b
key_apart a b lt = less_apart key_cmp nat_list_cmp_total a b lt

pub key_trans : (a b c : List ℕ) → key_cmp a b ≡ Less → key_cmp b c ≡ Less → key_cmp a c ≡ Less
key_trans a b c p q = nat_list_cmp_total.trans a b c p q

equal_keys : (a b : List ℕ) → key_cmp a b ≡ Equal → a ≡ b
equal_keys a b e = slice_cmp-IsAntisymmetric nat_cmp-IsAntisymmetric a b e

-- every key that has a store or is named
abbrev keys_there : State → List (List ℕ)
keys_there m = map (λ t. t.key) m.stores ++ map (λ p. p.key) m.named

pub keys_rise : (m : State) → AllPairs (λ a b. key_cmp a b ≡ Less) (crowded_keys m)
keys_rise m = AllPairs-filter (λ a b. key_cmp a b ≡ Less) (is_crowded m) (rising key_cmp (keys_there m)) (rising_rises key_cmp nat_list_cmp_total (keys_there m))

-- ---- which are crowded

some_first : {X : Type 0} (xs : List X) → 0 < length xs → (x : X) × Contains xs x
some_first [] lt = absurd (omega (arith, lt))
some_first (x ∷ xs) lt = (x, contains_here x xs)

module _ (m : State) (k : List ℕ) where
  named_key : (p : Pair) → Contains m.named p → IsTrue (bytes_eq p.key k) → Contains (keys_there m) k
  named_key p c t =
      Contains-append_right (map (λ (t : Stored). t.key) m.stores) (map (λ (q : Pair). q.key) m.named) k
      (subst (Contains (map (λ (q : Pair). q.key) m.named)) (bytes_eq-true p.key k t) (into_map (λ (q : Pair). q.key) m.named p c))

  present_key : (s : ℕ) → IsTrue (is_present m s k) → Contains (keys_there m) k
  present_key s present = elim (or_cases (is_cached m s k) (is_named m s k) present) [
    | inl cached ↦ (let t = member (is_of s k) m.stores (and_parts (has_store m s k) (not (among s m.flushed)) cached).0 in
        Contains-append_left (map (λ (t : Stored). t.key) m.stores) (map (λ (q : Pair). q.key) m.named) k
        (subst (Contains (map (λ (t : Stored). t.key) m.stores)) (bytes_eq-true t.0.key k (and_parts (eqb t.0.slot s) (bytes_eq t.0.key k) t.2).1) (into_map (λ (t : Stored). t.key) m.stores t.0 t.1)))
    | inr named ↦ (let p = member (is_pair s k) m.named named in named_key p.0 p.1 (and_parts (eqb p.0.slot s) (bytes_eq p.0.key k) p.2).1)
  ]

  key_there : IsTrue (is_crowded m k) → Contains (keys_there m) k
  key_there crowded =
      elim (or_cases (ltb 1 (length (present_slots m k))) (list_any (λ p. bytes_eq p.key k && ends_in_tomb m p.slot k) m.named) crowded) [
        | inl more ↦ (let lt = ltb-true 1 (length (present_slots m k)) more in
            let s = some_first (present_slots m k) (omega (arith, lt)) in
            present_key s.0 (present_from m s.0 k s.1))
        | inr tomb ↦ (let p = member (λ p. bytes_eq p.key k && ends_in_tomb m p.slot k) m.named tomb in
            named_key p.0 p.1 (and_parts (bytes_eq p.0.key k) (ends_in_tomb m p.0.slot k) p.2).0)
      ]

  pub crowded_is : Contains (crowded_keys m) k ↔ IsTrue (is_crowded m k)
  crowded_is = (
    λ c. (from_filter (is_crowded m) (rising key_cmp (keys_there m)) k c).1,
    λ t. into_filter (is_crowded m) (rising key_cmp (keys_there m)) k (into_rising key_cmp nat_list_cmp_total equal_keys (keys_there m) k (key_there t)) t,
  )

  -- ---- what makes a key crowded

  pub slots_differ : AllPairs (λ a b. a ≢ b) (present_slots m k)
  slots_differ = AllPairs-filter (λ a b. a ≢ b) (λ s. is_present m s k) (distinct eqb (slots_of m)) (distinct_pairs eqb eqb-true (λ s. eq-eqb s s refl) (slots_of m))

  pub slots_counted : (slots : List ℕ) → AllPairs (λ a b. a < b) slots → ((s : ℕ) → among s slots ≡ is_present m s k) → length (present_slots m k) ≡ length slots
  slots_counted slots up is =
      let few = within eqb eqb-true (λ s. eq-eqb s s refl) (present_slots m k) slots slots_differ (λ s c. among_from s slots (is s ∙ present_from m s k c)) in
      let all = within eqb eqb-true (λ s. eq-eqb s s refl) slots (present_slots m k) (λ i j d lt in' e. let below = up i j d lt in' in omega (arith, below, e)) (λ s c. present_into m s k (sym (is s) ∙ among_at s slots c)) in
      omega (arith, few, all)

  pub tomb_is : IsTrue (list_any (λ p. bytes_eq p.key k && ends_in_tomb m p.slot k) m.named) ↔ ((s : ℕ) × IsTrue (is_named m s k) × IsTrue (ends_in_tomb m s k))
  tomb_is = (
    λ t.
        let p = member (λ p. bytes_eq p.key k && ends_in_tomb m p.slot k) m.named t in
        let parts = and_parts (bytes_eq p.0.key k) (ends_in_tomb m p.0.slot k) p.2 in (
          p.0.slot,
          any_at (is_pair p.0.slot k) m.named p.0 p.1 (and_from _ _ (eq-eqb p.0.slot p.0.slot refl) parts.0),
          parts.1,
        ),
    λ w.
        let p = member (is_pair w.0 k) m.named w.1 in
        let parts = and_parts (eqb p.0.slot w.0) (bytes_eq p.0.key k) p.2 in
        any_at (λ p. bytes_eq p.key k && ends_in_tomb m p.slot k) m.named p.0 p.1
        (and_from _ _ parts.1 (ap (λ s. ends_in_tomb m s k) (eqb-true p.0.slot w.0 parts.0) ∙ w.2)),
  )
