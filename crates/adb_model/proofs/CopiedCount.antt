-- A shrink copies as many rows as the slot has named pairs.
use Rattle.std.proofs.Common.{◌≡◌, ◌≢◌, ℕ, eqb, IsTrue, List, length, get_or, map, filter, AllPairs, Contains, Some, sym, ◌∙◌, subst, arith}
use Rattle.std.specs.Str.{bytes_eq}
use Rattle.std.proofs.lemmas.Bool.{and_parts, and_from, eqb-true, eq-eqb}
use Rattle.std.proofs.lemmas.List.{length-map}
use Rattle.std.proofs.lemmas.List.Elements.{Contains-get_or}
use Rattle.std.proofs.lemmas.List.Kept.{AllPairs-filter}
use Rattle.std.proofs.lemmas.List.Sums.{length-filter}
use Rattle.adb_model.specs.State.{Row, Storage, Pair, State}
use Rattle.adb_model.specs.Presence.{is_named, is_pair}
use Rattle.adb_model.specs.Storages.{live_storage}
use Rattle.adb_model.specs.Shrink.{shrink_rows, named_in}
use Rattle.adb_model.specs.Sound.{IsSound}
use Rattle.adb_model.specs.Once.{IsOnce}
use Rattle.adb_model.proofs.Members.{member, any_at, from_filter, into_filter, from_map, into_map}
use Rattle.adb_model.proofs.Pairs.{pairs_map}
use Rattle.adb_model.proofs.Distinct.{bytes_eq-true, bytes_eq_self, eq-bytes_eq}
use Rattle.adb_model.proofs.Within.{within}
use Rattle.adb_model.proofs.CopiedRows.{keys_differ, keys_named}

module _ (m : State) (h : IsSound m) (o : IsOnce m) (slot : ℕ) (old : Storage) (e : live_storage m slot ≡ Some old) where
  abbrev rows : List Row
  rows = shrink_rows m old

  abbrev here : List Pair
  here = filter (λ p. eqb p.slot slot) m.named

  abbrev row_keys : List (List ℕ)
  row_keys = map (λ r. r.key) rows

  abbrev named_keys : List (List ℕ)
  named_keys = map (λ p. p.key) here

  at_slot : (p : Pair) → Contains here p → Contains m.named p × (p.slot ≡ slot)
  at_slot p c = let f = from_filter (λ (p : Pair). eqb p.slot slot) m.named p c in (f.0, eqb-true p.slot slot f.1)

  names_differ : AllPairs (λ (j k : List ℕ). j ≢ k) named_keys
  names_differ = pairs_map (λ (j k : List ℕ). j ≢ k) (λ (p : Pair). p.key) here (λ i j d lt in' f.
      AllPairs-filter (λ (p q : Pair). p.slot ≡ q.slot → p.key ≢ q.key) (λ p. eqb p.slot slot) m.named o.named i j d lt in'
      ((at_slot (get_or here i d) (Contains-get_or here i d (omega (arith, lt, in')))).1 ∙ sym (at_slot (get_or here j d) (Contains-get_or here j d in')).1) f)

  to_names : (k : List ℕ) → Contains row_keys k → Contains named_keys k
  to_names k c =
      let r = from_map (λ (r : Row). r.key) rows k c in
      let named : IsTrue (is_named m slot k) = sym (keys_named m h slot old e k) ∙ any_at (λ (r : Row). bytes_eq r.key k) rows r.0 r.1 (eq-bytes_eq r.0.key k r.2) in
      let p = member (is_pair slot k) m.named named in
      let parts = and_parts (eqb p.0.slot slot) (bytes_eq p.0.key k) p.2 in
      subst (Contains named_keys) (bytes_eq-true p.0.key k parts.1) (into_map (λ (p : Pair). p.key) here p.0 (into_filter (λ (p : Pair). eqb p.slot slot) m.named p.0 p.1 parts.0))

  to_rows : (k : List ℕ) → Contains named_keys k → Contains row_keys k
  to_rows k c =
      let p = from_map (λ (p : Pair). p.key) here k c in
      let is = at_slot p.0 p.1 in
      let named = any_at (is_pair slot k) m.named p.0 is.0 (and_from (eqb p.0.slot slot) (bytes_eq p.0.key k) (eq-eqb p.0.slot slot is.1) (eq-bytes_eq p.0.key k p.2)) in
      let r = member (λ (r : Row). bytes_eq r.key k) rows (keys_named m h slot old e k ∙ named) in
      subst (Contains row_keys) (bytes_eq-true r.0.key k r.2) (into_map (λ (r : Row). r.key) rows r.0 r.1)

  pub rows_counted : length (shrink_rows m old) ≡ named_in m slot
  rows_counted =
      let few = within bytes_eq bytes_eq-true bytes_eq_self row_keys named_keys (pairs_map (λ (j k : List ℕ). j ≢ k) (λ (r : Row). r.key) rows (keys_differ m old)) to_names in
      let many = within bytes_eq bytes_eq-true bytes_eq_self named_keys row_keys names_differ to_rows in
      omega (arith, few, many, length-map rows (λ r. r.key), length-map here (λ p. p.key), length-filter (λ (p : Pair). eqb p.slot slot) m.named)
