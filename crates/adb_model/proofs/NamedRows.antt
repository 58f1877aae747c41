-- How many rows and how many named pairs there are.
use Rattle.std.proofs.Common.{◌≡◌, ◌≢◌, ℕ, ◌*◌, ◌≤◌, eqb, Bool, true, false, cond, ◌&&◌, IsTrue, List, [], ◌∷◌, length, map, filter, flat_map, All, Contains, Some, sum_by, refl, sym, ap, ◌∙◌, subst, inl, inr, arith}
use Rattle.std.specs.Str.{bytes_eq}
use Rattle.std.proofs.lemmas.Bool.{and_parts, and_from, eqb-true, eq-eqb}
use Rattle.std.proofs.lemmas.List.{length-map}
use Rattle.std.proofs.lemmas.List.Concat.{length-flat_map}
use Rattle.std.proofs.lemmas.List.Elements.{All-head, All-tail}
use Rattle.std.proofs.lemmas.List.Kept.{AllPairs-filter}
use Rattle.std.proofs.lemmas.List.Sums.{sum_by-cons, length-filter}
use Rattle.adb_model.specs.State.{Row, Storage, Pair, State}
use Rattle.adb_model.specs.Presence.{is_live, has_row, is_pair}
use Rattle.adb_model.specs.Storages.{live_storage}
use Rattle.adb_model.specs.Shrink.{named_in}
use Rattle.adb_model.specs.Stats.{counts_of}
use Rattle.adb_model.specs.Sound.{IsSound}
use Rattle.adb_model.specs.Once.{IsOnce}
use Rattle.adb_model.specs.RowBytes.{RowsTake, HaveBytes}
use Rattle.adb_model.proofs.Members.{member, any_at, found, into_filter, from_filter, into_map}
use Rattle.adb_model.proofs.Pairs.{pairs_at}
use Rattle.adb_model.proofs.Distinct.{bytes_eq-true, bytes_eq_self}
use Rattle.adb_model.proofs.OpenedStores.{into_flat}
use Rattle.adb_model.proofs.Within.{within}

-- the rows of storages in use take bytes of the budget
rows_take : (us : List Storage) → All (λ t. RowsTake t.rows t.bytes) us → 136 * sum_by (λ t. length t.rows) (filter is_live us) ≤ sum_by (λ t. t.bytes) us
rows_take [] all = omega arith
rows_take (u ∷ us) all = by (is_live u) (rows_take us (All-tail (λ (t : Storage). RowsTake t.rows t.bytes) u us all))
  where
    by : (b : Bool) → 136 * sum_by (λ t. length t.rows) (filter is_live us) ≤ sum_by (λ t. t.bytes) us
        → 136 * sum_by (λ t. length t.rows) (cond b (u ∷ filter is_live us) (filter is_live us)) ≤ sum_by (λ t. t.bytes) (u ∷ us)
    by true ih =
        omega (
          arith,
          ih,
          sum_by-cons (λ (t : Storage). length t.rows) u (filter is_live us),
          sum_by-cons (λ (t : Storage). t.bytes) u us,
          All-head (λ (t : Storage). RowsTake t.rows t.bytes) u us all,
        )
    by false ih = omega (arith, ih, sum_by-cons (λ (t : Storage). t.bytes) u us)

pub rows_within : (m : State) → IsSound m → HaveBytes m → 136 * (counts_of m).rows ≤ m.budget
rows_within m h o = omega (arith, rows_take m.storages o, h.limits.bytes)

-- ---- named pairs are rows

abbrev pair : ℕ → Row → Pair
pair slot r = record { slot = slot; key = r.key }

abbrev pairs_of : Storage → List Pair
pairs_of t = map (pair t.slot) t.rows

abbrev same : Pair → Pair → Bool
same p q = eqb p.slot q.slot && bytes_eq p.key q.key

one_pair : (p q : Pair) → p.slot ≡ q.slot → p.key ≡ q.key → p ≡ q
one_pair p q e f = λ i. record { slot = e i; key = f i }

is_same : (p q : Pair) → IsTrue (same p q) → p ≡ q
is_same p q t = let parts = and_parts (eqb p.slot q.slot) (bytes_eq p.key q.key) t in one_pair p q (eqb-true p.slot q.slot parts.0) (bytes_eq-true p.key q.key parts.1)

self : (p : Pair) → IsTrue (same p p)
self p = and_from (eqb p.slot p.slot) (bytes_eq p.key p.key) (eq-eqb p.slot p.slot refl) (bytes_eq_self p.key)

sum_same : {X : Type 0} (f g : X → ℕ) → ((x : X) → f x ≡ g x) → (xs : List X) → sum_by f xs ≡ sum_by g xs
sum_same f g same xs = λ i. sum_by (λ x. same x i) xs

-- a storage in use that has a row of a key
record Holds (m : State) (s : ℕ) (k : List ℕ) : Type 0 where
  storage : Storage
  there : Contains m.storages storage
  live : IsTrue (is_live storage)
  slot : storage.slot ≡ s
  row : Row
  of : Contains storage.rows row
  key : row.key ≡ k

module _ (m : State) (h : IsSound m) (o : IsOnce m) where
  holds : (p : Pair) → Contains m.named p → Holds m p.slot p.key
  holds p c =
      let named = any_at (is_pair p.slot p.key) m.named p c (self p) in
      let a = member (λ t. (is_live t && eqb t.slot p.slot) && has_row p.key t.rows) m.storages (h.names.held p.slot p.key named) in
      let parts = and_parts (is_live a.0 && eqb a.0.slot p.slot) (has_row p.key a.0.rows) a.2 in
      let first = and_parts (is_live a.0) (eqb a.0.slot p.slot) parts.0 in
      let r = member (λ r. bytes_eq r.key p.key) a.0.rows parts.1 in
      record { storage = a.0; there = a.1; live = first.0; slot = eqb-true a.0.slot p.slot first.1; row = r.0; of = r.1; key = bytes_eq-true r.0.key p.key r.2 }

  all_rows : length (flat_map pairs_of (filter is_live m.storages)) ≡ (counts_of m).rows
  all_rows = length-flat_map pairs_of (filter is_live m.storages) ∙ sum_same (λ t. length (pairs_of t)) (λ (t : Storage). length t.rows) (λ t. length-map t.rows (pair t.slot)) (filter is_live m.storages)

  pub names_within : (counts_of m).named ≤ (counts_of m).rows
  names_within =
      let few = within same is_same self m.named (flat_map pairs_of (filter is_live m.storages))
      (λ i j d lt in' e. o.named i j d lt in' (ap (λ (p : Pair). p.slot) e) (ap (λ (p : Pair). p.key) e))
      (λ p c.
      let w = holds p c in
      subst (Contains (flat_map pairs_of (filter is_live m.storages))) (one_pair (pair w.storage.slot w.row) p w.slot w.key)
      (into_flat pairs_of (filter is_live m.storages) w.storage (pair w.storage.slot w.row) (into_filter is_live m.storages w.storage w.there w.live) (into_map (pair w.storage.slot) w.storage.rows w.row w.of))) in
      omega (arith, few, all_rows)

  -- a slot's named pairs are rows of its storage in use
  pub named_in_within : (s : ℕ) (t : Storage) → live_storage m s ≡ Some t → named_in m s ≤ length t.rows
  named_in_within s t e =
      let here : Pair → Bool = λ p. eqb p.slot s in
      let few = within same is_same self (filter here m.named) (pairs_of t)
      (AllPairs-filter (λ p q. p ≢ q) here m.named (λ i j d lt in' e. o.named i j d lt in' (ap (λ (p : Pair). p.slot) e) (ap (λ (p : Pair). p.key) e)))
      (λ p c.
      let f = from_filter here m.named p c in
      let w = holds p f.0 in
      let only = one_live w.storage w.there w.live (w.slot ∙ eqb-true p.slot s f.1) in
      let row : Contains t.rows w.row = subst (λ (u : Storage). Contains u.rows w.row) only w.of in
      subst (Contains (pairs_of t)) (one_pair (pair t.slot w.row) p (ap (λ (u : Storage). u.slot) (sym only) ∙ w.slot) w.key) (into_map (pair t.slot) t.rows w.row row)) in
      omega (arith, few, length-filter here m.named, length-map t.rows (pair t.slot))
    where
      one_live : (u : Storage) → Contains m.storages u → IsTrue (is_live u) → u.slot ≡ s → u ≡ t
      one_live u c live slot =
          let f = found (λ v. is_live v && eqb v.slot s) m.storages t e in
          let parts = and_parts (is_live t) (eqb t.slot s) f.1 in
          let t_slot = eqb-true t.slot s parts.1 in
          elim (pairs_at (λ a b. IsTrue (is_live a) → IsTrue (is_live b) → a.slot ≢ b.slot) m.storages u t h.slots.one_live c f.0) [
            | inl one ↦ one
            | inr (inl apart) ↦ absurd (apart live parts.0 (slot ∙ sym t_slot))
            | inr (inr apart) ↦ absurd (apart parts.0 live (t_slot ∙ sym slot))
          ]
