-- The rows of a flush are the last stores of its slot.
use Rattle.std.proofs.Common.{◌≡◌, ◌≢◌, ℕ, ◌<◌, eqb, Bool, true, false, cond, not, IsTrue, List, [], ◌∷◌, length, map, find, filter, filter_map, AllPairs, Contains, Option, Some, None, option_map, refl, sym, ap, ◌∙◌, subst, arith}
use Rattle.std.specs.Str.{bytes_eq}
use Rattle.std.specs.List.{list_any}
use Rattle.std.specs.Option.{is_some}
use Rattle.std.proofs.lemmas.Bool.{true≢false, and_parts, eqb-true, eq-eqb, ne_eqb, not_from_true, not_from_false}
use Rattle.adb_model.specs.Lists.{distinct}
use Rattle.adb_model.specs.State.{Stored, Row, State}
use Rattle.adb_model.specs.Load.{is_of, last_store}
use Rattle.adb_model.specs.Presence.{has_store, has_row}
use Rattle.adb_model.specs.Callers.{keys_of, without_stores}
use Rattle.adb_model.specs.Flush.{flush_rows, has_cached_key}
use Rattle.adb_model.specs.Sound.{last_account, last_row}
use Rattle.adb_model.proofs.Members.{member, any_at, into_filter, from_filter, into_map, from_map}
use Rattle.adb_model.proofs.Distinct.{bytes_eq-true, bytes_eq_self, into_distinct, from_distinct, distinct_pairs}
use Rattle.adb_model.proofs.Filters.{filter_twice, filter_apart}
use Rattle.adb_model.proofs.FilterMaps.{filter_map_same, filter_map_pairs, filter_map_length}
use Rattle.adb_model.proofs.KeyedRows.{row_key, key_row, last_of_key, first_of_key}
use Rattle.adb_model.proofs.LastStores.{of_parts, from_parts, last_is_of, store_last, last_stored, last_purged, stored_last}

pub key_from : (m : State) (slot : ℕ) (k : List ℕ) → Contains (keys_of m slot) k → IsTrue (has_store m slot k)
key_from m slot k c =
    let a = from_map (λ (t : Stored). t.key) (filter (λ t. eqb t.slot slot) m.stores) k (from_distinct bytes_eq bytes_eq-true bytes_eq_self _ k c) in
    let b = from_filter (λ (t : Stored). eqb t.slot slot) m.stores a.0 a.1 in
    any_at (is_of slot k) m.stores a.0 b.0 (from_parts slot k a.0 (eqb-true a.0.slot slot b.1) a.2)

pub key_into : (m : State) (slot : ℕ) (k : List ℕ) → IsTrue (has_store m slot k) → Contains (keys_of m slot) k
key_into m slot k st =
    let a = member (is_of slot k) m.stores st in
    let parts = of_parts slot k a.0 a.2 in
    into_distinct bytes_eq bytes_eq-true bytes_eq_self _ k
    (subst (Contains (map (λ (t : Stored). t.key) (filter (λ t. eqb t.slot slot) m.stores))) parts.1
    (into_map (λ (t : Stored). t.key) (filter (λ t. eqb t.slot slot) m.stores) a.0 (into_filter (λ (t : Stored). eqb t.slot slot) m.stores a.0 a.1 (eq-eqb a.0.slot slot parts.0))))

abbrev pub row_for : State → ℕ → List ℕ → Option Row
row_for m slot k = option_map (λ t. record { key = t.key; account = t.account }) (last_store m slot k)

pub keyed : (m : State) (slot : ℕ) (k : List ℕ) (r : Row) → row_for m slot k ≡ Some r → r.key ≡ k
keyed m slot k r e = by (last_store m slot k) refl e
  where
    by : (o : Option Stored) → last_store m slot k ≡ o → option_map (λ t. record { key = t.key; account = t.account }) o ≡ Some r → r.key ≡ k
    by None g e = absurd cc
    by (Some t) g e =
        let row : Row = record { key = t.key; account = t.account } in
        let same : row ≡ r = cc in
        sym (ap (λ (q : Row). q.key) same) ∙ (of_parts slot k t (last_is_of m slot k t g).1).1

account_of_row : (o : Option Stored) → option_map (λ r. r.account) (option_map (λ t. let row : Row = record { key = t.key; account = t.account } in row) o) ≡ option_map (λ t. t.account) o
account_of_row None = refl
account_of_row (Some t) = refl

pub record FlushRowsFit (m : State) (slot : ℕ) : Type 0 where
  pub stored : (k : List ℕ) → IsTrue (has_row k (flush_rows m slot)) → IsTrue (has_store m slot k)
  pub last : (k : List ℕ) → IsTrue (has_row k (flush_rows m slot)) → last_row k (flush_rows m slot) ≡ last_account m slot k
  pub whole : (k : List ℕ) → IsTrue (has_store m slot k) → IsTrue (has_row k (flush_rows m slot))

pub flush_rows_fit : (m : State) (slot : ℕ) → FlushRowsFit m slot
flush_rows_fit m slot = record {
  stored = λ k r. key_from m slot k (row_key (row_for m slot) (keyed m slot) (keys_of m slot) k r);
  last = λ k r.
      ap (option_map (λ q. q.account)) (last_of_key (row_for m slot) (keyed m slot) (keys_of m slot) k (distinct_pairs bytes_eq bytes_eq-true bytes_eq_self _) (row_key (row_for m slot) (keyed m slot) (keys_of m slot) k r))
      ∙ account_of_row (last_store m slot k);
  whole = λ k st.
      let t = store_last m slot k st in
      key_row (row_for m slot) (keyed m slot) (keys_of m slot) k (record { key = t.0.key; account = t.0.account }) (key_into m slot k st) (ap (option_map (λ u. record { key = u.key; account = u.account })) t.1);
}

row_length : (rows : List Row) (k : List ℕ) → IsTrue (has_row k rows) → 0 < length rows
row_length [] k t = absurd (true≢false (sym t))
row_length (r ∷ rows) k t = omega arith

-- a slot with a cached key has a row
pub some_row : (m : State) (slot : ℕ) → IsTrue (has_cached_key m slot) → 0 < length (flush_rows m slot)
some_row m slot cached =
    let parts = and_parts (list_any (λ t. eqb t.slot slot) m.stores) (not _) cached in
    let a = member (λ (t : Stored). eqb t.slot slot) m.stores parts.0 in
    row_length (flush_rows m slot) a.0.key ((flush_rows_fit m slot).whole a.0.key (any_at (is_of slot a.0.key) m.stores a.0 a.1 (from_parts slot a.0.key a.0 (eqb-true a.0.slot slot a.2) refl)))

-- ---- what is told of the rows by their keys

pub account_of_key : (m : State) (s : ℕ) (k : List ℕ) → option_map (λ r. r.account) (find (λ r. bytes_eq r.key k) (flush_rows m s)) ≡ option_map (λ t. t.account) (last_store m s k)
account_of_key m s k =
    ap (option_map (λ r. r.account)) (first_of_key (row_for m s) (keyed m s) (keys_of m s) k (λ r e. key_into m s k (stored_row r e)))
    ∙ account_of_row (last_store m s k)
  where
    stored_row : (r : Row) → row_for m s k ≡ Some r → IsTrue (has_store m s k)
    stored_row r e = by (last_store m s k) refl e
      where
        by : (o : Option Stored) → last_store m s k ≡ o → option_map (λ t. record { key = t.key; account = t.account }) o ≡ Some r → IsTrue (has_store m s k)
        by None g e = absurd cc
        by (Some t) g e = last_stored m s k t g

pub rows_differ : (m : State) (s : ℕ) → AllPairs (λ (r q : Row). r.key ≢ q.key) (flush_rows m s)
rows_differ m s = filter_map_pairs (row_for m s) (λ a b. a ≢ b) (λ (r : Row). r.key) (keyed m s) (keys_of m s) (distinct_pairs bytes_eq bytes_eq-true bytes_eq_self _)

pub a_row_a_key : (m : State) (s : ℕ) → length (flush_rows m s) ≡ length (keys_of m s)
a_row_a_key m s = filter_map_length (row_for m s) (keys_of m s) (λ k c. some_mapped (last_store m s k) (sym (stored_last m s k) ∙ key_from m s k c))
  where
    some_mapped : (o : Option Stored) → IsTrue (is_some o) → IsTrue (is_some (option_map (λ t. let row : Row = record { key = t.key; account = t.account } in row) o))
    some_mapped None t = absurd (true≢false (sym t))
    some_mapped (Some u) t = refl

-- a purge leaves no row of its slot, and those of every other as they were
pub rows_purged : (m : State) (slot s : ℕ) → flush_rows (without_stores m slot) s ≡ cond (eqb slot s) [] (flush_rows m s)
rows_purged m slot s = by (eqb slot s) refl
  where
    of_keys : List Stored → List Row
    of_keys ts = filter_map (row_for (without_stores m slot) s) (distinct bytes_eq (map (λ t. t.key) ts))

    by : (b : Bool) → eqb slot s ≡ b → flush_rows (without_stores m slot) s ≡ cond b [] (flush_rows m s)
    by true e = ap of_keys (filter_apart (λ (t : Stored). eqb t.slot s) (λ t. not (eqb t.slot slot)) (λ t is. not_from_true _ (eq-eqb t.slot slot (eqb-true t.slot s is ∙ sym (eqb-true slot s e)))) m.stores)
    by false e =
        ap of_keys (filter_twice (λ (t : Stored). eqb t.slot s) (λ t. not (eqb t.slot slot)) (λ t is. not_from_false _ (ne_eqb t.slot slot (λ f. true≢false (sym (eq-eqb slot s (sym f ∙ eqb-true t.slot s is)) ∙ e)))) m.stores)
        ∙ filter_map_same (row_for (without_stores m slot) s) (row_for m s)
        (λ k. ap (option_map (λ t. record { key = t.key; account = t.account })) (last_purged m slot s k ∙ ap (λ c. cond c None (last_store m s k)) e)) (keys_of m s)
