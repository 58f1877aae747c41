-- The rows that a flush of a slot would have, after one more store.
use Rattle.std.proofs.Common.{◌≡◌, ◌≢◌, ℕ, eqb, Bool, true, false, cond, ◌&&◌, IsTrue, IsFalse, List, [], ◌∷◌, ◌++◌, map, filter, filter_map, AllPairs, Contains, Option, Some, option_map, refl, sym, ap, ◌∙◌, subst, inl, inr, ◌⊎◌}
use Rattle.std.specs.List.{list_any, cons_option}
use Rattle.std.specs.Str.{bytes_eq}
use Rattle.std.proofs.lemmas.Bool.{true≢false, cases_Bool, or_parts, eq-eqb, ne_eqb}
use Rattle.std.proofs.lemmas.List.Elements.{All-contains, filter_map-append}
use Rattle.std.proofs.lemmas.List.{map-append}
use Rattle.adb_model.specs.Lists.{distinct}
use Rattle.adb_model.specs.Account.{Account}
use Rattle.adb_model.specs.State.{Stored, Row, State}
use Rattle.adb_model.specs.Load.{last_store}
use Rattle.adb_model.specs.Callers.{keys_of, with_store}
use Rattle.adb_model.specs.Flush.{flush_rows}
use Rattle.adb_model.specs.Cache.{put_row}
use Rattle.adb_model.proofs.Members.{member, any_at, contains_here, contains_next, contains_cases, contains_none}
use Rattle.adb_model.proofs.Pairs.{pairs_head, pairs_tail}
use Rattle.adb_model.proofs.Filters.{filter_push_other, filter_push_same}
use Rattle.adb_model.proofs.Distinct.{bytes_eq-true, bytes_eq_self, eq-bytes_eq, ne-bytes_eq, distinct_pairs, into_distinct, from_distinct, distinct_new, distinct_old}
use Rattle.adb_model.proofs.KeyedRows.{row_key}
use Rattle.adb_model.proofs.FlushRows.{row_for, keyed, key_from}
use Rattle.adb_model.proofs.LastStores.{store_last, last_after}
use Rattle.adb_model.proofs.FilterMaps.{filter_map_same}

module _ (f : List ℕ → Option Row) (is_key : (k : List ℕ) (r : Row) → f k ≡ Some r → r.key ≡ k) (key : List ℕ) (account : Account) where
  abbrev new : Row
  new = record { key = key; account = account }

  -- f, but for the new row at its key
  abbrev after : List ℕ → Option Row
  after k = cond (bytes_eq key k) (Some new) (f k)

  others : (ks : List (List ℕ)) → (Contains ks key → ⊥) → filter_map after ks ≡ filter_map f ks
  others [] none = refl
  others (k ∷ ks) none =
      ap (λ b. cons_option (cond b (Some new) (f k)) (filter_map after ks)) (ne-bytes_eq key k (λ e. none (subst (Contains (k ∷ ks)) (sym e) (contains_here k ks))))
      ∙ ap (cons_option (f k)) (others ks (λ c. none (contains_next k key ks c)))

  put_new : (rows : List Row) → IsFalse (list_any (λ r. bytes_eq r.key key) rows) → put_row rows key account ≡ rows ++ new ∷ []
  put_new [] none = refl
  put_new (r ∷ rows) none =
      let parts = or_parts (bytes_eq r.key key) (list_any (λ r. bytes_eq r.key key) rows) none in
      ap (λ b. cond b (new ∷ rows) (r ∷ put_row rows key account)) parts.0 ∙ ap (λ (l : List Row). r ∷ l) (put_new rows parts.1)

  no_row : (ks : List (List ℕ)) → (Contains ks key → ⊥) → IsFalse (list_any (λ r. bytes_eq r.key key) (filter_map f ks))
  no_row ks none = elim (cases_Bool (list_any (λ r. bytes_eq r.key key) (filter_map f ks))) [ inl t ↦ absurd (none (row_key f is_key ks key t)) | inr free ↦ free ]

  put_old : (ks : List (List ℕ)) → AllPairs (λ a b. a ≢ b) ks → ((k : List ℕ) → Contains ks k → (r : Row) × (f k ≡ Some r)) → Contains ks key → filter_map after ks ≡ put_row (filter_map f ks) key account
  put_old [] differ some c = absurd (contains_none key c)
  put_old (k ∷ ks) differ some c =
      let r = some k (contains_here k ks) in
      by r.0 r.1 (cases_Bool (bytes_eq key k)) (contains_cases k key ks c) (put_old ks (pairs_tail (λ a b. a ≢ b) k ks differ) (λ q d. some q (contains_next k q ks d)))
    where
      by : (r : Row) → f k ≡ Some r → IsTrue (bytes_eq key k) ⊎ IsFalse (bytes_eq key k) → (k ≡ key) ⊎ Contains ks key → (Contains ks key → filter_map after ks ≡ put_row (filter_map f ks) key account)
          → cons_option (cond (bytes_eq key k) (Some new) (f k)) (filter_map after ks) ≡ put_row (cons_option (f k) (filter_map f ks)) key account
      by r e (inl t) d ih =
          let same : key ≡ k = bytes_eq-true key k t in
          let none : Contains ks key → ⊥ = λ c. All-contains (λ b. k ≢ b) ks key (pairs_head (λ a b. a ≢ b) k ks differ) c (sym same) in
          ap (λ b. cons_option (cond b (Some new) (f k)) (filter_map after ks)) t
          ∙ ap (λ (l : List Row). new ∷ l) (others ks none)
          ∙ sym (ap (λ o. put_row (cons_option o (filter_map f ks)) key account) e ∙ ap (λ b. cond b (new ∷ filter_map f ks) (r ∷ put_row (filter_map f ks) key account)) (eq-bytes_eq r.key key (is_key k r e ∙ sym same)))
      by r e (inr other) (inl same) ih = absurd (true≢false (sym (eq-bytes_eq key k (sym same)) ∙ other))
      by r e (inr other) (inr d) ih =
          ap (λ b. cons_option (cond b (Some new) (f k)) (filter_map after ks)) other
          ∙ ap (λ o. cons_option o (filter_map after ks)) e ∙ ap (λ (l : List Row). r ∷ l) (ih d)
          ∙ sym (ap (λ o. put_row (cons_option o (filter_map f ks)) key account) e
          ∙ ap (λ b. cond b (new ∷ filter_map f ks) (r ∷ put_row (filter_map f ks) key account)) (ne-bytes_eq r.key key (λ g. true≢false (sym (eq-bytes_eq key k (sym g ∙ is_key k r e)) ∙ other))))

-- ---- a store

-- the rows of another slot stay
pub rows_elsewhere : (m : State) (slot : ℕ) (key : List ℕ) (account : Account) (s : ℕ) → slot ≢ s → flush_rows (with_store m slot key account) s ≡ flush_rows m s
rows_elsewhere m slot key account s ne =
    let n = with_store m slot key account in
    let keys : keys_of n s ≡ keys_of m s = ap (λ (l : List Stored). distinct bytes_eq (map (λ t. t.key) l)) (filter_push_other (λ (t : Stored). eqb t.slot s) m.stores (record { slot = slot; key = key; account = account }) (ne_eqb slot s ne)) in
    ap (filter_map (row_for n s)) keys ∙ filter_map_same (row_for n s) (row_for m s) (λ k. ap (option_map (λ t. record { key = t.key; account = t.account })) (last_after m slot key account s k ∙ ap (λ b. cond (b && bytes_eq key k) (Some (record { slot = slot; key = key; account = account })) (last_store m s k)) (ne_eqb slot s ne))) (keys_of m s)

map_some : (b : Bool) (t : Stored) (o : Option Stored) → option_map (λ t. let row : Row = record { key = t.key; account = t.account } in row) (cond b (Some t) o) ≡ cond b (Some (record { key = t.key; account = t.account })) (option_map (λ t. let row : Row = record { key = t.key; account = t.account } in row) o)
map_some true t o = refl
map_some false t o = refl

module _ (m : State) (slot : ℕ) (key : List ℕ) (account : Account) where
  abbrev n : State
  n = with_store m slot key account

  abbrev keys : List (List ℕ)
  keys = map (λ t. t.key) (filter (λ t. eqb t.slot slot) m.stores)

  keys_more : map (λ (t : Stored). t.key) (filter (λ (t : Stored). eqb t.slot slot) n.stores) ≡ keys ++ key ∷ []
  keys_more = ap (map (λ (t : Stored). t.key)) (filter_push_same (λ (t : Stored). eqb t.slot slot) m.stores (record { slot = slot; key = key; account = account }) (eq-eqb slot slot refl)) ∙ map-append (λ (t : Stored). t.key) (filter (λ t. eqb t.slot slot) m.stores) (record { slot = slot; key = key; account = account } ∷ [])

  row_same : (k : List ℕ) → row_for n slot k ≡ after (row_for m slot) (keyed m slot) key account k
  row_same k =
      ap (option_map (λ t. record { key = t.key; account = t.account })) (last_after m slot key account slot k ∙ ap (λ b. cond (b && bytes_eq key k) (Some (record { slot = slot; key = key; account = account })) (last_store m slot k)) (eq-eqb slot slot refl))
      ∙ map_some (bytes_eq key k) (record { slot = slot; key = key; account = account }) (last_store m slot k)

  rows_same : (ks : List (List ℕ)) → filter_map (row_for n slot) ks ≡ filter_map (after (row_for m slot) (keyed m slot) key account) ks
  rows_same [] = refl
  rows_same (k ∷ ks) = λ i. cons_option (row_same k i) (rows_same ks i)

  differ : AllPairs (λ a b. a ≢ b) (keys_of m slot)
  differ = distinct_pairs bytes_eq bytes_eq-true bytes_eq_self keys

  some_row : (k : List ℕ) → Contains (keys_of m slot) k → (r : Row) × (row_for m slot k ≡ Some r)
  some_row k c =
      let t = store_last m slot k (key_from m slot k c) in
      (record { key = t.0.key; account = t.0.account }, ap (option_map (λ u. record { key = u.key; account = u.account })) t.1)

  -- the rows of its slot have it, at its key's place or at the end
  pub rows_here : flush_rows n slot ≡ put_row (flush_rows m slot) key account
  rows_here = by (cases_Bool (list_any (λ q. bytes_eq q key) keys))
    where
      by : IsTrue (list_any (λ q. bytes_eq q key) keys) ⊎ IsFalse (list_any (λ q. bytes_eq q key) keys) → flush_rows n slot ≡ put_row (flush_rows m slot) key account
      by (inl old) =
          let a = member (λ q. bytes_eq q key) keys old in
          let c = into_distinct bytes_eq bytes_eq-true bytes_eq_self keys key (subst (Contains keys) (bytes_eq-true a.0 key a.2) a.1) in
          ap (filter_map (row_for n slot)) (ap (distinct bytes_eq) keys_more ∙ distinct_old bytes_eq keys key old)
          ∙ rows_same (keys_of m slot) ∙ put_old (row_for m slot) (keyed m slot) key account (keys_of m slot) differ some_row c
      by (inr none) =
          let free : Contains (keys_of m slot) key → ⊥ = λ c. true≢false (sym (any_at (λ q. bytes_eq q key) keys key (from_distinct bytes_eq bytes_eq-true bytes_eq_self keys key c) (bytes_eq_self key)) ∙ none) in
          ap (filter_map (row_for n slot)) (ap (distinct bytes_eq) keys_more ∙ distinct_new bytes_eq keys key none)
          ∙ rows_same (keys_of m slot ++ key ∷ [])
          ∙ filter_map-append (after (row_for m slot) (keyed m slot) key account) (keys_of m slot) (key ∷ [])
          ∙ ap (λ (l : List Row). l ++ filter_map (after (row_for m slot) (keyed m slot) key account) (key ∷ [])) (others (row_for m slot) (keyed m slot) key account (keys_of m slot) free)
          ∙ ap (λ b. flush_rows m slot ++ cons_option (cond b (Some (record { key = key; account = account })) (row_for m slot key)) []) (bytes_eq_self key)
          ∙ sym (put_new (row_for m slot) (keyed m slot) key account (flush_rows m slot) (no_row (row_for m slot) (keyed m slot) key account (keys_of m slot) free))
