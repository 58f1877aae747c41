-- How many pairs are cached, after a store and after a purge.
use Rattle.std.proofs.Common.{◌≡◌, ℕ, ◌+◌, Bool, true, false, cond, not, IsFalse, List, [], ◌∷◌, ◌++◌, length, filter, refl, ap, ◌∙◌, length-append, arith, IsTrue, eqb, bytes_eq, sym, ◌&&◌}
use Rattle.std.specs.List.{list_any}
use Rattle.std.proofs.lemmas.List.{length-map}
use Rattle.std.proofs.lemmas.Bool.{not_from_false}
use Rattle.adb_model.specs.Lists.{among, distinct}
use Rattle.adb_model.specs.Account.{Account}
use Rattle.adb_model.specs.State.{Stored, State}
use Rattle.adb_model.specs.Load.{is_of}
use Rattle.adb_model.specs.Presence.{has_store}
use Rattle.adb_model.specs.Callers.{with_store, without_stores, keys_of}
use Rattle.adb_model.specs.Stats.{same_pair, cached_pairs, counts_of}
use Rattle.adb_model.proofs.Filters.{filter_swap, filter_twice, filter_push_same, any_filter}
use Rattle.std.proofs.lemmas.Bool.{and_parts, eqb-true, eq-eqb}
use Rattle.std.proofs.lemmas.List.Filters.{length-filter_both}
use Rattle.adb_model.proofs.Distinct.{filter_distinct, map_distinct, distinct_new, distinct_old}
use Rattle.adb_model.proofs.LastStores.{of_parts}

-- the store's slot is not flushed
abbrev unflushed : State → Stored → Bool
unflushed m t = not (among t.slot m.flushed)

-- ---- a store

pub cached_more : (m : State) (slot : ℕ) (key : List ℕ) (account : Account) → IsFalse (among slot m.flushed)
    → (counts_of (with_store m slot key account)).cached ≡ (counts_of m).cached + cond (has_store m slot key) 0 1
cached_more m slot key account free = by (has_store m slot key) refl
  where
    t : Stored
    t = record { slot = slot; key = key; account = account }

    pushed : cached_pairs (with_store m slot key account) ≡ distinct same_pair (filter (unflushed m) m.stores ++ record { slot = slot; key = key; account = account } ∷ [])
    pushed = ap (distinct same_pair) (filter_push_same (unflushed m) m.stores (record { slot = slot; key = key; account = account }) (not_from_false _ free))

    there : list_any (is_of slot key) (filter (unflushed m) m.stores) ≡ has_store m slot key
    there = any_filter (is_of slot key) (unflushed m) (λ u is. not_from_false _ (ap (λ q. among q m.flushed) (of_parts slot key u is).0 ∙ free)) m.stores

    by : (b : Bool) → has_store m slot key ≡ b → length (cached_pairs (with_store m slot key account)) ≡ length (cached_pairs m) + cond b 0 1
    by true e = ap length (pushed ∙ distinct_old same_pair (filter (unflushed m) m.stores) _ (there ∙ e)) ∙ omega arith
    by false e = ap length (pushed ∙ distinct_new same_pair (filter (unflushed m) m.stores) _ (there ∙ e)) ∙ length-append (cached_pairs m) _

-- ---- a purge

same_slot : (slot : ℕ) (t u : Stored) → IsTrue (same_pair t u) → eqb t.slot slot ≡ eqb u.slot slot
same_slot slot t u same = ap (λ n. eqb n slot) (eqb-true t.slot u.slot (and_parts (eqb t.slot u.slot) (bytes_eq t.key u.key) same).0)

-- the cached pairs of an unflushed slot are its keys
pairs_in : (m : State) (slot : ℕ) → IsFalse (among slot m.flushed) → length (filter (λ t. eqb t.slot slot) (cached_pairs m)) ≡ length (keys_of m slot)
pairs_in m slot free =
    let part : Stored → Bool = λ t. eqb t.slot slot in
    ap length (filter_distinct same_pair part (same_slot slot) (filter (unflushed m) m.stores)
    ∙ ap (distinct same_pair) (filter_twice part (unflushed m) (λ t is. not_from_false _ (ap (λ q. among q m.flushed) (eqb-true t.slot slot is) ∙ free)) m.stores))
    ∙ sym (length-map (distinct same_pair (filter part m.stores)) (λ t. t.key))
    ∙ ap length (map_distinct same_pair part (same_slot slot) (λ t. t.key) bytes_eq
    (λ t u a b. ap (λ c. c && bytes_eq t.key u.key) (eq-eqb t.slot u.slot (eqb-true t.slot slot a ∙ sym (eqb-true u.slot slot b)))) m.stores)

pairs_out : (m : State) (slot : ℕ) → filter (λ t. not (eqb t.slot slot)) (cached_pairs m) ≡ cached_pairs (without_stores m slot)
pairs_out m slot =
    let rest : Stored → Bool = λ t. not (eqb t.slot slot) in
    filter_distinct same_pair rest (λ t u same. ap not (same_slot slot t u same)) (filter (unflushed m) m.stores)
    ∙ ap (distinct same_pair) (filter_swap rest (unflushed m) m.stores)

pub cached_less : (m : State) (slot : ℕ) → IsFalse (among slot m.flushed) → (counts_of m).cached ≡ (counts_of (without_stores m slot)).cached + length (keys_of m slot)
cached_less m slot free =
    let both = length-filter_both (λ (t : Stored). eqb t.slot slot) (λ t. not (eqb t.slot slot)) (λ t. refl) (cached_pairs m) in
    omega (arith, both, pairs_in m slot free, ap length (pairs_out m slot))
