-- The storages of a snapshot, and the first root that it has to wait for.
use Rattle.std.proofs.Common.{◌≡◌, ◌≢◌, ℕ, ◌<◌, ◌≤◌, eqb, leb, Bool, true, false, cond, ◌&&◌, IsTrue, IsFalse, List, [], ◌∷◌, get_or, map, filter, filter_map, find, AllPairs, Contains, Option, Some, None, refl, sym, ap, ◌∙◌, subst, inl, inr, arith}
use Rattle.std.specs.List.{cons_option}
use Rattle.std.specs.Option.{is_some}
use Rattle.std.specs.Ordering.{nat_cmp}
use Rattle.std.proofs.lemmas.Bool.{true≢false, false≢true, and_parts, and_from, and_right, eqb-true, leb-true, le-leb, false_from_ne_true}
use Rattle.std.proofs.lemmas.List.Elements.{All-contains, Contains-get_or}
use Rattle.std.proofs.lemmas.List.Kept.{AllPairs-filter}
use Rattle.adb_model.specs.Lists.{among, rising}
use Rattle.adb_model.specs.State.{Storage, State}
use Rattle.adb_model.specs.Presence.{is_live}
use Rattle.adb_model.specs.Storages.{live_storage}
use Rattle.adb_model.specs.Flush.{has_cached_key}
use Rattle.adb_model.specs.Snap.{live_upto, live_ids, first_unflushed}
use Rattle.adb_model.specs.Sound.{IsSound}
use Rattle.adb_model.specs.Laws.{IsFlushedUpto}
use Rattle.adb_model.proofs.Members.{found, not_found, none_at, into_map, into_filter, from_filter, among_at, among_from, contains_none, contains_here, contains_next, contains_cases}
use Rattle.adb_model.proofs.Pairs.{pairs_map, pairs_head, pairs_tail, one_by}
use Rattle.adb_model.proofs.FilterMaps.{from_filter_map, filter_map_pairs}
use Rattle.adb_model.proofs.Finds.{none_finds}
use Rattle.adb_model.proofs.Rising.{into_rising, rising_rises, one_rise}

-- a storage in use is there, and of its slot
in_use : (m : State) (s : ℕ) (t : Storage) → live_storage m s ≡ Some t → Contains m.storages t × (t.slot ≡ s)
in_use m s t e =
    let f = found (λ u. is_live u && eqb u.slot s) m.storages t e in
    (f.0, eqb-true t.slot s (and_parts (is_live t) (eqb t.slot s) f.1).1)

abbrev all_slots : State → List ℕ
all_slots m = rising nat_cmp (map (λ t. t.slot) m.storages)

abbrev slots_upto : State → ℕ → List ℕ
slots_upto m slot = filter (λ s. leb s slot) (all_slots m)

slots_rise : (m : State) (slot : ℕ) → AllPairs (λ a b. a < b) (slots_upto m slot)
slots_rise m slot = AllPairs-filter (λ a b. a < b) (λ s. leb s slot) (all_slots m) (rising_rises (map (λ t. t.slot) m.storages))

pub upto_rises : (m : State) (slot : ℕ) → AllPairs (λ t u. t.slot < u.slot) (live_upto m slot)
upto_rises m slot = filter_map_pairs (live_storage m) (λ a b. a < b) (λ (t : Storage). t.slot) (λ s t e. (in_use m s t e).1) (slots_upto m slot) (slots_rise m slot)

upto_there : (m : State) (slot : ℕ) (t : Storage) → Contains (live_upto m slot) t → Contains m.storages t
upto_there m slot t c = let s = from_filter_map (live_storage m) (slots_upto m slot) t c in (in_use m s.0 t s.2).0

-- storages of different slots have different ids
pub ids_differ : (m : State) → IsSound m → (slot : ℕ) → AllPairs (λ a b. a ≢ b) (live_ids m slot)
ids_differ m h slot = pairs_map (λ a b. a ≢ b) (λ (t : Storage). t.id) (live_upto m slot) (λ i j d lt within same.
    let ts = live_upto m slot in
    let below : i < j = lt in
    let c = upto_there m slot (get_or ts i d) (Contains-get_or ts i d (omega (arith, below, within))) in
    let e = upto_there m slot (get_or ts j d) (Contains-get_or ts j d within) in
    let one = one_by (λ (v : Storage). v.id) m.storages (get_or ts i d) (get_or ts j d) h.ids.differ c e same in
    let up : (get_or ts i d).slot < (get_or ts j d).slot = upto_rises m slot i j d lt within in
    omega (arith, up, ap (λ (v : Storage). v.slot) one))

-- ---- any rising list of their slots tells them

filter_map_some : {X Y : Type 0} (f : X → Option Y) (xs : List X) → filter_map f (filter (λ x. is_some (f x)) xs) ≡ filter_map f xs
filter_map_some f [] = refl
filter_map_some {X} {Y} f (x ∷ xs) = by (f x) refl (filter_map_some f xs)
  where
    by : (o : Option Y) → f x ≡ o → filter_map f (filter (λ x. is_some (f x)) xs) ≡ filter_map f xs
        → filter_map f (cond (is_some o) (x ∷ filter (λ x. is_some (f x)) xs) (filter (λ x. is_some (f x)) xs)) ≡ cons_option o (filter_map f xs)
    by None e ih = ih
    by (Some y) e ih = ap (λ o. cons_option o (filter_map f (filter (λ x. is_some (f x)) xs))) e ∙ ap (cons_option (Some y)) ih

live_slot : (m : State) (s : ℕ) → IsTrue (is_some (live_storage m s)) → Contains (map (λ (t : Storage). t.slot) m.storages) s
live_slot m s = by (live_storage m s) refl
  where
    by : (o : Option Storage) → live_storage m s ≡ o → IsTrue (is_some o) → Contains (map (λ (t : Storage). t.slot) m.storages) s
    by None e t = absurd (false≢true t)
    by (Some u) e t = let i = in_use m s u e in subst (Contains (map (λ (t : Storage). t.slot) m.storages)) i.1 (into_map (λ (t : Storage). t.slot) m.storages u i.0)

pub upto_is : (m : State) (slot : ℕ) (slots : List ℕ) → AllPairs (λ a b. a < b) slots → ((s : ℕ) → among s slots ≡ (leb s slot && is_some (live_storage m s)))
    → live_upto m slot ≡ filter_map (live_storage m) slots
upto_is m slot slots up says =
    sym (filter_map_some (live_storage m) (slots_upto m slot))
    ∙ ap (filter_map (live_storage m))
    (one_rise (filter (λ s. is_some (live_storage m s)) (slots_upto m slot)) slots
    (AllPairs-filter (λ a b. a < b) (λ s. is_some (live_storage m s)) (slots_upto m slot) (slots_rise m slot)) up
    (λ s c.
    let some = from_filter (λ s. is_some (live_storage m s)) (slots_upto m slot) s c in
    among_from s slots (says s ∙ and_from _ _ (from_filter (λ s. leb s slot) (all_slots m) s some.0).1 some.1))
    (λ s c.
    let parts = and_parts (leb s slot) (is_some (live_storage m s)) (sym (says s) ∙ among_at s slots c) in
    into_filter (λ s. is_some (live_storage m s)) (slots_upto m slot) s
    (into_filter (λ s. leb s slot) (all_slots m) s (into_rising (map (λ t. t.slot) m.storages) s (live_slot m s parts.1)) parts.0) parts.1))

-- ---- the first root with a cached key

first_is : (p : ℕ → Bool) (xs : List ℕ) (r : ℕ) → AllPairs (λ a b. a < b) xs → Contains xs r → IsTrue (p r) → ((q : ℕ) → q < r → Contains xs q → IsFalse (p q)) → find p xs ≡ Some r
first_is p [] r up c t none = absurd (contains_none r c)
first_is p (x ∷ xs) r up c t none = elim (contains_cases x r xs c) [
  | inl e ↦ ap (λ b. cond b (Some x) (find p xs)) (ap p e ∙ t) ∙ ap Some e
  | inr d ↦
      ap (λ b. cond b (Some x) (find p xs)) (none x (All-contains (λ y. x < y) xs r (pairs_head (λ a b. a < b) x xs up) d) (contains_here x xs))
      ∙ first_is p xs r (pairs_tail (λ a b. a < b) x xs up) d t (λ q lt e. none q lt (contains_next x q xs e))
]

abbrev waits : State → ℕ → ℕ → Bool
waits m slot r = leb r slot && has_cached_key m r

pub first_found : (m : State) → IsSound m → (slot r : ℕ) → IsTrue (among r m.roots) → r ≤ slot → IsTrue (has_cached_key m r)
    → ((q : ℕ) → q < r → IsTrue (among q m.roots) → IsFalse (has_cached_key m q)) → first_unflushed m slot ≡ Some r
first_found m h slot r root le cached none =
    first_is (waits m slot) m.roots r h.limits.roots (among_from r m.roots root) (and_from _ _ (le-leb r slot le) cached)
    (λ q lt c. and_right (leb q slot) (has_cached_key m q) (none q lt (among_at q m.roots c)))

pub none_waits : (m : State) (slot : ℕ) → IsFlushedUpto m slot → first_unflushed m slot ≡ None
none_waits m slot none = none_finds (waits m slot) m.roots (λ q c t.
    let parts = and_parts (leb q slot) (has_cached_key m q) t in
    true≢false (sym parts.1 ∙ none q (among_at q m.roots c) (leb-true q slot parts.0)))

pub all_flushed : (m : State) (slot : ℕ) → first_unflushed m slot ≡ None → IsFlushedUpto m slot
all_flushed m slot e r root le =
    let f = none_at (waits m slot) m.roots r (among_from r m.roots root) (not_found (waits m slot) m.roots e) in
    false_from_ne_true (has_cached_key m r) (λ t. true≢false (sym (and_from _ _ (le-leb r slot le) t) ∙ f))
