-- What changes where one of the storages leaves that recycling frees.
use Rattle.std.proofs.Common.{◌≡◌, ◌≢◌, ℕ, ◌+◌, eqb, Bool, true, false, cond, not, ◌&&◌, ◌||◌, IsTrue, IsFalse, List, [], ◌∷◌, length, filter, Contains, Some, None, count_by, sum_by, refl, sym, ap, ◌∙◌, arith}
use Rattle.std.proofs.lemmas.Bool.{true≢false, and_parts, or_from, or_left, or_right, eqb-true, eqb-false, eq-eqb, ne_eqb, not-true, not_from_false, not_from_true, false_from_ne_true}
use Rattle.std.proofs.lemmas.List.Elements.{All-filter}
use Rattle.std.proofs.lemmas.List.Kept.{AllPairs-filter}
use Rattle.adb_model.specs.State.{Storage, State}
use Rattle.adb_model.specs.Presence.{is_held, is_live, has_row}
use Rattle.adb_model.specs.Storages.{is_filling, is_retired, is_pinned, is_copy, used, storage_with, live_storage, filling_storage, open_flush}
use Rattle.adb_model.specs.Snap.{recycled}
use Rattle.adb_model.specs.Stats.{counts_of}
use Rattle.adb_model.specs.Sound.{IsSound}
use Rattle.adb_model.specs.Once.{IsOnce, RowsOnce}
use Rattle.adb_model.specs.RowBytes.{RowsTake, HaveBytes}
use Rattle.adb_model.specs.Shrinking.{FillsOnce}
use Rattle.adb_model.specs.Recycling.{is_spare, spares, without_storage}
use Rattle.adb_model.proofs.Members.{any_at, from_filter, into_filter, contains_here, contains_next}
use Rattle.adb_model.proofs.Filters.{filter_swap}
use Rattle.adb_model.proofs.Finds.{none_finds, find_left, any_left}
use Rattle.adb_model.proofs.OneChanged.{one_if, length_sum, sum_passed, one_left}
use Rattle.adb_model.proofs.Ids.{one_id, new_filling}
use Rattle.adb_model.proofs.FreshIds.{at_id, with_id_from}
use Rattle.adb_model.proofs.StoragesLeave.{storages_left}
use Rattle.adb_model.proofs.FillsOnce.{OnceFilling}

pub with_id_gone : (m : State) (t : Storage) (id : ℕ) → storage_with (without_storage m t) id ≡ cond (eqb t.id id) None (storage_with m id)
with_id_gone m t id = by (eqb t.id id) refl
  where
    by : (b : Bool) → eqb t.id id ≡ b → storage_with (without_storage m t) id ≡ cond b None (storage_with m id)
    by true f = none_finds (λ (u : Storage). eqb u.id id) (without_storage m t).storages (λ u c x.
        eqb-false u.id t.id (not-true (eqb u.id t.id) (from_filter (λ (v : Storage). not (eqb v.id t.id)) m.storages u c).1) (eqb-true u.id id x ∙ sym (eqb-true t.id id f)))
    by false f = find_left (λ (u : Storage). eqb u.id id) (λ u. not (eqb u.id t.id)) m.storages (λ u c x. not_from_false _ (ne_eqb u.id t.id (λ same. eqb-false t.id id f (sym same ∙ eqb-true u.id id x))))

pub once_left : (m : State) (t : Storage) → IsOnce m → IsOnce (without_storage m t)
once_left m t o = record { named = o.named; rows = All-filter (λ u. not (eqb u.id t.id)) (RowsOnce m) m.storages o.rows; snap = o.snap }

pub fills_left : (m : State) (t : Storage) → FillsOnce m → FillsOnce (without_storage m t)
fills_left m t o = All-filter (λ u. not (eqb u.id t.id)) OnceFilling m.storages o

pub bytes_kept : (m : State) (t : Storage) → HaveBytes m → HaveBytes (without_storage m t)
bytes_kept m t o = All-filter (λ u. not (eqb u.id t.id)) (λ u. RowsTake u.rows u.bytes) m.storages o

-- ---- filters of what a list has

-- the first filter keeps those that the second one asks for
filter_left : {X : Type 0} (p keep : X → Bool) (xs : List X) → ((x : X) → Contains xs x → IsTrue (p x) → IsTrue (keep x)) → filter p (filter keep xs) ≡ filter p xs
filter_left p keep [] stays = refl
filter_left {X} p keep (x ∷ xs) stays = by (keep x) (p x) refl refl (filter_left p keep xs (λ y c. stays y (contains_next x y xs c)))
  where
    by : (b c : Bool) → keep x ≡ b → p x ≡ c → filter p (filter keep xs) ≡ filter p xs → filter p (cond b (x ∷ filter keep xs) (filter keep xs)) ≡ cond c (x ∷ filter p xs) (filter p xs)
    by true true e f ih = ap (λ d. cond d (x ∷ filter p (filter keep xs)) (filter p (filter keep xs))) f ∙ ap (λ (l : List X). x ∷ l) ih
    by true false e f ih = ap (λ d. cond d (x ∷ filter p (filter keep xs)) (filter p (filter keep xs))) f ∙ ih
    by false true e f ih = absurd (true≢false (sym (stays x (contains_here x xs) f) ∙ e))
    by false false e f ih = ih

filter_all : {X : Type 0} (p : X → Bool) (xs : List X) → ((x : X) → Contains xs x → IsTrue (p x)) → filter p xs ≡ xs
filter_all p [] all = refl
filter_all {X} p (x ∷ xs) all =
    ap (λ b. cond b (x ∷ filter p xs) (filter p xs)) (all x (contains_here x xs)) ∙ ap (λ (l : List X). x ∷ l) (filter_all p xs (λ y c. all y (contains_next x y xs c)))

kept_spare : (a b : Bool) → IsFalse (a && not b) → IsTrue (not a || b)
kept_spare true true f = refl
kept_spare true false f = absurd (true≢false f)
kept_spare false b f = refl

pub none_spare : (m : State) → IsSound m → ((id : ℕ) (t : Storage) → storage_with m id ≡ Some t → IsFalse (is_spare m t)) → recycled m ≡ m
none_spare m h none = ap (λ us. with_storages us) (filter_all (λ t. not (is_retired t) || is_pinned m t.id) m.storages (λ t c. kept_spare (is_retired t) (is_pinned m t.id) (none t.id t (at_id m h t c))))
  where
    with_storages : List Storage → State
    with_storages us = record m { storages = us }

-- ---- the storages that stay

module _ (m : State) (h : IsSound m) (t : Storage) (e : storage_with m t.id ≡ Some t) where
  abbrev n : State
  n = without_storage m t

  abbrev keep : Storage → Bool
  keep u = not (eqb u.id t.id)

  there : Contains m.storages t
  there = (with_id_from m h t.id t e).0

  summed : (f : Storage → ℕ) → sum_by f m.storages ≡ sum_by f n.storages + f t
  summed f = one_left (λ (u : Storage). u.id) t f m.storages h.ids.differ there

  counted : (p : Storage → Bool) → count_by p m.storages ≡ count_by p n.storages + cond (p t) 1 0
  counted p = summed (λ u. cond (p u) 1 0)

  pub bytes_gone : used m ≡ used n + t.bytes
  bytes_gone = summed (λ u. u.bytes)

  pub length_gone : length m.storages ≡ length n.storages + 1
  length_gone = omega (arith, length_sum m.storages, length_sum n.storages, summed (λ u. 1))

  module _ (spare : IsTrue (is_spare m t)) where
    retired : IsTrue (is_retired t)
    retired = (and_parts (is_retired t) (not (is_pinned m t.id)) spare).0

    unpinned : IsFalse (is_pinned m t.id)
    unpinned = not-true _ (and_parts (is_retired t) (not (is_pinned m t.id)) spare).1

    unused : IsFalse (is_live t || is_filling t)
    unused = not-true _ retired

    -- what the storage does not show, all that show it stay
    others_stay : (p : Storage → Bool) → IsFalse (p t) → (u : Storage) → Contains m.storages u → IsTrue (p u) → IsTrue (keep u)
    others_stay p fails u c x = not_from_false _ (ne_eqb u.id t.id (λ f. true≢false (sym x ∙ ap p (one_id m h.ids u t c there f) ∙ fails)))

    not_live : IsFalse (is_live t)
    not_live = false_from_ne_true (is_live t) (λ x. true≢false (sym (or_left (is_live t) (is_filling t) x) ∙ unused))

    not_filling : IsFalse (is_filling t)
    not_filling = false_from_ne_true (is_filling t) (λ x. true≢false (sym (or_right (is_live t) (is_filling t) x) ∙ unused))

    live_stays : (u : Storage) → Contains m.storages u → IsTrue (is_live u) → IsTrue (keep u)
    live_stays = others_stay is_live not_live

    filling_stays : (u : Storage) → Contains m.storages u → IsTrue (is_filling u) → IsTrue (keep u)
    filling_stays = others_stay is_filling not_filling

    pinned_stays : (u : Storage) → Contains m.storages u → IsTrue (is_pinned m u.id) → IsTrue (keep u)
    pinned_stays = others_stay (λ u. is_pinned m u.id) unpinned

    pub sound_left : IsSound n
    sound_left = storages_left m keep m.shrinks (record {
      live = live_stays;
      pins = λ u c settled p. pinned_stays u c (or_left _ _ (or_left _ _ p));
      snap = λ u c settled p. pinned_stays u c (or_right _ _ p);
      old = λ g c u d f. pinned_stays u d (or_left _ _ (or_right _ _ (any_at (λ k. eqb k.old u.id) m.shrinks g c (eq-eqb g.old u.id (sym f)))));
      new = λ g c u d f. filling_stays u d (new_filling m h.ids g c u d f);
      fewer = λ g c. c;
      one_shrink = h.ids.one_shrink;
      copies = λ u c k f. refl;
    }) h

    -- ---- what is found

    pub live_same : (s : ℕ) → live_storage n s ≡ live_storage m s
    live_same s = find_left (λ u. is_live u && eqb u.slot s) keep m.storages (λ u c x. live_stays u c (and_parts (is_live u) (eqb u.slot s) x).0)

    pub filling_same : (s : ℕ) → filling_storage n s ≡ filling_storage m s
    filling_same s = find_left (λ u. is_filling u && eqb u.slot s) keep m.storages (λ u c x. filling_stays u c (and_parts (is_filling u) (eqb u.slot s) x).0)

    pub flush_same : (s : ℕ) → open_flush n s ≡ open_flush m s
    flush_same s = find_left (λ u. (is_filling u && eqb u.slot s) && not (is_copy m u.id)) keep m.storages (λ u c x. filling_stays u c (and_parts (is_filling u) (eqb u.slot s) (and_parts _ _ x).0).0)

    pub held_same : (s : ℕ) (k : List ℕ) → is_held n s k ≡ is_held m s k
    held_same s k = any_left (λ u. (is_live u && eqb u.slot s) && has_row k u.rows) keep m.storages (λ u c x. live_stays u c (and_parts (is_live u) (eqb u.slot s) (and_parts _ _ x).0).0)

    -- ---- what is counted

    pub filling_counted : (counts_of n).filling ≡ (counts_of m).filling
    filling_counted = omega (arith, counted is_filling, ap one_if not_filling)

    pub live_counted : (counts_of n).live ≡ (counts_of m).live
    live_counted = omega (arith, counted is_live, ap one_if not_live)

    pub retired_counted : (counts_of m).retired ≡ (counts_of n).retired + 1
    retired_counted = omega (arith, counted is_retired, ap one_if retired)

    pub rows_counted : (counts_of n).rows ≡ (counts_of m).rows
    rows_counted = omega (
      arith,
      sum_passed is_live (λ u. length u.rows) n.storages,
      sum_passed is_live (λ u. length u.rows) m.storages,
      summed (λ u. cond (is_live u) (length u.rows) 0),
      ap (λ b. cond b (length t.rows) 0) not_live,
    )

    -- ---- what recycling frees

    pub fewer_spares : length (spares m) ≡ length (spares n) + 1
    fewer_spares =
        let left = one_left (λ (u : Storage). u.id) t (λ u. 1) (spares m) (AllPairs-filter (λ u v. u.id ≢ v.id) (is_spare m) m.storages h.ids.differ) (into_filter (is_spare m) m.storages t there spare) in
        omega (arith, left, length_sum (spares m), length_sum (filter keep (spares m)), ap length (filter_swap (is_spare m) keep m.storages))

    pub rest_same : recycled n ≡ recycled m
    rest_same = ap (λ us. with_storages us) (filter_left (λ u. not (is_retired u) || is_pinned m u.id) keep m.storages (λ u c x.
        others_stay (λ u. not (is_retired u) || is_pinned m u.id) (or_from _ _ (not_from_true _ retired) unpinned) u c x))
      where
        with_storages : List Storage → State
        with_storages us = record m { storages = us }
