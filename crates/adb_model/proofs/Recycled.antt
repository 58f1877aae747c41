-- What recycling changes of what a state says.
use Rattle.std.proofs.Common.{◌≡◌, ℕ, ◌+◌, eqb, Bool, true, false, cond, not, ◌&&◌, ◌||◌, IsTrue, List, length, filter, Option, Some, None, count_by, sum_by, refl, sym, ap, ◌∙◌, arith}
use Rattle.std.specs.Option.{option_and_then, option_map_or}
use Rattle.std.proofs.lemmas.Bool.{true≢false, and_parts, or_left, or_right, eqb-true, eq-eqb, not_from_false, not-true, not-false}
use Rattle.std.proofs.lemmas.List.Filters.{sum_by-filter_both, length-filter_both}
use Rattle.std.proofs.lemmas.List.Sums.{length-filter}
use Rattle.adb_model.specs.State.{Storage, State}
use Rattle.adb_model.specs.Presence.{is_held, is_named, is_live, has_row}
use Rattle.adb_model.specs.Storages.{is_filling, is_retired, is_pinned, is_copy, used, storage_with, live_storage, filling_storage, open_flush}
use Rattle.adb_model.specs.Call as call
use Rattle.adb_model.specs.Snap.{recycled}
use Rattle.adb_model.specs.Stats.{counts_of}
use Rattle.adb_model.specs.Step.{step}
use Rattle.adb_model.specs.Sound.{IsSound}
use Rattle.adb_model.specs.Recycling.{is_spare, spares}
use Rattle.adb_model.proofs.Members.{none_at, not_found, from_filter, into_filter}
use Rattle.adb_model.proofs.Filters.{filter_twice, filter_swap}
use Rattle.adb_model.proofs.Finds.{none_finds, one_found, find_left, any_left}
use Rattle.adb_model.proofs.Ids.{one_id}
use Rattle.adb_model.proofs.FreshIds.{with_id_from}
use Rattle.adb_model.proofs.HeldInUse.{held_in_use}
use Rattle.adb_model.proofs.CopiedRows.{in_use}

not_both : (a b : Bool) → (a && not b) ≡ not (not a || b)
not_both true b = refl
not_both false b = refl

counted_all : {X : Type 0} (p q : X → Bool) → ((x : X) → IsTrue (q x) → IsTrue (p x)) → (xs : List X) → count_by p (filter q xs) ≡ length (filter q xs)
counted_all p q all xs = sym (length-filter p (filter q xs)) ∙ ap length (filter_swap p q xs ∙ filter_twice q p all xs)

module _ (m : State) where
  abbrev n : State
  n = recycled m

  abbrev keep : Storage → Bool
  keep t = not (is_retired t) || is_pinned m t.id

  others : (t : Storage) → is_spare m t ≡ not (keep t)
  others t = not_both (is_retired t) (is_pinned m t.id)

  pub used_stays : (t : Storage) → IsTrue (is_live t || is_filling t) → IsTrue (keep t)
  used_stays t x = or_left _ _ (not_from_false _ (ap not x))

  live_stays : (t : Storage) → IsTrue (is_live t) → IsTrue (keep t)
  live_stays t x = used_stays t (or_left _ _ x)

  filling_stays : (t : Storage) → IsTrue (is_filling t) → IsTrue (keep t)
  filling_stays t x = used_stays t (or_right _ _ x)

  -- ---- what is found

  pub live_left : (s : ℕ) → live_storage n s ≡ live_storage m s
  live_left s = find_left (λ t. is_live t && eqb t.slot s) keep m.storages (λ t c x. live_stays t (and_parts (is_live t) (eqb t.slot s) x).0)

  pub filling_left : (s : ℕ) → filling_storage n s ≡ filling_storage m s
  filling_left s = find_left (λ t. is_filling t && eqb t.slot s) keep m.storages (λ t c x. filling_stays t (and_parts (is_filling t) (eqb t.slot s) x).0)

  pub flush_left : (s : ℕ) → open_flush n s ≡ open_flush m s
  flush_left s = find_left (λ t. (is_filling t && eqb t.slot s) && not (is_copy m t.id)) keep m.storages (λ t c x. filling_stays t (and_parts (is_filling t) (eqb t.slot s) (and_parts _ _ x).0).0)

  pub held_left : (s : ℕ) (k : List ℕ) → is_held n s k ≡ is_held m s k
  held_left s k = any_left (λ t. (is_live t && eqb t.slot s) && has_row k t.rows) keep m.storages (λ t c x. live_stays t (and_parts (is_live t) (eqb t.slot s) (and_parts _ _ x).0).0)

  module _ (h : IsSound m) where
    pub with_id_left : (id : ℕ) → storage_with n id ≡ option_and_then (λ t. cond (is_spare m t) None (Some t)) (storage_with m id)
    with_id_left id = by (storage_with m id) refl
      where
        found_there : (t : Storage) → storage_with m id ≡ Some t → (b : Bool) → is_spare m t ≡ b → storage_with n id ≡ cond b None (Some t)
        found_there t e true spare = none_finds (λ (u : Storage). eqb u.id id) n.storages (λ u c x.
            let is = with_id_from m h id t e in
            let from = from_filter keep m.storages u c in
            let same = one_id m h.ids u t from.0 is.0 (eqb-true u.id id x ∙ sym is.1) in
            true≢false (sym from.1 ∙ ap keep same ∙ not-true (keep t) (sym (others t) ∙ spare)))
        found_there t e false stays =
            let is = with_id_from m h id t e in
            one_found (λ (u : Storage). eqb u.id id) n.storages t (into_filter keep m.storages t is.0 (not-false _ (sym (others t) ∙ stays))) (eq-eqb t.id id is.1)
            (λ u c x. one_id m h.ids u t (from_filter keep m.storages u c).0 is.0 (eqb-true u.id id x ∙ sym is.1))

        by : (o : Option Storage) → storage_with m id ≡ o → storage_with n id ≡ option_and_then (λ t. cond (is_spare m t) None (Some t)) o
        by None e = none_finds (λ (u : Storage). eqb u.id id) n.storages (λ u c x.
            true≢false (sym x ∙ none_at (λ (v : Storage). eqb v.id id) m.storages u (from_filter keep m.storages u c).0 (not_found (λ (v : Storage). eqb v.id id) m.storages e)))
        by (Some t) e = found_there t e (is_spare m t) refl

    -- the storage of a named pair stays
    pub named_stays : (s : ℕ) (k : List ℕ) → IsTrue (is_named m s k) → (t : Storage) × (live_storage m s ≡ Some t) × IsTrue (has_row k t.rows) × (storage_with n t.id ≡ Some t)
    named_stays s k named = by (live_storage m s) refl (sym (held_in_use m h s k) ∙ h.names.held s k named)
      where
        by : (o : Option Storage) → live_storage m s ≡ o → IsTrue (option_map_or (λ t. has_row k t.rows) o false) → (t : Storage) × (live_storage m s ≡ Some t) × IsTrue (has_row k t.rows) × (storage_with n t.id ≡ Some t)
        by None e row = absurd (true≢false (sym row))
        by (Some t) e row =
            let is = in_use m s t e in (
              t,
              e,
              row,
              one_found (λ (u : Storage). eqb u.id t.id) n.storages t (into_filter keep m.storages t is.there (live_stays t is.live)) (eq-eqb t.id t.id refl)
                  (λ u c x. one_id m h.ids u t (from_filter keep m.storages u c).0 is.there (eqb-true u.id t.id x)),
            )

  -- ---- what is counted

  pub bytes_left : used m ≡ used n + sum_by (λ t. t.bytes) (spares m)
  bytes_left = sym (sum_by-filter_both keep (is_spare m) others (λ t. t.bytes) m.storages)

  pub length_left : length m.storages ≡ length n.storages + length (spares m)
  length_left = sym (length-filter_both keep (is_spare m) others m.storages)

  counted_same : (p : Storage → Bool) → ((t : Storage) → IsTrue (p t) → IsTrue (keep t)) → count_by p n.storages ≡ count_by p m.storages
  counted_same p stays = sym (length-filter p n.storages) ∙ ap length (filter_twice p keep stays m.storages) ∙ length-filter p m.storages

  pub filling_counted : (counts_of n).filling ≡ (counts_of m).filling
  filling_counted = counted_same is_filling filling_stays

  pub live_counted : (counts_of n).live ≡ (counts_of m).live
  live_counted = counted_same is_live live_stays

  pub retired_counted : (counts_of m).retired ≡ (counts_of n).retired + length (spares m)
  retired_counted =
      sym (sum_by-filter_both keep (is_spare m) others (λ t. cond (is_retired t) 1 0) m.storages)
      ∙ ap (λ (k : ℕ). count_by is_retired n.storages + k) (counted_all is_retired (is_spare m) (λ t x. (and_parts (is_retired t) (not (is_pinned m t.id)) x).0) m.storages)

  pub rows_counted : (counts_of n).rows ≡ (counts_of m).rows
  rows_counted = ap (sum_by (λ t. length t.rows)) (filter_twice is_live keep live_stays m.storages)

  pub replied : (pass : ℕ) → step m pass call.Recycle ≡ (n, call.Recycled (length (spares m)))
  replied pass = ap (λ (k : ℕ). (n, call.Recycled k)) (omega (arith, length_left))
