-- What the abort of a flush changes of what a state says.
use Rattle.std.proofs.Common.{◌≡◌, ℕ, ◌+◌, eqb, Bool, true, false, cond, not, ◌&&◌, IsTrue, List, length, find, Contains, Some, None, count_by, sum_by, refl, sym, ap, ◌∙◌, arith}
use Rattle.std.proofs.lemmas.Bool.{true≢false, and_parts, or_right, eqb-true, eqb-false, not-true, ne_eqb, not_from_false}
use Rattle.adb_model.specs.State.{Storage, State}
use Rattle.adb_model.specs.Presence.{is_held, is_live, has_row}
use Rattle.adb_model.specs.Storages.{is_filling, is_retired, used, is_copy, storage_with, live_storage, filling_storage, open_flush}
use Rattle.adb_model.specs.Flush.{flush_dropped}
use Rattle.adb_model.specs.Stats.{counts_of}
use Rattle.adb_model.specs.Sound.{IsSound}
use Rattle.adb_model.proofs.Members.{from_filter}
use Rattle.adb_model.proofs.Phases.{live_filled, filling_not_live}
use Rattle.adb_model.proofs.Finds.{none_finds, find_left, any_left}
use Rattle.adb_model.proofs.OneChanged.{one_if, length_sum, sum_passed, one_left}
use Rattle.adb_model.proofs.FlushEndKeeps.{IsOpen, opened, one}
use Rattle.adb_model.proofs.OpenFlush.{only_filling}

module _ (m : State) (h : IsSound m) (slot : ℕ) (t : Storage) (e : open_flush m slot ≡ Some t) where
  abbrev n : State
  n = flush_dropped m t

  abbrev keep : Storage → Bool
  keep u = not (eqb u.id t.id)

  is : IsOpen m t
  is = (opened m slot t h e).0

  same : t.slot ≡ slot
  same = (opened m slot t h e).1

  stays : (u : Storage) → (u.id ≡ t.id → ⊥) → IsTrue (keep u)
  stays u ne = not_from_false _ (ne_eqb u.id t.id ne)

  live_stays : (u : Storage) → Contains m.storages u → IsTrue (is_live u) → IsTrue (keep u)
  live_stays u c live = stays u (λ f. true≢false (sym is.fills ∙ ap is_filling (sym (one m t h is u c f)) ∙ live_filled u live))

  -- ---- what is found

  pub with_id_dropped : (id : ℕ) → storage_with n id ≡ cond (eqb t.id id) None (storage_with m id)
  with_id_dropped id = by (eqb t.id id) refl
    where
      by : (b : Bool) → eqb t.id id ≡ b → storage_with n id ≡ cond b None (storage_with m id)
      by true f = none_finds (λ (u : Storage). eqb u.id id) n.storages (λ u c x.
          eqb-false u.id t.id (not-true (eqb u.id t.id) (from_filter keep m.storages u c).1) (eqb-true u.id id x ∙ sym (eqb-true t.id id f)))
      by false f = find_left (λ (u : Storage). eqb u.id id) keep m.storages (λ u c x. stays u (λ g. eqb-false t.id id f (sym g ∙ eqb-true u.id id x)))

  pub live_dropped : (s : ℕ) → live_storage n s ≡ live_storage m s
  live_dropped s = find_left (λ u. is_live u && eqb u.slot s) keep m.storages (λ u c x. live_stays u c (and_parts (is_live u) (eqb u.slot s) x).0)

  pub held_dropped : (s : ℕ) (k : List ℕ) → is_held n s k ≡ is_held m s k
  held_dropped s k = any_left (λ u. (is_live u && eqb u.slot s) && has_row k u.rows) keep m.storages (λ u c x. live_stays u c (and_parts (is_live u) (eqb u.slot s) (and_parts _ _ x).0).0)

  -- what asks for a storage that is being filled finds none in the slot, and elsewhere what it did
  filling_asked : (p : Storage → Bool) (s : ℕ) → ((u : Storage) → IsTrue (p u) → IsTrue (is_filling u) × (u.slot ≡ s)) → find p n.storages ≡ cond (eqb slot s) None (find p m.storages)
  filling_asked p s asks = by (eqb slot s) refl
    where
      by : (b : Bool) → eqb slot s ≡ b → find p n.storages ≡ cond b None (find p m.storages)
      by true f = none_finds p n.storages (λ u c x.
          let from = from_filter keep m.storages u c in
          let asked = asks u x in
          let only = only_filling m t h is u from.0 asked.0 (asked.1 ∙ sym (eqb-true slot s f) ∙ sym same) in
          eqb-false u.id t.id (not-true (eqb u.id t.id) from.1) (ap (λ (v : Storage). v.id) only))
      by false f = find_left p keep m.storages (λ u c x. stays u (λ g. eqb-false slot s f (sym same ∙ ap (λ (v : Storage). v.slot) (sym (one m t h is u c g)) ∙ (asks u x).1)))

  pub filling_dropped : (s : ℕ) → filling_storage n s ≡ cond (eqb slot s) None (filling_storage m s)
  filling_dropped s = filling_asked (λ u. is_filling u && eqb u.slot s) s (λ u x. let parts = and_parts (is_filling u) (eqb u.slot s) x in (parts.0, eqb-true u.slot s parts.1))

  pub flush_dropped_too : (s : ℕ) → open_flush n s ≡ cond (eqb slot s) None (open_flush m s)
  flush_dropped_too s =
      filling_asked (λ u. (is_filling u && eqb u.slot s) && not (is_copy m u.id)) s
      (λ u x. let parts = and_parts (is_filling u) (eqb u.slot s) (and_parts _ _ x).0 in (parts.0, eqb-true u.slot s parts.1))

  -- ---- what is counted

  summed : (g : Storage → ℕ) → sum_by g m.storages ≡ sum_by g n.storages + g t
  summed g = one_left (λ (u : Storage). u.id) t g m.storages h.ids.differ is.there

  counted : (p : Storage → Bool) → count_by p m.storages ≡ count_by p n.storages + cond (p t) 1 0
  counted p = summed (λ u. cond (p u) 1 0)

  pub bytes_dropped : used m ≡ used n + t.bytes
  bytes_dropped = summed (λ u. u.bytes)

  pub length_dropped : length m.storages ≡ length n.storages + 1
  length_dropped = omega (arith, length_sum m.storages, length_sum n.storages, summed (λ u. 1))

  pub filling_counted : (counts_of m).filling ≡ (counts_of n).filling + 1
  filling_counted = omega (arith, counted is_filling, ap one_if is.fills)

  pub live_counted : (counts_of n).live ≡ (counts_of m).live
  live_counted = omega (arith, counted is_live, ap one_if (filling_not_live t is.fills))

  pub retired_counted : (counts_of n).retired ≡ (counts_of m).retired
  retired_counted = omega (arith, counted is_retired, ap (λ b. one_if (not b)) (or_right (is_live t) (is_filling t) is.fills))

  pub rows_counted : (counts_of n).rows ≡ (counts_of m).rows
  rows_counted = omega (
    arith,
    sum_passed is_live (λ u. length u.rows) n.storages,
    sum_passed is_live (λ u. length u.rows) m.storages,
    summed (λ u. cond (is_live u) (length u.rows) 0),
    ap (λ b. cond b (length t.rows) 0) (filling_not_live t is.fills),
  )
