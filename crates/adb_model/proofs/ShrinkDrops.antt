-- What a shrink that is given up, or that ends too late, changes of what a state says.
use Rattle.std.proofs.Common.{◌≡◌, ℕ, ◌+◌, eqb, Bool, true, false, cond, not, ◌&&◌, IsTrue, List, length, filter, find, Contains, Some, None, count_by, sum_by, refl, sym, ap, ◌∙◌, arith}
use Rattle.std.proofs.lemmas.Bool.{and_parts, or_right, eqb-true, eqb-false, ne_eqb, not-true, not_from_false}
use Rattle.std.proofs.lemmas.Option.{same_Some}
use Rattle.adb_model.specs.State.{Storage, Shrink, State}
use Rattle.adb_model.specs.Presence.{is_held, is_live, has_row}
use Rattle.adb_model.specs.Storages.{is_filling, is_retired, is_copy, used, storage_with, live_storage, filling_storage, open_flush, open_shrink}
use Rattle.adb_model.specs.Shrink.{copy_dropped}
use Rattle.adb_model.specs.Stats.{counts_of}
use Rattle.adb_model.specs.Sound.{IsSound}
use Rattle.adb_model.specs.Shrinking.{IsOpenShrink}
use Rattle.adb_model.proofs.Members.{from_filter}
use Rattle.adb_model.proofs.Phases.{live_filled, filling_not_live}
use Rattle.adb_model.proofs.Finds.{none_finds, find_left, any_left}
use Rattle.adb_model.proofs.OneChanged.{one_if, length_sum, sum_passed, one_left}
use Rattle.adb_model.proofs.FreshIds.{with_id_from}
use Rattle.adb_model.proofs.ShrinkAbortKeeps.{is_open, filled_stays}
use Rattle.adb_model.proofs.OpenShrink.{between}
use Rattle.adb_model.proofs.HeldInUse.{only_filling}
use Rattle.adb_model.proofs.Ids.{one_id}
use Rattle.adb_model.proofs.ShrinksLeave.{flushes_elsewhere}

pub with_id_dropped : (m : State) (g : Shrink) (id : ℕ) → storage_with (copy_dropped m g) id ≡ cond (eqb g.new id) None (storage_with m id)
with_id_dropped m g id = by (eqb g.new id) refl
  where
    by : (b : Bool) → eqb g.new id ≡ b → storage_with (copy_dropped m g) id ≡ cond b None (storage_with m id)
    by true f = none_finds (λ (u : Storage). eqb u.id id) (copy_dropped m g).storages (λ u c x.
        eqb-false u.id g.new (not-true (eqb u.id g.new) (from_filter (λ (v : Storage). not (eqb v.id g.new)) m.storages u c).1) (eqb-true u.id id x ∙ sym (eqb-true g.new id f)))
    by false f = find_left (λ (u : Storage). eqb u.id id) (λ u. not (eqb u.id g.new)) m.storages (λ u c x. not_from_false _ (ne_eqb u.id g.new (λ same. eqb-false g.new id f (sym same ∙ eqb-true u.id id x))))

module _ (m : State) (h : IsSound m) (slot : ℕ) (g : Shrink) (e : open_shrink m slot ≡ Some g) (old copy : Storage) (is : IsOpenShrink m slot g old copy) where
  abbrev n : State
  n = copy_dropped m g

  abbrev keep : Storage → Bool
  keep u = not (eqb u.id g.new)

  there : Contains m.storages copy × (copy.id ≡ g.new)
  there = with_id_from m h g.new copy is.copy_with_id

  live_stays : (u : Storage) → Contains m.storages u → IsTrue (is_live u) → IsTrue (keep u)
  live_stays u c live = filled_stays m h g (is_open m slot g e).0 u c (live_filled u live)

  -- what asks for a storage that is being filled finds none in the slot, and elsewhere what it did
  filling_asked : (p : Storage → Bool) (s : ℕ) → ((u : Storage) → IsTrue (p u) → IsTrue (is_filling u) × (u.slot ≡ s)) → find p n.storages ≡ cond (eqb slot s) None (find p m.storages)
  filling_asked p s asks = by (eqb slot s) refl
    where
      by : (b : Bool) → eqb slot s ≡ b → find p n.storages ≡ cond b None (find p m.storages)
      by true f = none_finds p n.storages (λ u c x.
          let from = from_filter keep m.storages u c in
          let asked = asks u x in
          let only = only_filling m h slot copy u is.in_slot from.0 asked.0 (asked.1 ∙ sym (eqb-true slot s f)) in
          eqb-false u.id g.new (not-true (eqb u.id g.new) from.1) (ap (λ (v : Storage). v.id) only ∙ there.1))
      by false f = find_left p keep m.storages (λ u c x. not_from_false _ (ne_eqb u.id g.new (λ same.
          eqb-false slot s f (sym (ap (λ (v : Storage). v.slot) (one_id m h.ids u copy c there.0 (same ∙ sym there.1)) ∙ is.copy_slot) ∙ (asks u x).1))))

  filling_gone : (s : ℕ) → filling_storage n s ≡ cond (eqb slot s) None (filling_storage m s)
  filling_gone s = filling_asked (λ u. is_filling u && eqb u.slot s) s (λ u x. let parts = and_parts (is_filling u) (eqb u.slot s) x in (parts.0, eqb-true u.slot s parts.1))

  flushes_same : (s : ℕ) → open_flush n s ≡ open_flush m s
  flushes_same s =
      filling_asked (λ u. (is_filling u && eqb u.slot s) && not (is_copy n u.id)) s
      (λ u x. let parts = and_parts (is_filling u) (eqb u.slot s) (and_parts _ _ x).0 in (parts.0, eqb-true u.slot s parts.1))
      ∙ by (eqb slot s) refl
    where
      by : (b : Bool) → eqb slot s ≡ b → cond b None (find (λ u. (is_filling u && eqb u.slot s) && not (is_copy n u.id)) m.storages) ≡ open_flush m s
      by true f = sym (ap (open_flush m) (sym (eqb-true slot s f)) ∙ is.no_flush)
      by false f = flushes_elsewhere m slot g e h s f

  -- ---- what is counted

  summed : (f : Storage → ℕ) → sum_by f m.storages ≡ sum_by f n.storages + f copy
  summed f =
      one_left (λ (u : Storage). u.id) copy f m.storages h.ids.differ there.0
      ∙ ap (λ (i : ℕ). sum_by f (filter (λ u. not (eqb u.id i)) m.storages) + f copy) there.1

  counted : (p : Storage → Bool) → count_by p m.storages ≡ count_by p n.storages + cond (p copy) 1 0
  counted p = summed (λ u. cond (p u) 1 0)

  length_left : length m.storages ≡ length n.storages + 1
  length_left = omega (arith, length_sum m.storages, length_sum n.storages, summed (λ u. 1))

  filling_counted : (counts_of m).filling ≡ (counts_of n).filling + 1
  filling_counted = omega (arith, counted is_filling, ap one_if is.fills)

  live_counted : (counts_of n).live ≡ (counts_of m).live
  live_counted = omega (arith, counted is_live, ap one_if (filling_not_live copy is.fills))

  retired_counted : (counts_of n).retired ≡ (counts_of m).retired
  retired_counted = omega (arith, counted is_retired, ap (λ b. one_if (not b)) (or_right (is_live copy) (is_filling copy) is.fills))

  rows_counted : (counts_of n).rows ≡ (counts_of m).rows
  rows_counted = omega (
    arith,
    sum_passed is_live (λ u. length u.rows) n.storages,
    sum_passed is_live (λ u. length u.rows) m.storages,
    summed (λ u. cond (is_live u) (length u.rows) 0),
    ap (λ b. cond b (length copy.rows) 0) (filling_not_live copy is.fills),
  )

-- ---- the same of the storages that the shrink's ids lead to

module _ (m : State) (h : IsSound m) (slot : ℕ) (g : Shrink) (e : open_shrink m slot ≡ Some g) where
  abbrev stands : (old : Storage) × (copy : Storage) × IsOpenShrink m slot g old copy
  stands = between m h slot g e

  pub live_dropped : (s : ℕ) → live_storage (copy_dropped m g) s ≡ live_storage m s
  live_dropped s =
      find_left (λ u. is_live u && eqb u.slot s) (λ u. not (eqb u.id g.new)) m.storages
      (λ u c x. live_stays m h slot g e stands.0 stands.1 stands.2 u c (and_parts (is_live u) (eqb u.slot s) x).0)

  pub held_dropped : (s : ℕ) (k : List ℕ) → is_held (copy_dropped m g) s k ≡ is_held m s k
  held_dropped s k =
      any_left (λ u. (is_live u && eqb u.slot s) && has_row k u.rows) (λ u. not (eqb u.id g.new)) m.storages
      (λ u c x. live_stays m h slot g e stands.0 stands.1 stands.2 u c (and_parts (is_live u) (eqb u.slot s) (and_parts _ _ x).0).0)

  pub filling_dropped : (s : ℕ) → filling_storage (copy_dropped m g) s ≡ cond (eqb slot s) None (filling_storage m s)
  filling_dropped s = filling_gone m h slot g e stands.0 stands.1 stands.2 s

  pub flush_dropped : (s : ℕ) → open_flush (copy_dropped m g) s ≡ open_flush m s
  flush_dropped s = flushes_same m h slot g e stands.0 stands.1 stands.2 s

  pub bytes_dropped : (copy : Storage) → storage_with m g.new ≡ Some copy → used m ≡ used (copy_dropped m g) + copy.bytes
  bytes_dropped copy f =
      summed m h slot g e stands.0 stands.1 stands.2 (λ u. u.bytes)
      ∙ ap (λ (u : Storage). used (copy_dropped m g) + u.bytes) (same_Some stands.1 copy (sym stands.2.copy_with_id ∙ f))

  pub length_dropped : length m.storages ≡ length (copy_dropped m g).storages + 1
  length_dropped = length_left m h slot g e stands.0 stands.1 stands.2

  pub filling_count : (counts_of m).filling ≡ (counts_of (copy_dropped m g)).filling + 1
  filling_count = filling_counted m h slot g e stands.0 stands.1 stands.2

  pub live_count : (counts_of (copy_dropped m g)).live ≡ (counts_of m).live
  live_count = live_counted m h slot g e stands.0 stands.1 stands.2

  pub retired_count : (counts_of (copy_dropped m g)).retired ≡ (counts_of m).retired
  retired_count = retired_counted m h slot g e stands.0 stands.1 stands.2

  pub row_count : (counts_of (copy_dropped m g)).rows ≡ (counts_of m).rows
  row_count = rows_counted m h slot g e stands.0 stands.1 stands.2
