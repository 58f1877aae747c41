-- What the begin of a flush changes of what a state says.
use Rattle.std.proofs.Common.{◌≡◌, ◌≢◌, ℕ, ◌+◌, eqb, Bool, true, false, cond, not, ◌&&◌, IsTrue, List, [], ◌∷◌, length, Some, None, sum_by, refl, sym, ap, ◌∙◌, length-append}
use Rattle.std.proofs.lemmas.Bool.{and_parts, and_from, and_left, eqb-true, not-true, not_from_false}
use Rattle.std.proofs.lemmas.List.Elements.{All-contains}
use Rattle.std.proofs.lemmas.List.Sums.{sum_by_push}
use Rattle.adb_model.specs.Lists.{among}
use Rattle.adb_model.specs.State.{Row, Storage, State}
use Rattle.adb_model.specs.Presence.{is_held, is_live, has_row}
use Rattle.adb_model.specs.Storages.{is_filling, is_retired, bytes_of, used, storage_with, live_storage, filling_storage, open_flush, is_copy}
use Rattle.adb_model.specs.Flush.{has_cached_key, filling_with, with_filling}
use Rattle.adb_model.specs.Stats.{counts_of}
use Rattle.adb_model.specs.Sound.{IsSound}
use Rattle.adb_model.proofs.Members.{any_push_other}
use Rattle.adb_model.proofs.Filters.{filter_push_other}
use Rattle.adb_model.proofs.Taken.{count_push_yes, count_push_no}
use Rattle.adb_model.proofs.FillingAdded.{not_copy}
use Rattle.adb_model.proofs.FlushBeginKeeps.{no_filling}
use Rattle.adb_model.proofs.Finds.{none_finds, find_push_other, find_push_new}
use Rattle.adb_model.proofs.FreshIds.{next_fresh}

-- a slot that may be flushed and isn't has no storage that is being filled
pub none_filling : (m : State) → IsSound m → (slot : ℕ) → IsTrue (has_cached_key m slot) → open_flush m slot ≡ None → filling_storage m slot ≡ None
none_filling m h slot cached closed =
    let unflushed = not-true _ (and_parts _ (not (among slot m.flushed)) cached).1 in
    none_finds (λ t. is_filling t && eqb t.slot slot) m.storages (λ t c p.
    let parts = and_parts (is_filling t) (eqb t.slot slot) p in
    All-contains (λ u. IsTrue (is_filling u) → u.slot ≢ slot) m.storages t (no_filling m slot h unflushed closed) c parts.0 (eqb-true t.slot slot parts.1))

module _ (m : State) (slot : ℕ) (rows : List Row) where
  abbrev n : State
  n = with_filling m slot rows

  abbrev new : Storage
  new = filling_with m slot rows

  pub with_id_begun : IsSound m → (id : ℕ) → storage_with n id ≡ cond (eqb m.next_id id) (Some new) (storage_with m id)
  with_id_begun h id = by (eqb m.next_id id) refl
    where
      by : (b : Bool) → eqb m.next_id id ≡ b → storage_with n id ≡ cond b (Some new) (storage_with m id)
      by true e = find_push_new (λ (t : Storage). eqb t.id id) m.storages new (ap (storage_with m) (sym (eqb-true m.next_id id e)) ∙ next_fresh m h) e
      by false e = find_push_other (λ (t : Storage). eqb t.id id) m.storages new e

  pub live_begun : (s : ℕ) → live_storage n s ≡ live_storage m s
  live_begun s = find_push_other (λ t. is_live t && eqb t.slot s) m.storages new refl

  pub filling_begun : filling_storage m slot ≡ None → (s : ℕ) → filling_storage n s ≡ cond (eqb slot s) (Some new) (filling_storage m s)
  filling_begun none s = by (eqb slot s) refl
    where
      by : (b : Bool) → eqb slot s ≡ b → filling_storage n s ≡ cond b (Some new) (filling_storage m s)
      by true e = find_push_new (λ t. is_filling t && eqb t.slot s) m.storages new (ap (filling_storage m) (sym (eqb-true slot s e)) ∙ none) e
      by false e = find_push_other (λ t. is_filling t && eqb t.slot s) m.storages new e

  pub flush_begun : IsSound m → open_flush m slot ≡ None → (s : ℕ) → open_flush n s ≡ cond (eqb slot s) (Some new) (open_flush m s)
  flush_begun h none s = by (eqb slot s) refl
    where
      by : (b : Bool) → eqb slot s ≡ b → open_flush n s ≡ cond b (Some new) (open_flush m s)
      by true e = find_push_new (λ t. (is_filling t && eqb t.slot s) && not (is_copy m t.id)) m.storages new (ap (open_flush m) (sym (eqb-true slot s e)) ∙ none) (and_from _ _ e (not_from_false _ (not_copy m slot rows h)))
      by false e = find_push_other (λ t. (is_filling t && eqb t.slot s) && not (is_copy m t.id)) m.storages new (and_left _ _ e)

  pub held_begun : (s : ℕ) (k : List ℕ) → is_held n s k ≡ is_held m s k
  held_begun s k = any_push_other (λ t. (is_live t && eqb t.slot s) && has_row k t.rows) m.storages new refl

  pub bytes_begun : used n ≡ used m + bytes_of rows
  bytes_begun = sum_by_push (λ (t : Storage). t.bytes) m.storages new

  pub length_begun : length n.storages ≡ length m.storages + 1
  length_begun = length-append m.storages (new ∷ [])

  pub filling_counted : (counts_of n).filling ≡ (counts_of m).filling + 1
  filling_counted = count_push_yes is_filling m.storages new refl

  pub live_counted : (counts_of n).live ≡ (counts_of m).live
  live_counted = count_push_no is_live m.storages new refl

  pub retired_counted : (counts_of n).retired ≡ (counts_of m).retired
  retired_counted = count_push_no is_retired m.storages new refl

  pub rows_counted : (counts_of n).rows ≡ (counts_of m).rows
  rows_counted = ap (sum_by (λ t. length t.rows)) (filter_push_other is_live m.storages new refl)
