-- The rows that a shrink copies, and what is known of the slot whose storage it copies.
use Rattle.std.proofs.Common.{◌≡◌, ◌≢◌, ℕ, eqb, Bool, true, false, cond, not, ◌&&◌, IsTrue, List, [], ◌∷◌, get_or, AllPairs, Contains, Option, Some, None, option_to_list, refl, sym, ap, ◌∙◌, subst, inl, inr, option_map}
use Rattle.std.proofs.lemmas.Bool.{true≢false, and_parts, eqb-true, eq-eqb, not-true}
use Rattle.std.proofs.lemmas.List.Elements.{All-contains, Contains-get_or}
use Rattle.std.proofs.lemmas.List.Kept.{AllPairs-cons, AllPairs-filter}
use Rattle.adb_model.specs.Lists.{among}
use Rattle.adb_model.specs.State.{Row, Storage, Shrink, State}
use Rattle.adb_model.specs.Presence.{is_live, is_named, has_row}
use Rattle.adb_model.specs.Storages.{is_filling, is_copy, live_storage, filling_storage, open_flush, open_shrink}
use Rattle.adb_model.specs.Shrink.{last_rows, shrink_rows}
use Rattle.adb_model.specs.Sound.{IsSound, SlotFits, RowsFit, last_account, last_row}
use Rattle.adb_model.proofs.Members.{member, any_at, none_at, found, not_found, from_filter, into_filter, contains_none, contains_cases}
use Rattle.adb_model.proofs.Pairs.{pairs_at, pairs_none}
use Rattle.adb_model.proofs.Filters.{same_truth}
use Rattle.adb_model.proofs.Distinct.{eq-bytes_eq, bytes_eq_self}
use Rattle.adb_model.proofs.Phases.{live_filled}
use Rattle.adb_model.proofs.Ids.{new_slot}
use Rattle.adb_model.proofs.Finds.{none_finds}
use Rattle.adb_model.proofs.ShrinkRows.{of_key, last_of, only_last, row_of_last, row_from, row_into, last_same}

-- ---- each key once, with its last account

last_once : (rows : List Row) → AllPairs (λ r q. r.key ≢ q.key) (last_rows rows)
last_once [] = pairs_none (λ (r q : Row). r.key ≢ q.key)
last_once (r ∷ rows) = by (has_row r.key rows) refl (last_once rows)
  where
    by : (b : Bool) → has_row r.key rows ≡ b → AllPairs (λ r q. r.key ≢ q.key) (last_rows rows) → AllPairs (λ r q. r.key ≢ q.key) (cond b (last_rows rows) (r ∷ last_rows rows))
    by true e ih = ih
    by false e ih =
        AllPairs-cons (λ (r q : Row). r.key ≢ q.key) r (last_rows rows)
        (λ k d lt same.
        let q : Row = get_or (last_rows rows) k d in
        true≢false (sym (row_of_last r.key rows (any_at (of_key r.key) (last_rows rows) q (Contains-get_or (last_rows rows) k d lt) (eq-bytes_eq q.key r.key (sym same)))) ∙ e))
        ih

pub keys_differ : (m : State) (old : Storage) → AllPairs (λ r q. r.key ≢ q.key) (shrink_rows m old)
keys_differ m old = AllPairs-filter (λ (r q : Row). r.key ≢ q.key) (λ r. is_named m old.slot r.key) (last_rows old.rows) (last_once old.rows)

row_account : (r : Row) (rows : List Row) → Contains (last_rows rows) r → last_row r.key rows ≡ Some r.account
row_account r rows c = by (last_of r.key rows) (subst (λ (l : List Row). Contains l r) (only_last r.key rows) (into_filter (of_key r.key) (last_rows rows) r c (bytes_eq_self r.key)))
  where
    by : (o : Option Row) → Contains (option_to_list o) r → option_map (λ (q : Row). q.account) o ≡ Some r.account
    by None d = absurd (contains_none r d)
    by (Some q) d = elim (contains_cases q r [] d) [ inl e ↦ ap (λ (x : Row). Some x.account) e | inr none ↦ absurd (contains_none r none) ]

-- ---- the slot's storage in use

pub record IsInUse (m : State) (slot : ℕ) (t : Storage) : Type 0 where
  pub there : Contains m.storages t
  pub live : IsTrue (is_live t)
  pub at : t.slot ≡ slot

pub in_use : (m : State) (slot : ℕ) (t : Storage) → live_storage m slot ≡ Some t → IsInUse m slot t
in_use m slot t e =
    let f = found (λ u. is_live u && eqb u.slot slot) m.storages t e in
    let parts = and_parts (is_live t) (eqb t.slot slot) f.1 in
    record { there = f.0; live = parts.0; at = eqb-true t.slot slot parts.1 }

module _ (m : State) (h : IsSound m) (slot : ℕ) (old : Storage) (e : live_storage m slot ≡ Some old) where
  is : IsInUse m slot old
  is = in_use m slot old e

  fits : RowsFit m old
  fits = All-contains (RowsFit m) m.storages old h.rows is.there

  pub flushed : IsTrue (among slot m.flushed)
  flushed = subst (λ s. IsTrue (among s m.flushed)) is.at ((All-contains (SlotFits m) m.storages old h.slots.storages is.there).settled (live_filled old is.live))

  -- the only one in use has each named key
  named_row : (k : List ℕ) → IsTrue (is_named m slot k) → IsTrue (has_row k old.rows)
  named_row k n =
      let a = member (λ u. (is_live u && eqb u.slot slot) && has_row k u.rows) m.storages (h.names.held slot k n) in
      let parts = and_parts (is_live a.0 && eqb a.0.slot slot) (has_row k a.0.rows) a.2 in
      let first = and_parts (is_live a.0) (eqb a.0.slot slot) parts.0 in
      let at = eqb-true a.0.slot slot first.1 in
      elim (pairs_at (λ t u. IsTrue (is_live t) → IsTrue (is_live u) → t.slot ≢ u.slot) m.storages a.0 old h.slots.one_live a.1 is.there) [
        | inl same ↦ ap (λ (u : Storage). has_row k u.rows) (sym same) ∙ parts.1
        | inr (inl apart) ↦ absurd (apart first.0 is.live (at ∙ sym is.at))
        | inr (inr apart) ↦ absurd (apart is.live first.0 (is.at ∙ sym at))
      ]

  pub keys_named : (k : List ℕ) → has_row k (shrink_rows m old) ≡ is_named m slot k
  keys_named k = same_truth _ _
      (λ t. subst (λ s. IsTrue (is_named m s k)) is.at (row_from m old k t).1)
      (λ n. row_into m old k (named_row k n) (subst (λ s. IsTrue (is_named m s k)) (sym is.at) n))

  pub accounts_last : (r : Row) → Contains (shrink_rows m old) r → last_account m slot r.key ≡ Some r.account
  accounts_last r c =
      let f = from_filter (λ (q : Row). is_named m old.slot q.key) (last_rows old.rows) r c in
      let row = row_of_last r.key old.rows (any_at (of_key r.key) (last_rows old.rows) r f.0 (bytes_eq_self r.key)) in
      ap (λ (s : ℕ). last_account m s r.key) (sym is.at) ∙ sym (fits.last r.key row) ∙ row_account r old.rows f.0

  pub lasts : (k : List ℕ) → IsTrue (is_named m slot k) → last_row k (shrink_rows m old) ≡ last_account m slot k
  lasts k n =
      last_same m old k (subst (λ s. IsTrue (is_named m s k)) (sym is.at) n) ∙ fits.last k (named_row k n)
      ∙ ap (λ (s : ℕ). last_account m s k) is.at

  -- what is being filled in the slot is a copy
  filling_copy : (u : Storage) → Contains m.storages u → IsTrue (is_filling u) → u.slot ≡ slot → IsTrue (is_copy m u.id)
  filling_copy u c fill at =
      let fit : SlotFits m u = All-contains (SlotFits m) m.storages u h.slots.storages c in
      sym (fit.copied fill) ∙ ap (λ (s : ℕ). among s m.flushed) at ∙ flushed

  pub no_flush : open_flush m slot ≡ None
  no_flush = none_finds (λ u. (is_filling u && eqb u.slot slot) && not (is_copy m u.id)) m.storages (λ u c x.
      let parts = and_parts (is_filling u && eqb u.slot slot) (not (is_copy m u.id)) x in
      let first = and_parts (is_filling u) (eqb u.slot slot) parts.0 in
      true≢false (sym (filling_copy u c first.0 (eqb-true u.slot slot first.1)) ∙ not-true _ parts.1))

  pub none_filling : open_shrink m slot ≡ None → filling_storage m slot ≡ None
  none_filling closed = none_finds (λ u. is_filling u && eqb u.slot slot) m.storages (λ u c x.
      let parts = and_parts (is_filling u) (eqb u.slot slot) x in
      let at = eqb-true u.slot slot parts.1 in
      let g = member (λ (k : Shrink). eqb k.new u.id) m.shrinks (filling_copy u c parts.0 at) in
      let of : g.0.slot ≡ slot = sym (new_slot m h.ids g.0 g.1 u c (sym (eqb-true g.0.new u.id g.2))) ∙ at in
      true≢false (sym (eq-eqb g.0.slot slot of) ∙ none_at (λ (k : Shrink). eqb k.slot slot) m.shrinks g.0 g.1 (not_found (λ (k : Shrink). eqb k.slot slot) m.shrinks closed)))
