-- A slot's storage in use.
use Rattle.std.proofs.Common.{◌≡◌, ◌≢◌, ℕ, eqb, ◌&&◌, IsTrue, List, Contains, Some, refl, sym, ◌∙◌, inl, inr, subst}
use Rattle.std.proofs.lemmas.Bool.{and_parts, and_from, eqb-true, eq-eqb}
use Rattle.adb_model.specs.State.{Storage, State}
use Rattle.adb_model.specs.Presence.{is_held, is_live, has_row}
use Rattle.adb_model.specs.Storages.{live_storage, storage_with}
use Rattle.adb_model.specs.Sound.{IsSoundMidway}
use Rattle.adb_model.proofs.Members.{member, any_at, found}
use Rattle.adb_model.proofs.Pairs.{pairs_at, one_by}
use Rattle.adb_model.proofs.Filters.{same_truth}
use Rattle.adb_model.proofs.Finds.{one_found}

module _ (m : State) (s : ℕ) (t : Storage) (e : live_storage m s ≡ Some t) where
  passes : IsTrue (is_live t && eqb t.slot s)
  passes = (found (λ u. is_live u && eqb u.slot s) m.storages t e).1

  pub live_there : Contains m.storages t
  live_there = (found (λ u. is_live u && eqb u.slot s) m.storages t e).0

  pub of_slot : t.slot ≡ s
  of_slot = eqb-true t.slot s (and_parts (is_live t) (eqb t.slot s) passes).1

  pub in_use : IsTrue (is_live t)
  in_use = (and_parts (is_live t) (eqb t.slot s) passes).0

module _ (m : State) (h : IsSoundMidway m) where
  -- an id is of one storage
  pub only_id : (u t : Storage) → Contains m.storages u → Contains m.storages t → u.id ≡ t.id → u ≡ t
  only_id u t c d same = one_by (λ (v : Storage). v.id) m.storages u t h.ids.differ c d same

  -- and a slot has one Live storage
  pub only_live : (u t : Storage) → Contains m.storages u → Contains m.storages t → IsTrue (is_live u) → IsTrue (is_live t) → u.slot ≡ t.slot → u ≡ t
  only_live u t c d live in_use same = elim (pairs_at (λ a b. IsTrue (is_live a) → IsTrue (is_live b) → a.slot ≢ b.slot) m.storages u t h.slots.one_live c d) [
    | inl one ↦ one
    | inr (inl apart) ↦ absurd (apart live in_use same)
    | inr (inr apart) ↦ absurd (apart in_use live (sym same))
  ]

  -- so it is what its slot leads to
  pub live_found : (t : Storage) → Contains m.storages t → IsTrue (is_live t) → live_storage m t.slot ≡ Some t
  live_found t c live = one_found (λ u. is_live u && eqb u.slot t.slot) m.storages t c (and_from _ _ live (eq-eqb t.slot t.slot refl)) (λ u d x.
      let parts = and_parts (is_live u) (eqb u.slot t.slot) x in
      only_live u t d c parts.0 live (eqb-true u.slot t.slot parts.1))

  module _ (s : ℕ) (t : Storage) (e : live_storage m s ≡ Some t) where
    there : Contains m.storages t
    there = live_there m s t e

    pub with_own_id : storage_with m t.id ≡ Some t
    with_own_id = one_found (λ (u : Storage). eqb u.id t.id) m.storages t there (eq-eqb t.id t.id refl) (λ u c x. only_id u t c there (eqb-true u.id t.id x))

    pub rows_held : (k : List ℕ) → is_held m s k ≡ has_row k t.rows
    rows_held k =
        same_truth _ _
        (λ held.
        let a = member (λ u. (is_live u && eqb u.slot s) && has_row k u.rows) m.storages held in
        let parts = and_parts (is_live a.0 && eqb a.0.slot s) (has_row k a.0.rows) a.2 in
        let first = and_parts (is_live a.0) (eqb a.0.slot s) parts.0 in
        let one = only_live a.0 t a.1 there first.0 (in_use m s t e) (eqb-true a.0.slot s first.1 ∙ sym (of_slot m s t e)) in
        subst (λ (u : Storage). IsTrue (has_row k u.rows)) one parts.1)
        (λ row. any_at (λ u. (is_live u && eqb u.slot s) && has_row k u.rows) m.storages t there (and_from _ _ (passes m s t e) row))
