-- A slot's only storage in use, whose rows' keys are held, and its only one that is being filled.
use Rattle.std.proofs.Common.{◌≡◌, ◌≢◌, ℕ, eqb, ◌&&◌, IsTrue, List, Contains, Option, Some, None, false, refl, sym, ap, ◌∙◌, inl, inr}
use Rattle.std.specs.Option.{option_map_or}
use Rattle.std.proofs.lemmas.Bool.{true≢false, and_parts, and_from, eqb-true, eq-eqb}
use Rattle.adb_model.specs.State.{Storage, State}
use Rattle.adb_model.specs.Presence.{is_held, is_live, has_row}
use Rattle.adb_model.specs.Storages.{is_filling, live_storage, filling_storage}
use Rattle.adb_model.specs.Sound.{IsSound}
use Rattle.adb_model.proofs.Members.{member, any_at, none_at, none_from, found, not_found}
use Rattle.adb_model.proofs.Pairs.{pairs_at}
use Rattle.adb_model.proofs.Filters.{same_truth}
use Rattle.adb_model.proofs.CopiedRows.{in_use}

module _ (m : State) (h : IsSound m) (s : ℕ) where
  -- it is the only one in use
  pub only_in_use : (t u : Storage) → live_storage m s ≡ Some t → Contains m.storages u → IsTrue (is_live u) → u.slot ≡ s → u ≡ t
  only_in_use t u e c live at =
      let is = in_use m s t e in
      elim (pairs_at (λ t u. IsTrue (is_live t) → IsTrue (is_live u) → t.slot ≢ u.slot) m.storages u t h.slots.one_live c is.there) [
        | inl same ↦ same
        | inr (inl apart) ↦ absurd (apart live is.live (at ∙ sym is.at))
        | inr (inr apart) ↦ absurd (apart is.live live (is.at ∙ sym at))
      ]

  -- and so is the one that is being filled
  pub only_filling : (t u : Storage) → filling_storage m s ≡ Some t → Contains m.storages u → IsTrue (is_filling u) → u.slot ≡ s → u ≡ t
  only_filling t u e c fill at =
      let f = found (λ v. is_filling v && eqb v.slot s) m.storages t e in
      let parts = and_parts (is_filling t) (eqb t.slot s) f.1 in
      elim (pairs_at (λ t u. IsTrue (is_filling t) → IsTrue (is_filling u) → t.slot ≢ u.slot) m.storages u t h.slots.one_filling c f.0) [
        | inl same ↦ same
        | inr (inl apart) ↦ absurd (apart fill parts.0 (at ∙ sym (eqb-true t.slot s parts.1)))
        | inr (inr apart) ↦ absurd (apart parts.0 fill (eqb-true t.slot s parts.1 ∙ sym at))
      ]

  pub held_in_use : (k : List ℕ) → is_held m s k ≡ option_map_or (λ t. has_row k t.rows) (live_storage m s) false
  held_in_use k = by (live_storage m s) refl
    where
      by : (o : Option Storage) → live_storage m s ≡ o → is_held m s k ≡ option_map_or (λ t. has_row k t.rows) o false
      by None e = none_from (λ u. (is_live u && eqb u.slot s) && has_row k u.rows) m.storages (λ u c x.
          true≢false (sym (and_parts _ _ x).0 ∙ none_at (λ u. is_live u && eqb u.slot s) m.storages u c (not_found (λ u. is_live u && eqb u.slot s) m.storages e)))
      by (Some t) e =
          let is = in_use m s t e in
          same_truth _ _
          (λ held.
          let a = member (λ u. (is_live u && eqb u.slot s) && has_row k u.rows) m.storages held in
          let parts = and_parts (is_live a.0 && eqb a.0.slot s) (has_row k a.0.rows) a.2 in
          let first = and_parts (is_live a.0) (eqb a.0.slot s) parts.0 in
          ap (λ (u : Storage). has_row k u.rows) (sym (only_in_use t a.0 e a.1 first.0 (eqb-true a.0.slot s first.1))) ∙ parts.1)
          (λ row. any_at (λ u. (is_live u && eqb u.slot s) && has_row k u.rows) m.storages t is.there (and_from _ _ (and_from _ _ is.live (eq-eqb t.slot s is.at)) row))
