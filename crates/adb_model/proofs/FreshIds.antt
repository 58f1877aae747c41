-- Ids that are not given out yet, and what nothing pins.
use Rattle.std.proofs.Common.{◌≡◌, ℕ, ◌<◌, eqb, not, ◌&&◌, IsTrue, IsFalse, Contains, Option, Some, None, count_by, refl, sym, ap, ◌∙◌, subst, arith, false}
use Rattle.std.specs.Option.{option_map_or}
use Rattle.std.proofs.lemmas.Bool.{true≢false, and_parts, and_from, eqb-true, not-true, eq-eqb}
use Rattle.std.proofs.lemmas.List.Elements.{All-contains}
use Rattle.adb_model.specs.Lists.{among}
use Rattle.adb_model.specs.State.{Pin, Shrink, Snap, Storage, State}
use Rattle.adb_model.specs.Storages.{is_filling, storage_with, pin_count}
use Rattle.adb_model.specs.Sound.{IsSound, ShrinkFits, is_settled}
use Rattle.adb_model.proofs.Members.{member, any_at, found, none_from, among_at}
use Rattle.adb_model.proofs.Pairs.{one_by}
use Rattle.adb_model.proofs.Finds.{none_finds, one_found}
use Rattle.adb_model.proofs.OneChanged.{none_counted}

module _ (m : State) (h : IsSound m) where
  -- a storage is found by its id
  pub at_id : (t : Storage) → Contains m.storages t → storage_with m t.id ≡ Some t
  at_id t c = one_found (λ (u : Storage). eqb u.id t.id) m.storages t c (eq-eqb t.id t.id refl) (λ u d e. one_by (λ (v : Storage). v.id) m.storages u t h.ids.differ d c (eqb-true u.id t.id e))

  pub with_id_from : (id : ℕ) (t : Storage) → storage_with m id ≡ Some t → Contains m.storages t × (t.id ≡ id)
  with_id_from id t e = let f = found (λ (u : Storage). eqb u.id id) m.storages t e in (f.0, eqb-true t.id id f.1)

  pub id_below : (id : ℕ) (t : Storage) → storage_with m id ≡ Some t → id < m.next_id
  id_below id t e =
      let f = with_id_from id t e in
      let below = All-contains (λ (u : Storage). u.id < m.next_id) m.storages t h.ids.below f.0 in
      subst (λ n. n < m.next_id) f.1 below

  next_of_none : (u : Storage) → Contains m.storages u → IsTrue (eqb u.id m.next_id) → ⊥
  next_of_none u c t =
      let below = All-contains (λ (u : Storage). u.id < m.next_id) m.storages u h.ids.below c in
      omega (arith, below, eqb-true u.id m.next_id t)

  pub next_fresh : storage_with m m.next_id ≡ None
  next_fresh = none_finds (λ (u : Storage). eqb u.id m.next_id) m.storages next_of_none

  -- the old storage of a shrink has been filled
  pub old_settled : (g : Shrink) → Contains m.shrinks g → IsTrue (is_settled m g.old)
  old_settled g c =
      let fits : ShrinkFits m g = All-contains (ShrinkFits m) m.shrinks g h.ids.shrinks c in
      let a = member (λ u. (eqb u.id g.old && eqb u.slot g.slot) && not (is_filling u)) m.storages fits.old in
      let parts = and_parts (eqb a.0.id g.old && eqb a.0.slot g.slot) (not (is_filling a.0)) a.2 in
      let first = and_parts (eqb a.0.id g.old) (eqb a.0.slot g.slot) parts.0 in
      any_at (λ u. eqb u.id g.old && not (is_filling u)) m.storages a.0 a.1 (and_from (eqb a.0.id g.old) (not (is_filling a.0)) first.0 parts.1)

  -- what is pinned has been filled
  pub none_pins : (id : ℕ) → IsFalse (is_settled m id) → pin_count m id ≡ 0
  none_pins id un =
      let by_pins = none_counted (λ (p : Pin). eqb p.id id) m.pins (none_from (λ (p : Pin). eqb p.id id) m.pins (λ p c t.
      let settled = All-contains (λ (p : Pin). IsTrue (is_settled m p.id)) m.pins p h.ids.pins c in
      not_settled p.id (eqb-true p.id id t) settled)) in
      let by_shrinks = none_counted (λ (g : Shrink). eqb g.old id) m.shrinks (none_from (λ (g : Shrink). eqb g.old id) m.shrinks (λ g c t. not_settled g.old (eqb-true g.old id t) (old_settled g c))) in
      omega (arith, by_pins, by_shrinks, by_snap m.snap (λ i s. h.ids.snap i s))
    where
      not_settled : (n : ℕ) → n ≡ id → IsTrue (is_settled m n) → ⊥
      not_settled n e t = true≢false (sym (subst (λ n. IsTrue (is_settled m n)) e t) ∙ un)

      by_snap : (o : Option Snap) → ((i : ℕ) → IsTrue (option_map_or (λ n. among i n.ids) o false) → IsTrue (is_settled m i)) → option_map_or (λ n. count_by (λ i. eqb i id) n.ids) o 0 ≡ 0
      by_snap None all = refl
      by_snap (Some n) all = none_counted (λ i. eqb i id) n.ids (none_from (λ i. eqb i id) n.ids (λ i c t. not_settled i (eqb-true i id t) (all i (among_at i n.ids c))))

  pub next_unpinned : pin_count m m.next_id ≡ 0
  next_unpinned = none_pins m.next_id (none_from (λ u. eqb u.id m.next_id && not (is_filling u)) m.storages (λ u c t. next_of_none u c (and_parts (eqb u.id m.next_id) (not (is_filling u)) t).0))

  pub filling_unpinned : (id : ℕ) (t : Storage) → storage_with m id ≡ Some t → IsTrue (is_filling t) → pin_count m id ≡ 0
  filling_unpinned id t e fills = none_pins id (none_from (λ u. eqb u.id id && not (is_filling u)) m.storages (λ u c s.
      let f = with_id_from id t e in
      let parts = and_parts (eqb u.id id) (not (is_filling u)) s in
      let same = one_by (λ (v : Storage). v.id) m.storages u t h.ids.differ c f.0 (eqb-true u.id id parts.0 ∙ sym f.1) in
      true≢false (sym fills ∙ ap is_filling (sym same) ∙ not-true (is_filling u) parts.1)))
