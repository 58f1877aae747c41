-- What holds of the two storages between which an open shrink stands.
use Rattle.std.proofs.Common.{◌≡◌, ◌≢◌, ℕ, eqb, not, ◌&&◌, IsTrue, IsFalse, List, All, Contains, Some, None, refl, sym, ap, ◌∙◌, subst, inl, inr, arith}
use Rattle.std.proofs.lemmas.Bool.{true≢false, and_parts, and_from, eqb-true, eq-eqb, not-true, false_from_ne_true}
use Rattle.std.proofs.lemmas.List.Elements.{All-contains}
use Rattle.std.proofs.lemmas.Option.{same_Some}
use Rattle.adb_model.specs.Lists.{among}
use Rattle.adb_model.specs.State.{Storage, Shrink, State}
use Rattle.adb_model.specs.Presence.{is_live, is_named, has_row}
use Rattle.adb_model.specs.Storages.{is_filling, is_copy, storage_with, live_storage, open_shrink}
use Rattle.adb_model.specs.Shrink.{is_current}
use Rattle.adb_model.specs.Sound.{IsSound, SlotFits, RowsFit, CopyFits, last_account}
use Rattle.adb_model.specs.Shrinking.{IsOpenShrink}
use Rattle.adb_model.proofs.Members.{member, any_at}
use Rattle.adb_model.proofs.Pairs.{pairs_at}
use Rattle.adb_model.proofs.Filters.{same_truth}
use Rattle.adb_model.proofs.Ids.{IsIn, one_id, old_of, new_of}
use Rattle.adb_model.proofs.Finds.{none_finds, one_found}
use Rattle.adb_model.proofs.FreshIds.{at_id, with_id_from, filling_unpinned}
use Rattle.adb_model.proofs.Within.{some_counted}
use Rattle.adb_model.proofs.ShrinkAbortKeeps.{is_open}
use Rattle.adb_model.proofs.CopiedRows.{in_use}

-- two storages of a shrink, by its ids
module _ (m : State) (h : IsSound m) (slot : ℕ) (g : Shrink) (c : Contains m.shrinks g) (of : g.slot ≡ slot)
    (old : Storage) (was : IsIn m g.old g.slot old) (filled : IsFalse (is_filling old))
    (copy : Storage) (is : IsIn m g.new g.slot copy) (fills : IsTrue (is_filling copy)) where
  only_filling : (u : Storage) → Contains m.storages u → IsTrue (is_filling u) → u.slot ≡ slot → u ≡ copy
  only_filling u d fill at = elim (pairs_at (λ t u. IsTrue (is_filling t) → IsTrue (is_filling u) → t.slot ≢ u.slot) m.storages u copy h.slots.one_filling d is.there) [
    | inl same ↦ same
    | inr (inl apart) ↦ absurd (apart fill fills (at ∙ sym of ∙ sym is.slot))
    | inr (inr apart) ↦ absurd (apart fills fill (is.slot ∙ of ∙ sym at))
  ]

  only_live : IsTrue (is_live old) → (u : Storage) → Contains m.storages u → IsTrue (is_live u) → u.slot ≡ slot → u ≡ old
  only_live lives u d live at = elim (pairs_at (λ t u. IsTrue (is_live t) → IsTrue (is_live u) → t.slot ≢ u.slot) m.storages u old h.slots.one_live d was.there) [
    | inl same ↦ same
    | inr (inl apart) ↦ absurd (apart live lives (at ∙ sym of ∙ sym was.slot))
    | inr (inr apart) ↦ absurd (apart lives live (was.slot ∙ of ∙ sym at))
  ]

  copied : IsTrue (is_copy m copy.id)
  copied = any_at (λ (k : Shrink). eqb k.new copy.id) m.shrinks g c (eq-eqb g.new copy.id (sym is.id))

  is_live_old : is_current m g ≡ is_live old
  is_live_old = same_truth _ _
      (λ t.
      let a = member (λ u. eqb u.id g.old && is_live u) m.storages t in
      let parts = and_parts (eqb a.0.id g.old) (is_live a.0) a.2 in
      ap is_live (one_id m h.ids old a.0 was.there a.1 (was.id ∙ sym (eqb-true a.0.id g.old parts.0))) ∙ parts.1)
      (λ t. any_at (λ u. eqb u.id g.old && is_live u) m.storages old was.there (and_from _ _ (eq-eqb old.id g.old was.id) t))

  fits : CopyFits m g
  fits = All-contains (CopyFits m) m.shrinks g h.copies c

  row_fits : RowsFit m copy
  row_fits = All-contains (RowsFit m) m.storages copy h.rows is.there

  stands : IsOpenShrink m slot g old copy
  stands = record {
    of_slot = of;
    differ = λ e. true≢false (sym fills ∙ ap is_filling (one_id m h.ids copy old is.there was.there (is.id ∙ sym e ∙ sym was.id)) ∙ filled);
    old_with_id = subst (λ (n : ℕ). storage_with m n ≡ Some old) was.id (at_id m h old was.there);
    copy_with_id = subst (λ (n : ℕ). storage_with m n ≡ Some copy) is.id (at_id m h copy is.there);
    old_slot = was.slot ∙ of;
    copy_slot = is.slot ∙ of;
    filled = filled;
    fills = fills;
    is_copy = copied;
    in_slot = one_found (λ u. is_filling u && eqb u.slot slot) m.storages copy is.there (and_from _ _ fills (eq-eqb copy.slot slot (is.slot ∙ of)))
        (λ u d x. let parts = and_parts (is_filling u) (eqb u.slot slot) x in only_filling u d parts.0 (eqb-true u.slot slot parts.1));
    no_flush = none_finds (λ u. (is_filling u && eqb u.slot slot) && not (is_copy m u.id)) m.storages (λ u d x.
        let parts = and_parts (is_filling u && eqb u.slot slot) (not (is_copy m u.id)) x in
        let first = and_parts (is_filling u) (eqb u.slot slot) parts.0 in
        let same = only_filling u d first.0 (eqb-true u.slot slot first.1) in
        true≢false (sym copied ∙ ap (λ (v : Storage). is_copy m v.id) (sym same) ∙ not-true _ parts.1));
    flushed = subst (λ s. IsTrue (among s m.flushed)) (was.slot ∙ of) ((All-contains (SlotFits m) m.storages old h.slots.storages was.there).settled filled);
    current = is_live_old;
    in_use = λ t.
        let lives = sym is_live_old ∙ t in
        one_found (λ u. is_live u && eqb u.slot slot) m.storages old was.there (and_from _ _ lives (eq-eqb old.slot slot (was.slot ∙ of)))
        (λ u d x. let parts = and_parts (is_live u) (eqb u.slot slot) x in only_live lives u d parts.0 (eqb-true u.slot slot parts.1));
    named = λ k n. All-contains (λ t. t.id ≡ g.new → (k : List ℕ) → IsTrue (is_named m g.slot k) → IsTrue (has_row k t.rows)) m.storages copy fits.named is.there is.id k (subst (λ s. IsTrue (is_named m s k)) (sym of) n);
    within = λ k r.
        All-contains (λ u. u.id ≡ g.old → (k : List ℕ) → IsTrue (has_row k copy.rows) → IsTrue (has_row k u.rows)) m.storages old
        (All-contains (λ t. t.id ≡ g.new → All (λ u. u.id ≡ g.old → (k : List ℕ) → IsTrue (has_row k t.rows) → IsTrue (has_row k u.rows)) m.storages) m.storages copy fits.old is.there is.id) was.there was.id k r;
    last = λ k r. row_fits.last k r ∙ ap (λ (s : ℕ). last_account m s k) (is.slot ∙ of);
    pinned = (let some = some_counted (λ (k : Shrink). eqb k.old g.old) m.shrinks (any_at (λ (k : Shrink). eqb k.old g.old) m.shrinks g c (eq-eqb g.old g.old refl)) in omega (arith, some));
    unpinned = filling_unpinned m h g.new copy (subst (λ (n : ℕ). storage_with m n ≡ Some copy) is.id (at_id m h copy is.there)) fills;
  }

pub between : (m : State) → IsSound m → (slot : ℕ) (g : Shrink) → open_shrink m slot ≡ Some g → (old : Storage) × (copy : Storage) × IsOpenShrink m slot g old copy
between m h slot g e =
    let at = is_open m slot g e in
    let o = old_of m h.ids g at.0 in
    let n = new_of m h.ids g at.0 in
    (o.0, n.0, stands m h slot g at.0 at.1 o.0 o.1 o.2 n.0 n.1 n.2)

pub current_in_use : (m : State) → IsSound m → (slot : ℕ) (g : Shrink) → open_shrink m slot ≡ Some g → (old : Storage) → live_storage m slot ≡ Some old → is_current m g ≡ eqb old.id g.old
current_in_use m h slot g e old live =
    let use_of = in_use m slot old live in
    let b = between m h slot g e in
    same_truth _ _
    (λ t. ap (λ (u : Storage). eqb u.id g.old) (same_Some old b.0 (sym live ∙ b.2.in_use t)) ∙ eq-eqb b.0.id g.old (id_of b.0 b.2.old_with_id))
    (λ t. any_at (λ u. eqb u.id g.old && is_live u) m.storages old use_of.there (and_from _ _ t use_of.live))
  where
    id_of : (u : Storage) → storage_with m g.old ≡ Some u → u.id ≡ g.old
    id_of u f = (with_id_from m h g.old u f).1

pub not_current : (m : State) → IsSound m → (slot : ℕ) (g : Shrink) → open_shrink m slot ≡ Some g → live_storage m slot ≡ None → IsFalse (is_current m g)
not_current m h slot g e none = false_from_ne_true (is_current m g) (λ t. let u = (between m h slot g e).2.in_use t in absurd cc)
