-- The abort of a flush keeps a sound state sound.
use Rattle.std.proofs.Common.{◌≡◌, ℕ, eqb, Bool, not, ◌&&◌, IsTrue, IsFalse, filter, Contains, refl, sym, ap, ◌∙◌, inl, inr}
use Rattle.std.proofs.lemmas.Bool.{true≢false, cases_Bool, and_parts, eqb-true, eq-eqb, not_from_false, not-true}
use Rattle.std.proofs.lemmas.List.Elements.{All-contains}
use Rattle.adb_model.specs.State.{Storage, Shrink, State}
use Rattle.adb_model.specs.Storages.{is_filling, open_flush}
use Rattle.adb_model.specs.Call.{NotFlushing}
use Rattle.adb_model.specs.Flush.{flush_abort_step}
use Rattle.adb_model.specs.Sound.{IsSound, ShrinkFits}
use Rattle.adb_model.proofs.Members.{member, any_at}
use Rattle.adb_model.proofs.Pairs.{one_by}
use Rattle.adb_model.proofs.Outcomes.{through_found}
use Rattle.adb_model.proofs.Phases.{live_filled}
use Rattle.adb_model.proofs.FlushEndKeeps.{IsOpen, opened}
use Rattle.adb_model.proofs.StoragesLeave.{storages_left}

module _ (m : State) (t : Storage) (h : IsSound m) (is : IsOpen m t) where
  abbrev keep : Storage → Bool
  keep u = not (eqb u.id t.id)

  -- a storage that differs from this one stays
  stays : (u : Storage) → (u.id ≡ t.id → ⊥) → IsTrue (keep u)
  stays u ne = elim (cases_Bool (eqb u.id t.id)) [ inl e ↦ absurd (ne (eqb-true u.id t.id e)) | inr f ↦ not_from_false _ f ]

  filled_stays : (u : Storage) → Contains m.storages u → IsFalse (is_filling u) → IsTrue (keep u)
  filled_stays u c settled = stays u (λ e. true≢false (sym (ap is_filling (one_by (λ (v : Storage). v.id) m.storages u t h.ids.differ c is.there e) ∙ is.fills) ∙ settled))

  -- the old storage of a shrink is filled, and the new one is a copy
  old_other : (g : Shrink) → Contains m.shrinks g → t.id ≡ g.old → ⊥
  old_other g c e =
      let fits : ShrinkFits m g = All-contains (ShrinkFits m) m.shrinks g h.ids.shrinks c in
      let a = member (λ u. (eqb u.id g.old && eqb u.slot g.slot) && not (is_filling u)) m.storages fits.old in
      let parts = and_parts _ _ a.2 in
      let id = eqb-true a.0.id g.old (and_parts _ _ parts.0).0 in
      true≢false (sym (ap is_filling (one_by (λ (v : Storage). v.id) m.storages a.0 t h.ids.differ a.1 is.there (id ∙ sym e)) ∙ is.fills) ∙ not-true _ parts.1)

  new_other : (g : Shrink) → Contains m.shrinks g → t.id ≡ g.new → ⊥
  new_other g c e = true≢false (sym (any_at (λ f. eqb f.new t.id) m.shrinks g c (eq-eqb g.new t.id (sym e))) ∙ is.no_copy)

  aborted : IsSound (record m { storages = filter keep m.storages })
  aborted = storages_left m keep m.shrinks (record {
    live = λ u c live. filled_stays u c (live_filled u live);
    pins = λ u c settled p. filled_stays u c settled;
    snap = λ u c settled p. filled_stays u c settled;
    old = λ g c u d e. stays u (λ f. old_other g c (sym f ∙ e));
    new = λ g c u d e. stays u (λ f. new_other g c (sym f ∙ e));
    fewer = λ g c. c;
    one_shrink = h.ids.one_shrink;
    copies = λ u c k f. refl;
  }) h

pub flush_abort_keeps : (m : State) (slot : ℕ) → IsSound m → IsSound (flush_abort_step m slot).0
flush_abort_keeps m slot h = through_found IsSound (open_flush m slot) (NotFlushing slot) m _ h (λ t e. aborted m t h (opened m slot t h e).0)
