-- What holds of the storage that a flush is filling.
use Rattle.std.proofs.Common.{◌≡◌, ℕ, eqb, ◌&&◌, IsTrue, Contains, Some, refl, sym, ap, ◌∙◌, subst, inl, inr}
use Rattle.std.proofs.lemmas.Bool.{true≢false, and_parts, and_from, eqb-true, eq-eqb, cases_eq}
use Rattle.std.proofs.lemmas.List.Elements.{All-contains}
use Rattle.adb_model.specs.Lists.{among}
use Rattle.adb_model.specs.State.{Storage, Pair, State}
use Rattle.adb_model.specs.Presence.{is_live, has_row, is_pair}
use Rattle.adb_model.specs.Storages.{is_filling, open_flush}
use Rattle.adb_model.specs.Shrink.{named_in}
use Rattle.adb_model.specs.Sound.{IsSound, SlotFits, RowsFit}
use Rattle.adb_model.specs.Laws.{IsOpenFlush}
use Rattle.adb_model.proofs.Members.{any_at, none_from}
use Rattle.adb_model.proofs.Filters.{same_truth}
use Rattle.adb_model.proofs.Distinct.{bytes_eq_self}
use Rattle.adb_model.proofs.Phases.{live_filled}
use Rattle.adb_model.proofs.PairsFollow.{no_names}
use Rattle.adb_model.proofs.Finds.{none_finds, one_found}
use Rattle.adb_model.proofs.OneChanged.{none_counted}
use Rattle.adb_model.proofs.FreshIds.{at_id}
use Rattle.adb_model.proofs.FlushEndKeeps.{IsOpen, opened, one, other_slot}

module _ (m : State) (t : Storage) (h : IsSound m) (is : IsOpen m t) where
  -- its slot has no other storage that is being filled
  pub only_filling : (u : Storage) → Contains m.storages u → IsTrue (is_filling u) → u.slot ≡ t.slot → u ≡ t
  only_filling u c fill e = elim (cases_eq u.id t.id) [ inl same ↦ one m t h is u c same | inr ne ↦ absurd (other_slot m t h is u c ne fill e) ]

  -- and none in use
  pub none_live : (u : Storage) → Contains m.storages u → IsTrue (is_live u) → u.slot ≡ t.slot → ⊥
  none_live u c live e =
      let fits : SlotFits m u = All-contains (SlotFits m) m.storages u h.slots.storages c in
      true≢false (sym (fits.settled (live_filled u live)) ∙ ap (λ (n : ℕ). among n m.flushed) e ∙ is.unflushed)

  none_named_in : named_in m t.slot ≡ 0
  none_named_in = none_counted (λ (p : Pair). eqb p.slot t.slot) m.named (none_from (λ (p : Pair). eqb p.slot t.slot) m.named (λ p c e.
      let named = any_at (is_pair t.slot p.key) m.named p c (and_from _ _ e (bytes_eq_self p.key)) in
      true≢false (sym named ∙ no_names m h t.slot is.unflushed p.key)))

  facts : IsOpenFlush m t.slot t
  facts =
      let fits : RowsFit m t = All-contains (RowsFit m) m.storages t h.rows is.there in
      record {
        of_slot = refl;
        fills = is.fills;
        no_copy = is.no_copy;
        with_id = at_id m h t is.there;
        in_slot = one_found (λ u. is_filling u && eqb u.slot t.slot) m.storages t is.there (and_from _ _ is.fills (eq-eqb t.slot t.slot refl))
            (λ u c p. let parts = and_parts (is_filling u) (eqb u.slot t.slot) p in only_filling u c parts.0 (eqb-true u.slot t.slot parts.1));
        root = is.root;
        unflushed = is.unflushed;
        live = none_finds (λ u. is_live u && eqb u.slot t.slot) m.storages
            (λ u c p. let parts = and_parts (is_live u) (eqb u.slot t.slot) p in none_live u c parts.0 (eqb-true u.slot t.slot parts.1));
        held = λ k. none_from (λ u. (is_live u && eqb u.slot t.slot) && has_row k u.rows) m.storages
            (λ u c p. let parts = and_parts (is_live u) (eqb u.slot t.slot) (and_parts _ _ p).0 in none_live u c parts.0 (eqb-true u.slot t.slot parts.1));
        named = no_names m h t.slot is.unflushed;
        none_named = none_named_in;
        stored = λ k. same_truth _ _ (fits.stored k) (fits.whole is.fills is.unflushed k);
        some = fits.some is.fills is.unflushed;
        last = fits.last;
      }

pub open_flush_is : (m : State) → IsSound m → (slot : ℕ) (t : Storage) → open_flush m slot ≡ Some t → IsOpenFlush m slot t
open_flush_is m h slot t e = let o = opened m slot t h e in subst (λ s. IsOpenFlush m s t) o.1 (facts m t h o.0)
