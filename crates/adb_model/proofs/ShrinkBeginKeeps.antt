-- The begin of a shrink keeps a sound state sound.
use Rattle.std.proofs.Common.{◌≡◌, ◌≢◌, ℕ, ◌+◌, ◌<◌, ◌≤◌, eqb, ltb, leb, not, ◌&&◌, IsTrue, List, [], ◌∷◌, ◌++◌, length, get_or, All, Contains, Some, None, refl, sym, ap, ◌∙◌, inl, inr}
use Rattle.std.specs.List.{AllByRecursion}
use Rattle.std.proofs.lemmas.Bool.{true≢false, and_parts, and_from, or_right, eqb-true, eq-eqb, ne_eqb, ltb-false, leb-false, not_from_false}
use Rattle.std.proofs.lemmas.List.Quantifiers.{all_pairs_push}
use Rattle.std.proofs.lemmas.List.Elements.{All-push, Contains-get_or, All-contains}
use Rattle.adb_model.specs.Lists.{among}
use Rattle.adb_model.specs.State.{Storage, Shrink, State}
use Rattle.adb_model.specs.Presence.{is_live, is_named, has_row}
use Rattle.adb_model.specs.Storages.{is_filling, is_copy, open_shrink, live_storage, used, bytes_of}
use Rattle.adb_model.specs.Call.{NoStorage, Shrinking, Full, NoCell}
use Rattle.adb_model.specs.Shrink.{shrink_rows, shrinking, shrink_begin_refusals, shrink_begin_step}
use Rattle.adb_model.specs.Gone.{IsGone}
use Rattle.adb_model.specs.Sound.{IsSound, SlotFits, RowsFit, CopyFits, ShrinkFits}
use Rattle.adb_model.proofs.Members.{member, any_at, none_at, any_append_left, any_push, any_push_other, not_found, found}
use Rattle.adb_model.proofs.Pairs.{pairs_at}
use Rattle.adb_model.proofs.Outcomes.{through_unless, through_found, not_refused, none_of, nothing_mapped}
use Rattle.adb_model.proofs.Phases.{live_filled}
use Rattle.adb_model.proofs.Ids.{one_id, new_slot}
use Rattle.adb_model.proofs.ShrinkRows.{row_from, row_into, last_same}
use Rattle.adb_model.proofs.FillingAdded as added
use Rattle.adb_model.proofs.FillingAdded.{filling}

-- what a begin of a shrink goes by
pub record MayShrink (m : State) (old : Storage) : Type 0 where
  pub there : Contains m.storages old
  pub live : IsTrue (is_live old)
  pub closed : open_shrink m old.slot ≡ None
  pub fits : used m + bytes_of (shrink_rows m old) ≤ m.budget
  pub cell : length m.storages < 1048576

pub may_shrink : (m : State) (slot : ℕ) (old : Storage) → live_storage m slot ≡ Some old → AllByRecursion (λ r. r ≡ None) (shrink_begin_refusals m slot old) → MayShrink m old
may_shrink m slot old e none =
    let f = found (λ u. is_live u && eqb u.slot slot) m.storages old e in
    let parts = and_parts (is_live old) (eqb old.slot slot) f.1 in
    record {
      there = f.0;
      live = parts.0;
      closed = ap (λ (n : ℕ). open_shrink m n) (eqb-true old.slot slot parts.1) ∙ nothing_mapped (λ h. Shrinking slot h.new) (open_shrink m slot) none.0;
      fits = ltb-false m.budget _ (not_refused (ltb m.budget (used m + bytes_of (shrink_rows m old))) (Full (used m) (bytes_of (shrink_rows m old)) m.budget) none.1.1.0);
      cell = leb-false 1048576 (length m.storages) (not_refused (leb 1048576 (length m.storages)) (NoCell 1048576) none.1.1.1.0);
    }

module _ (m : State) (old : Storage) (h : IsSound m) (may : MayShrink m old) where
  abbrev new : Storage
  new = filling m old.slot (shrink_rows m old)

  abbrev entry : Shrink
  entry = record { slot = old.slot; old = old.id; new = m.next_id }

  pub flushed : IsTrue (among old.slot m.flushed)
  flushed = (All-contains (SlotFits m) m.storages old h.slots.storages may.there).settled (live_filled old may.live)

  -- no shrink is of the slot
  no_shrink : (g : Shrink) → Contains m.shrinks g → g.slot ≢ old.slot
  no_shrink g c e = true≢false (sym (eq-eqb g.slot old.slot e) ∙ none_at (λ (k : Shrink). eqb k.slot old.slot) m.shrinks g c (not_found (λ (k : Shrink). eqb k.slot old.slot) m.shrinks may.closed))

  -- so no storage of the slot is being filled
  no_filling : (u : Storage) → Contains m.storages u → IsTrue (is_filling u) → u.slot ≢ old.slot
  no_filling u c fill e =
      let fits : SlotFits m u = All-contains (SlotFits m) m.storages u h.slots.storages c in
      let copy : IsTrue (is_copy m u.id) = sym (fits.copied fill) ∙ ap (λ (n : ℕ). among n m.flushed) e ∙ flushed in
      let g = member (λ k. eqb k.new u.id) m.shrinks copy in
      no_shrink g.0 g.1 (sym (new_slot m h.ids g.0 g.1 u c (sym (eqb-true g.0.new u.id g.2))) ∙ e)

  slot_fits : (u : Storage) → u.id ≢ m.next_id → SlotFits m u → SlotFits (shrinking m old) u
  slot_fits u ne fits = record {
    settled = fits.settled;
    rooted = fits.rooted;
    copied = λ f. fits.copied f ∙ sym (any_push_other (λ k. eqb k.new u.id) m.shrinks entry (ne_eqb m.next_id u.id (λ e. ne (sym e))));
  }

  new_fits : SlotFits (shrinking m old) new
  new_fits = record {
    settled = λ f. absurd (true≢false f);
    rooted = λ f. h.slots.roots old.slot flushed;
    copied = λ f. flushed ∙ sym (any_push (λ k. eqb k.new m.next_id) m.shrinks entry ∙ or_right _ _ (eq-eqb m.next_id m.next_id refl));
  }

  rows_fit : RowsFit (shrinking m old) new
  rows_fit =
      let fits : RowsFit m old = All-contains (RowsFit m) m.storages old h.rows may.there in
      record {
        stored = λ k r. fits.stored k (row_from m old k r).0;
        last = λ k r. let from = row_from m old k r in last_same m old k from.1 ∙ fits.last k from.0;
        some = λ f u. absurd (true≢false (sym flushed ∙ u));
        whole = λ f u. absurd (true≢false (sym flushed ∙ u));
      }

  -- a key that is named in the slot has a row in the old storage
  named_row : (k : List ℕ) → IsTrue (is_named m old.slot k) → IsTrue (has_row k old.rows)
  named_row k n =
      let a = member (λ u. (is_live u && eqb u.slot old.slot) && has_row k u.rows) m.storages (h.names.held old.slot k n) in
      let parts = and_parts _ _ a.2 in
      let first = and_parts _ _ parts.0 in
      let slot = eqb-true a.0.slot old.slot first.1 in
      elim (pairs_at (λ t u. IsTrue (is_live t) → IsTrue (is_live u) → t.slot ≢ u.slot) m.storages a.0 old h.slots.one_live a.1 may.there) [
        | inl same ↦ ap (λ (u : Storage). has_row k u.rows) (sym same) ∙ parts.1
        | inr (inl apart) ↦ absurd (apart first.0 may.live slot)
        | inr (inr apart) ↦ absurd (apart may.live first.0 (sym slot))
      ]

  entry_fits : ShrinkFits (shrinking m old) entry
  entry_fits = record {
    old = any_append_left (λ t. (eqb t.id old.id && eqb t.slot old.slot) && not (is_filling t)) m.storages (new ∷ [])
        (any_at (λ t. (eqb t.id old.id && eqb t.slot old.slot) && not (is_filling t)) m.storages old may.there
        (and_from _ _ (and_from _ _ (eq-eqb old.id old.id refl) (eq-eqb old.slot old.slot refl)) (not_from_false _ (live_filled old may.live))));
    new = any_push (λ t. (eqb t.id m.next_id && eqb t.slot old.slot) && is_filling t) m.storages new
        ∙ or_right _ _ (and_from _ _ (and_from _ _ (eq-eqb m.next_id m.next_id refl) (eq-eqb old.slot old.slot refl)) refl);
  }

  copy_fits : CopyFits (shrinking m old) entry
  copy_fits = record {
    named = All-push (λ t. t.id ≡ m.next_id → (k : List ℕ) → IsTrue (is_named m old.slot k) → IsTrue (has_row k t.rows)) m.storages new
        (λ i d lt e. absurd (added.fresh_id m old.slot (shrink_rows m old) h i d lt e))
        (λ e k n. row_into m old k (named_row k n) n);
    old = All-push (λ t. t.id ≡ m.next_id → All (λ u. u.id ≡ old.id → (k : List ℕ) → IsTrue (has_row k t.rows) → IsTrue (has_row k u.rows)) (m.storages ++ new ∷ [])) m.storages new
        (λ i d lt e. absurd (added.fresh_id m old.slot (shrink_rows m old) h i d lt e))
        (λ e. All-push (λ u. u.id ≡ old.id → (k : List ℕ) → IsTrue (has_row k (shrink_rows m old)) → IsTrue (has_row k u.rows)) m.storages new
        (λ i d lt f k r. ap (λ (u : Storage). has_row k u.rows) (one_id m h.ids (get_or m.storages i d) old (Contains-get_or m.storages i d lt) may.there f) ∙ (row_from m old k r).0)
        (λ f k r. r));
  }

  gone_kept : (s : ℕ) (k : List ℕ) → IsGone m s k → IsGone (shrinking m old) s k
  gone_kept s k (inl c) = inl c
  gone_kept s k (inr b) = inr (record { tomb = b.tomb; upto = b.upto; lowest = λ q lt. let low = b.lowest q lt in (low.0, added.held_same m old.slot (shrink_rows m old) h q k ∙ low.1) })

  begun : IsSound (shrinking m old)
  begun = record {
    limits = added.limits_kept m old.slot (shrink_rows m old) h may.fits may.cell;
    slots = record {
      roots = h.slots.roots;
      named = h.slots.named;
      storages = All-push (SlotFits (shrinking m old)) m.storages new (λ k d lt. slot_fits (get_or m.storages k d) (added.fresh_id m old.slot (shrink_rows m old) h k d lt) (h.slots.storages k d lt)) new_fits;
      one_live = all_pairs_push (λ t u. IsTrue (is_live t) → IsTrue (is_live u) → t.slot ≢ u.slot) m.storages new h.slots.one_live (λ k d lt a b. absurd (true≢false (sym b)));
      one_filling = all_pairs_push (λ t u. IsTrue (is_filling t) → IsTrue (is_filling u) → t.slot ≢ u.slot) m.storages new h.slots.one_filling (λ k d lt a b. no_filling (get_or m.storages k d) (Contains-get_or m.storages k d lt) a);
    };
    ids = record {
      differ = added.ids_differ m old.slot (shrink_rows m old) h;
      below = added.ids_below m old.slot (shrink_rows m old) h;
      one_shrink = all_pairs_push (λ a b. a.slot ≢ b.slot) m.shrinks entry h.ids.one_shrink (λ k d lt. no_shrink (get_or m.shrinks k d) (Contains-get_or m.shrinks k d lt));
      shrinks = All-push (ShrinkFits (shrinking m old)) m.shrinks entry (λ k d lt. added.shrink_kept m old.slot (shrink_rows m old) h (get_or m.shrinks k d) (h.ids.shrinks k d lt)) entry_fits;
      pins = λ k d lt. added.settled_kept m old.slot (shrink_rows m old) h _ (h.ids.pins k d lt);
      snap = λ id i. added.settled_kept m old.slot (shrink_rows m old) h id (h.ids.snap id i);
    };
    rows = All-push (RowsFit (shrinking m old)) m.storages new h.rows rows_fit;
    names = added.names_kept m old.slot (shrink_rows m old) h;
    copies = All-push (CopyFits (shrinking m old)) m.shrinks entry
        (λ k d lt.
        let below = added.new_below m old.slot (shrink_rows m old) h (get_or m.shrinks k d) (h.ids.shrinks k d lt) in
        added.copy_kept m old.slot (shrink_rows m old) h (get_or m.shrinks k d) below.0 below.1 (h.copies k d lt))
        copy_fits;
    gone = λ s k st f u. gone_kept s k (h.gone s k st f u);
  }

pub shrink_begin_keeps : (m : State) (slot : ℕ) → IsSound m → IsSound (shrink_begin_step m slot).0
shrink_begin_keeps m slot h =
    through_found IsSound (live_storage m slot) (NoStorage slot) m _ h (λ old e.
    through_unless IsSound _ m _ h (λ free. begun m old h (may_shrink m slot old e (none_of (shrink_begin_refusals m slot old) free))))
