-- The begin of a flush keeps a sound state sound.
use Rattle.std.proofs.Common.{◌≡◌, ◌≢◌, ℕ, ◌+◌, ◌<◌, ◌≤◌, eqb, ltb, leb, not, ◌&&◌, IsTrue, IsFalse, List, length, get_or, All, None, sym, ap, ◌∙◌, inl, inr}
use Rattle.std.specs.List.{AllByRecursion}
use Rattle.std.proofs.lemmas.Bool.{true≢false, and_parts, and_from, eq-eqb, ltb-false, leb-false, not-false, not-true, not_from_false}
use Rattle.std.proofs.lemmas.List.Quantifiers.{all_pairs_push}
use Rattle.std.proofs.lemmas.List.Elements.{All-push, Contains-get_or}
use Rattle.adb_model.specs.Lists.{among}
use Rattle.adb_model.specs.State.{Storage, State}
use Rattle.adb_model.specs.Presence.{is_live}
use Rattle.adb_model.specs.Storages.{is_filling, is_copy, open_flush, used, bytes_of}
use Rattle.adb_model.specs.Call.{NotRooted, NothingCached, Flushing, Full, NoCell}
use Rattle.adb_model.specs.Flush.{flush_rows, has_cached_key, with_filling, flush_begin_refusals, flush_begin_step}
use Rattle.adb_model.specs.Gone.{IsGone}
use Rattle.adb_model.specs.Sound.{IsSound, SlotFits, RowsFit}
use Rattle.adb_model.proofs.Members.{none_at, not_found}
use Rattle.adb_model.proofs.Outcomes.{through_unless, not_refused, none_of, nothing_mapped}
use Rattle.adb_model.proofs.FlushRows.{flush_rows_fit, some_row}
use Rattle.adb_model.proofs.FillingAdded as added
use Rattle.adb_model.proofs.FillingAdded.{filling}

-- what a begin of a flush goes by
pub record MayFlush (m : State) (slot : ℕ) : Type 0 where
  pub root : IsTrue (among slot m.roots)
  pub cached : IsTrue (has_cached_key m slot)
  pub closed : open_flush m slot ≡ None
  pub fits : used m + bytes_of (flush_rows m slot) ≤ m.budget
  pub cell : length m.storages < 1048576

may_flush : (m : State) (slot : ℕ) → AllByRecursion (λ r. r ≡ None) (flush_begin_refusals m slot) → MayFlush m slot
may_flush m slot none = record {
  root = not-false _ (not_refused (not (among slot m.roots)) (NotRooted slot) none.0);
  cached = not-false _ (not_refused (not (has_cached_key m slot)) (NothingCached slot) none.1.0);
  closed = nothing_mapped (λ t. Flushing slot t.id) (open_flush m slot) none.1.1.0;
  fits = ltb-false m.budget _ (not_refused (ltb m.budget (used m + bytes_of (flush_rows m slot))) (Full (used m) (bytes_of (flush_rows m slot)) m.budget) none.1.1.1.0);
  cell = leb-false 1048576 (length m.storages) (not_refused (leb 1048576 (length m.storages)) (NoCell 1048576) none.1.1.1.1.0);
}

-- the slot has no storage that is being filled
pub no_filling : (m : State) (slot : ℕ) → IsSound m → IsFalse (among slot m.flushed) → open_flush m slot ≡ None → All (λ t. IsTrue (is_filling t) → t.slot ≢ slot) m.storages
no_filling m slot h unflushed closed k d lt fill e =
    let t : Storage = get_or m.storages k d in
    let fits : SlotFits m t = h.slots.storages k d lt in
    let none = none_at (λ u. (is_filling u && eqb u.slot slot) && not (is_copy m u.id)) m.storages t (Contains-get_or m.storages k d lt) (not_found (λ u. (is_filling u && eqb u.slot slot) && not (is_copy m u.id)) m.storages closed) in
    let no_copy : IsFalse (is_copy m t.id) = sym (fits.copied fill) ∙ ap (λ (n : ℕ). among n m.flushed) e ∙ unflushed in
    true≢false (sym (and_from _ _ (and_from _ _ fill (eq-eqb t.slot slot e)) (not_from_false _ no_copy)) ∙ none)

begun : (m : State) (slot : ℕ) → MayFlush m slot → IsSound m → IsSound (with_filling m slot (flush_rows m slot))
begun m slot may h =
    let rows = flush_rows m slot in
    let new = filling m slot rows in
    let unflushed : IsFalse (among slot m.flushed) = not-true _ (and_parts _ (not (among slot m.flushed)) may.cached).1 in
    let fit = flush_rows_fit m slot in
    let none = no_filling m slot h unflushed may.closed in
    record {
      limits = added.limits_kept m slot rows h may.fits may.cell;
      slots = record {
        roots = h.slots.roots;
        named = h.slots.named;
        storages = All-push (SlotFits m) m.storages new h.slots.storages
            (record { settled = λ f. absurd (true≢false f); rooted = λ f. may.root; copied = λ f. unflushed ∙ sym (added.not_copy m slot rows h) });
        one_live = all_pairs_push (λ t u. IsTrue (is_live t) → IsTrue (is_live u) → t.slot ≢ u.slot) m.storages new h.slots.one_live (λ k d lt a b. absurd (true≢false (sym b)));
        one_filling = all_pairs_push (λ t u. IsTrue (is_filling t) → IsTrue (is_filling u) → t.slot ≢ u.slot) m.storages new h.slots.one_filling (λ k d lt a b. none k d lt a);
      };
      ids = record {
        differ = added.ids_differ m slot rows h;
        below = added.ids_below m slot rows h;
        one_shrink = h.ids.one_shrink;
        shrinks = λ k d lt. added.shrink_kept m slot rows h (get_or m.shrinks k d) (h.ids.shrinks k d lt);
        pins = λ k d lt. added.settled_kept m slot rows h _ (h.ids.pins k d lt);
        snap = λ id i. added.settled_kept m slot rows h id (h.ids.snap id i);
      };
      rows = All-push (RowsFit m) m.storages new h.rows
          (record { stored = fit.stored; last = fit.last; some = λ f u. some_row m slot may.cached; whole = λ f u. fit.whole });
      names = added.names_kept m slot rows h;
      copies = λ k d lt.
          let below = added.new_below m slot rows h (get_or m.shrinks k d) (h.ids.shrinks k d lt) in
          added.copy_kept m slot rows h (get_or m.shrinks k d) below.0 below.1 (h.copies k d lt);
      gone = λ s k st f u. gone_kept s k (h.gone s k st f u);
    }
  where
    gone_kept : (s : ℕ) (k : List ℕ) → IsGone m s k → IsGone (with_filling m slot (flush_rows m slot)) s k
    gone_kept s k (inl c) = inl c
    gone_kept s k (inr b) = inr (record { tomb = b.tomb; upto = b.upto; lowest = λ q lt. let low = b.lowest q lt in (low.0, added.held_same m slot (flush_rows m slot) h q k ∙ low.1) })

pub flush_begin_keeps : (m : State) (slot : ℕ) → IsSound m → IsSound (flush_begin_step m slot).0
flush_begin_keeps m slot h = through_unless IsSound _ m _ h (λ free. begun m slot (may_flush m slot (none_of (flush_begin_refusals m slot) free)) h)
