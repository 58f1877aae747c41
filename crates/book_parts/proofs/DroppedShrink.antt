-- Parts in which a copy was given up reflect the state in which it was.
use Rattle.std.proofs.Common.{◌≡◌, ◌≢◌, ℕ, ◌+◌, ◌<◌, List, set, length, eqb, Bool, true, false, cond, None, refl, sym, ap, ◌∙◌, subst, arith}
use Rattle.std.specs.Option.{option_map_or, option_and_then}
use Rattle.std.proofs.lemmas.Bool.{eqb-true, eq-eqb, ne_eqb, true≢false}
use Rattle.vec_scan.specs.Seal.{row_there}
use Rattle.cell_table.specs.declared.phase.Phase.{Phase}
use Rattle.cell_table.specs.declared.phase.Phase.TheVariants.{Free, Filling}
use Rattle.cell_table.specs.Phases as phases
use Rattle.cell_table.specs.Phases.{has_id, value_of, unpinned}
use Rattle.cell_table.specs.Cells.{cell_at}
use Rattle.storage_map.specs.Slots.{Slots, live_at, begun_at, Becomes}
use Rattle.adb_model.specs.State.{Storage, State}
use Rattle.adb_model.specs.Presence.{has_row, is_held}
use Rattle.adb_model.specs.Storages.{used, storage_with, live_storage, filling_storage, open_flush, pin_count}
use Rattle.adb_model.specs.Shrink.{named_in, without_shrink, copy_dropped}
use Rattle.adb_model.specs.Shrinking.{IsOpenShrink}
use Rattle.adb_model.specs.Stats.{counts_of}
use Rattle.adb_model.specs.Call.{Counts}
use Rattle.adb_model.specs.Sound.{IsSound}
use Rattle.book_parts.specs.Parts.{Parts, Shared}
use Rattle.book_parts.specs.Cells.{CellsFit}
use Rattle.book_parts.specs.Storages.{IsLiveOf, IsBegunOf}
use Rattle.book_parts.specs.Reflects.{Reflects, counts_in}
use Rattle.book_parts.specs.Shrinks.{Copy, shrink_of, IsOpenCopy, IsCopyIn}
use Rattle.book_parts.proofs.CellChanges as changes
use Rattle.book_parts.proofs.CellChanges.{one_if}
use Rattle.book_parts.proofs.CellOfStorage.{unpin_fits}
use Rattle.book_parts.proofs.CellSums as sums
use Rattle.book_parts.proofs.CellSums.{in_range, same_look}
use Rattle.book_parts.proofs.OpenCopy.{filling_cell, live_apart, filling_apart}
use Rattle.book_parts.proofs.PinnedCells.{unpinned_same, one_fewer, repinned_fit}
use Rattle.book_parts.proofs.SlotChanges.{live_kept, begun_kept, same_counts, if_same}

-- the state in which the copy was given up
pub record Dropped (m : State) (copy : Copy) (new : Storage) : Type 0 where
  pub with_id : (id : ℕ) → storage_with (copy_dropped m (shrink_of copy)) id ≡ cond (eqb copy.id id) None (storage_with m id)
  pub live : (s : ℕ) → live_storage (copy_dropped m (shrink_of copy)) s ≡ live_storage m s
  pub filling : (s : ℕ) → filling_storage (copy_dropped m (shrink_of copy)) s ≡ cond (eqb copy.slot s) None (filling_storage m s)
  pub flush : (s : ℕ) → open_flush (copy_dropped m (shrink_of copy)) s ≡ open_flush m s
  pub held : (s : ℕ) (k : List ℕ) → is_held (copy_dropped m (shrink_of copy)) s k ≡ is_held m s k
  pub pinned : (id : ℕ) → pin_count m id ≡ pin_count (copy_dropped m (shrink_of copy)) id + one_if (eqb copy.old id)
  pub bytes : used m ≡ used (copy_dropped m (shrink_of copy)) + new.bytes
  pub storages : length m.storages ≡ length (copy_dropped m (shrink_of copy)).storages + 1
  pub filling_count : (counts_of m).filling ≡ (counts_of (copy_dropped m (shrink_of copy))).filling + 1
  pub live_count : (counts_of (copy_dropped m (shrink_of copy))).live ≡ (counts_of m).live
  pub retired_count : (counts_of (copy_dropped m (shrink_of copy))).retired ≡ (counts_of m).retired
  pub row_count : (counts_of (copy_dropped m (shrink_of copy))).rows ≡ (counts_of m).rows
  pub pin_total : (counts_of m).pins ≡ (counts_of (copy_dropped m (shrink_of copy))).pins + 1

module _ (p : Parts) (m : State) (copy : Copy) (from cell : ℕ) (slots : Slots) (h : IsSound m) (r : Reflects p m) (o : IsOpenCopy copy m)
    (facts : IsOpenShrink m copy.slot (shrink_of copy) o.old o.new) (c : IsCopyIn copy from cell p.cells p.map) (d : Dropped m copy o.new)
    (becomes : Becomes p.map slots copy.slot (live_at p.map copy.slot) None) where
  -- where the shrink is over, but its copy is there
  abbrev mid : State
  mid = without_shrink m copy.slot

  abbrev n : State
  n = copy_dropped m (shrink_of copy)

  abbrev slot : ℕ
  slot = copy.slot

  abbrev before : List (Phase Shared)
  before = p.cells.cells

  abbrev now_old : Phase Shared
  now_old = unpinned (cell_at before from)

  abbrev first : List (Phase Shared)
  first = set before from now_old

  abbrev was : Phase Shared
  was = Filling copy.id o.new.bytes

  abbrev after : List (Phase Shared)
  after = set first cell Free

  within : from < length before
  within = in_range before copy.old from c.of_old

  fewer : (q : ℕ) → pin_count m q ≡ pin_count mid q + one_if (eqb copy.old q)
  fewer = d.pinned

  fit_first : CellsFit mid first
  fit_first = repinned_fit m mid before from copy.old now_old r.cells c.of_old (λ q. refl) refl (unpinned_same (cell_at before from))
      (λ t is. unpin_fits t (pin_count m copy.old) (pin_count mid copy.old) (cell_at before from) (omega (arith, fewer copy.old, ap one_if (eq-eqb copy.old copy.old refl))) is)
      (λ q differs. omega (arith, fewer q, ap one_if (ne_eqb copy.old q differs)))

  same_first : (k q : ℕ) → has_id q (cell_at first k) ≡ has_id q (cell_at before k)
  same_first k q = same_look before from now_old within (has_id q) ((unpinned_same (cell_at before from)).ids q) k

  apart : cell ≢ from
  apart same =
      let filling = filling_cell p m copy r o facts cell c.of_id in
      let none : phases.pins_of (cell_at before from) ≡ 0 = ap (λ i. phases.pins_of (cell_at before i)) (sym same) ∙ ap phases.pins_of filling in
      let some = c.pinned in
      absurd (omega (arith, none, some))

  was_filling : cell_at first cell ≡ was
  was_filling = sums.cell_other before from now_old within cell apart ∙ filling_cell p m copy r o facts cell c.of_id

  within_first : cell < length first
  within_first = in_range first copy.id cell (ap (has_id copy.id) was_filling ∙ eq-eqb copy.id copy.id refl)

  fit : CellsFit n after
  fit = changes.cells_change first cell was Free within_first was_filling mid n fit_first
      (λ q x f. absurd (true≢false (sym x)))
      (λ q x f. d.with_id q ∙ ap (λ b. cond b None (storage_with m q)) x)
      (λ q x. absurd (true≢false (sym x)))
      (λ q f g. d.with_id q ∙ ap (λ b. cond b None (storage_with m q)) f)
      (λ q f g. refl)
      (omega (arith, d.storages))

  keeps : (u : Storage) (k : ℕ) → (u.id ≡ copy.id → ⊥) → has_id u.id (cell_at before k) ≡ true → has_id u.id (cell_at after k) ≡ true
  keeps u k ne x =
      changes.id_kept first cell was Free within_first was_filling u.id k (λ same. absurd (ne (sym (eqb-true copy.id u.id same))))
      (same_first k u.id ∙ x)

  same_value : (k : ℕ) → value_of (cell_at after k) ≡ value_of (cell_at before k)
  same_value k =
      same_look first cell Free within_first value_of (ap value_of (sym was_filling)) k
      ∙ same_look before from now_old within value_of (unpinned_same (cell_at before from)).value k

  lives : (s : ℕ) → IsLiveOf after (named_in n s) (live_at slots s) (live_storage n s)
  lives s =
      let kept = live_kept before after (named_in m s) (live_at p.map s) (live_storage m s) (λ u k x. keeps u k (live_apart p m copy r o facts h s u x)) (r.slots.lives s) in
      subst (λ l. IsLiveOf after (named_in m s) l (live_storage n s)) (sym (becomes.lives s ∙ if_same (live_at p.map) slot s))
      (subst (IsLiveOf after (named_in m s) (live_at p.map s)) (sym (d.live s)) kept)

  begins : (s : ℕ) → IsBegunOf after (begun_at slots s) (filling_storage n s)
  begins s =
      subst (λ b. IsBegunOf after b (filling_storage n s)) (sym (becomes.begins s))
      (subst (IsBegunOf after (cond (eqb slot s) None (begun_at p.map s))) (sym (d.filling s)) (by (eqb slot s) refl))
    where
      by : (b : Bool) → eqb slot s ≡ b → IsBegunOf after (cond b None (begun_at p.map s)) (cond b None (filling_storage m s))
      by true f = tt
      by false f = begun_kept before after (begun_at p.map s) (filling_storage m s) (λ u k x. keeps u k (filling_apart p m copy r o facts h s u f x)) (r.slots.begins s)

  abbrev new_parts : Parts
  new_parts = record p { cells = record p.cells { cells = after }; map = slots }

  counted : counts_in new_parts ≡ counts_of n
  counted =
      let same = unpinned_same (cell_at before from) in
      let stays = sums.same_count before from now_old within in
      let count = changes.count_changed first cell was Free within_first was_filling in
      let sum = changes.sum_changed first cell was Free within_first was_filling in
      let part = λ (f : Counts → ℕ). ap f r.counts in
      same_counts (counts_in new_parts) (counts_of n)
      (part (λ x. x.cached))
      (omega (arith, stays phases.is_filling same.filling, count phases.is_filling, part (λ x. x.filling), d.filling_count))
      (omega (arith, stays phases.is_live same.live, count phases.is_live, part (λ x. x.live), d.live_count))
      (omega (arith, stays phases.is_retired same.retired, count phases.is_retired, part (λ x. x.retired), d.retired_count))
      (omega (arith, becomes.alive, part (λ x. x.named)))
      (omega (arith, becomes.total, part (λ x. x.rows), d.row_count))
      (omega (arith, sums.same_sum before from now_old within phases.bytes_of same.bytes, sum phases.bytes_of, part (λ x. x.bytes), d.bytes))
      (omega (arith, sums.sum_changed before from now_old within phases.pins_of, one_fewer (cell_at before from) c.pinned, sum phases.pins_of, part (λ x. x.pins), d.pin_total))

  pub reflects_dropped : Reflects new_parts n
  reflects_dropped = record {
    marks = r.marks;
    placed = λ k s tomb at offset x. let kept = r.placed k s tomb at offset x in record {
      storage = kept.storage;
      account = kept.account;
      live = d.live s ∙ kept.live;
      there = keeps kept.storage at (live_apart p m copy r o facts h s kept.storage kept.live) kept.there;
      row = ap (option_and_then (λ (image : Shared). row_there image.value.rows offset)) (same_value at) ∙ kept.row;
      last = kept.last;
    };
    held = λ k s. r.held k s ∙ sym (d.held s k);
    expected = λ k s. r.expected k s ∙ sym (ap (λ f. option_map_or (λ (t : Storage). has_row k t.rows) f false) (d.flush s));
    rows = r.rows;
    roots = r.roots;
    cleaned = r.cleaned;
    leases = r.leases;
    cells = fit;
    slots = record { lives = lives; begins = begins };
    counts = counted;
    limit = r.limit;
    next_id = r.next_id;
    snap = r.snap;
  }
