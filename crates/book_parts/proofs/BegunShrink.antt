-- Parts in which a shrink has begun reflect the state in which it has.
use Rattle.std.proofs.Common.{◌≡◌, ◌≢◌, ℕ, ◌+◌, ◌<◌, List, set, length, eqb, Bool, true, false, cond, Some, None, refl, sym, ap, ◌∙◌, subst, arith}
use Rattle.std.specs.Option.{option_map_or, option_and_then}
use Rattle.std.proofs.lemmas.Bool.{eqb-true, eq-eqb, ne_eqb, true≢false}
use Rattle.vec_scan.specs.Seal.{row_there}
use Rattle.cell_table.specs.declared.phase.Phase.{Phase}
use Rattle.cell_table.specs.declared.phase.Phase.TheVariants.{Free, Filling}
use Rattle.cell_table.specs.Phases as phases
use Rattle.cell_table.specs.Phases.{has_id, value_of, pinned}
use Rattle.cell_table.specs.Cells.{cell_at}
use Rattle.storage_map.specs.Slots.{Slots, live_at, begun_at, begun_with, Becomes}
use Rattle.adb_model.specs.State.{Row, Storage, State}
use Rattle.adb_model.specs.Presence.{has_row, is_held}
use Rattle.adb_model.specs.Storages.{bytes_of, used, storage_with, live_storage, filling_storage, open_flush, pin_count}
use Rattle.adb_model.specs.Flush.{filling_with, with_filling}
use Rattle.adb_model.specs.Shrink.{named_in, shrink_rows, shrinking}
use Rattle.adb_model.specs.Stats.{counts_of}
use Rattle.adb_model.specs.Call.{Counts}
use Rattle.book_parts.specs.Parts.{Parts, Shared}
use Rattle.book_parts.specs.Cells.{CellsFit}
use Rattle.book_parts.specs.Storages.{IsLiveOf, IsBegunOf}
use Rattle.book_parts.specs.Reflects.{Reflects, counts_in}
use Rattle.book_parts.proofs.CellChanges as changes
use Rattle.book_parts.proofs.CellChanges.{one_if}
use Rattle.book_parts.proofs.CellOfStorage.{pin_fits}
use Rattle.book_parts.proofs.CellSums as sums
use Rattle.book_parts.proofs.CellSums.{in_range, same_look}
use Rattle.book_parts.proofs.PinnedCells.{pinned_same, one_more, repinned_fit}
use Rattle.book_parts.proofs.SlotChanges.{live_kept, begun_kept, same_counts, if_same}

-- the state in which a shrink of the slot's storage has begun
pub record Begun (m : State) (slot : ℕ) (old : Storage) : Type 0 where
  pub of_slot : old.slot ≡ slot
  pub fresh : storage_with m m.next_id ≡ None
  pub with_id : (id : ℕ) → storage_with (shrinking m old) id ≡ cond (eqb m.next_id id) (Some (filling_with m old.slot (shrink_rows m old))) (storage_with m id)
  pub live : (s : ℕ) → live_storage (shrinking m old) s ≡ live_storage m s
  pub filling : (s : ℕ) → filling_storage (shrinking m old) s ≡ cond (eqb slot s) (Some (filling_with m slot (shrink_rows m old))) (filling_storage m s)
  pub flush : (s : ℕ) → open_flush (shrinking m old) s ≡ open_flush m s
  pub held : (s : ℕ) (k : List ℕ) → is_held (shrinking m old) s k ≡ is_held m s k
  pub pinned : (id : ℕ) → pin_count (shrinking m old) id ≡ pin_count m id + one_if (eqb old.id id)
  pub bytes : used (shrinking m old) ≡ used m + bytes_of (shrink_rows m old)
  pub storages : length (shrinking m old).storages ≡ length m.storages + 1
  pub filling_count : (counts_of (shrinking m old)).filling ≡ (counts_of m).filling + 1
  pub live_count : (counts_of (shrinking m old)).live ≡ (counts_of m).live
  pub retired_count : (counts_of (shrinking m old)).retired ≡ (counts_of m).retired
  pub row_count : (counts_of (shrinking m old)).rows ≡ (counts_of m).rows
  pub pin_total : (counts_of (shrinking m old)).pins ≡ (counts_of m).pins + 1

module _ (p : Parts) (m : State) (slot from cell : ℕ) (old : Storage) (slots : Slots) (r : Reflects p m) (b : Begun m slot old)
    (there : has_id old.id (cell_at p.cells.cells from) ≡ true) (live : phases.is_live (cell_at p.cells.cells from) ≡ true)
    (within : cell < length p.cells.cells) (was_free : cell_at p.cells.cells cell ≡ Free)
    (becomes : Becomes p.map slots slot (live_at p.map slot) (Some (begun_with cell (length (shrink_rows m old))))) where
  abbrev written : List Row
  written = shrink_rows m old

  abbrev fill : Phase Shared
  fill = Filling m.next_id (bytes_of written)

  -- where the copy's storage is there, but its shrink isn't
  abbrev mid : State
  mid = with_filling m old.slot written

  abbrev n : State
  n = shrinking m old

  abbrev before : List (Phase Shared)
  before = p.cells.cells

  abbrev begun : List (Phase Shared)
  begun = set before cell fill

  abbrev after : List (Phase Shared)
  after = set begun from (pinned (cell_at begun from))

  here : (q : ℕ) → has_id q fill ≡ true → storage_with mid q ≡ Some (filling_with m old.slot written)
  here q t = b.with_id q ∙ ap (λ c. cond c (Some (filling_with m old.slot written)) (storage_with m q)) t

  fit_begun : CellsFit mid begun
  fit_begun = changes.cells_change before cell Free fill within was_free m mid r.cells
      (λ q t f. ap (storage_with m) (sym (eqb-true m.next_id q t)) ∙ b.fresh)
      (λ q t f. absurd (true≢false (sym t)))
      (λ q t. (filling_with m old.slot written, here q t, (refl, refl)))
      (λ q f g. b.with_id q ∙ ap (λ c. cond c (Some (filling_with m old.slot written)) (storage_with m q)) g)
      (λ q f g. refl)
      (omega (arith, b.storages))

  apart : from ≢ cell
  apart same = true≢false (sym there ∙ ap (λ c. has_id old.id (cell_at before c)) same ∙ ap (has_id old.id) was_free)

  same_from : cell_at begun from ≡ cell_at before from
  same_from = changes.cell_other before cell Free fill within was_free from apart

  there_begun : has_id old.id (cell_at begun from) ≡ true
  there_begun = ap (has_id old.id) same_from ∙ there

  live_begun : phases.is_live (cell_at begun from) ≡ true
  live_begun = ap phases.is_live same_from ∙ live

  fit : CellsFit n after
  fit = repinned_fit mid n begun from old.id (pinned (cell_at begun from)) fit_begun there_begun (λ q. refl) refl (pinned_same (cell_at begun from))
      (λ t is. pin_fits t (pin_count mid old.id) (pin_count n old.id) (cell_at begun from) (omega (arith, b.pinned old.id, ap one_if (eq-eqb old.id old.id refl))) live_begun is)
      (λ q differs. omega (arith, b.pinned q, ap one_if (ne_eqb old.id q differs)))

  within_begun : from < length begun
  within_begun = in_range begun old.id from there_begun

  keeps : (u : Storage) (k : ℕ) → has_id u.id (cell_at before k) ≡ true → has_id u.id (cell_at after k) ≡ true
  keeps u k h =
      same_look begun from (pinned (cell_at begun from)) within_begun (has_id u.id) ((pinned_same (cell_at begun from)).ids u.id) k
      ∙ changes.id_kept before cell Free fill within was_free u.id k (λ f. absurd (true≢false (sym f))) h

  same_value : (k : ℕ) → value_of (cell_at after k) ≡ value_of (cell_at before k)
  same_value k =
      same_look begun from (pinned (cell_at begun from)) within_begun value_of (pinned_same (cell_at begun from)).value k
      ∙ same_look before cell fill within value_of (ap value_of (sym was_free)) k

  lives : (s : ℕ) → IsLiveOf after (named_in n s) (live_at slots s) (live_storage n s)
  lives s =
      let kept = live_kept before after (named_in m s) (live_at p.map s) (live_storage m s) (λ u k x h. keeps u k h) (r.slots.lives s) in
      subst (λ l. IsLiveOf after (named_in m s) l (live_storage n s)) (sym (becomes.lives s ∙ if_same (live_at p.map) slot s))
      (subst (IsLiveOf after (named_in m s) (live_at p.map s)) (sym (b.live s)) kept)

  cell_now : has_id m.next_id (cell_at after cell) ≡ true
  cell_now =
      same_look begun from (pinned (cell_at begun from)) within_begun (has_id m.next_id) ((pinned_same (cell_at begun from)).ids m.next_id) cell
      ∙ ap (has_id m.next_id) (changes.cell_here before cell Free fill within was_free) ∙ eq-eqb m.next_id m.next_id refl

  begins : (s : ℕ) → IsBegunOf after (begun_at slots s) (filling_storage n s)
  begins s =
      subst (λ o. IsBegunOf after o (filling_storage n s)) (sym (becomes.begins s))
      (subst (IsBegunOf after (cond (eqb slot s) (Some (begun_with cell (length written))) (begun_at p.map s))) (sym (b.filling s)) (by (eqb slot s)))
    where
      by : (c : Bool) → IsBegunOf after (cond c (Some (begun_with cell (length written))) (begun_at p.map s)) (cond c (Some (filling_with m slot written)) (filling_storage m s))
      by true = (cell_now, refl)
      by false = begun_kept before after (begun_at p.map s) (filling_storage m s) (λ u k x h. keeps u k h) (r.slots.begins s)

  abbrev new : Parts
  new = record p { cells = record p.cells { cells = after }; map = slots; next_id = p.next_id + 1 }

  counted : counts_in new ≡ counts_of n
  counted =
      let count = changes.count_changed before cell Free fill within was_free in
      let sum = changes.sum_changed before cell Free fill within was_free in
      let repin = pinned_same (cell_at begun from) in
      let stays = sums.same_count begun from (pinned (cell_at begun from)) within_begun in
      let part = λ (f : Counts → ℕ). ap f r.counts in
      same_counts (counts_in new) (counts_of n)
      (part (λ c. c.cached))
      (omega (arith, stays phases.is_filling repin.filling, count phases.is_filling, part (λ c. c.filling), b.filling_count))
      (omega (arith, stays phases.is_live repin.live, count phases.is_live, part (λ c. c.live), b.live_count))
      (omega (arith, stays phases.is_retired repin.retired, count phases.is_retired, part (λ c. c.retired), b.retired_count))
      (omega (arith, becomes.alive, part (λ c. c.named)))
      (omega (arith, becomes.total, part (λ c. c.rows), b.row_count))
      (omega (arith, sums.same_sum begun from (pinned (cell_at begun from)) within_begun phases.bytes_of repin.bytes, sum phases.bytes_of, part (λ c. c.bytes), b.bytes))
      (omega (arith, sums.sum_changed begun from (pinned (cell_at begun from)) within_begun phases.pins_of, one_more (cell_at begun from) live_begun, sum phases.pins_of, part (λ c. c.pins), b.pin_total))

  pub reflects_begun : Reflects new n
  reflects_begun = record {
    marks = r.marks;
    placed = λ k s tomb c offset x. let kept = r.placed k s tomb c offset x in record {
      storage = kept.storage;
      account = kept.account;
      live = b.live s ∙ kept.live;
      there = keeps kept.storage c kept.there;
      row = ap (option_and_then (λ (image : Shared). row_there image.value.rows offset)) (same_value c) ∙ kept.row;
      last = kept.last;
    };
    held = λ k s. r.held k s ∙ sym (b.held s k);
    expected = λ k s. r.expected k s ∙ sym (ap (λ o. option_map_or (λ (t : Storage). has_row k t.rows) o false) (b.flush s));
    rows = r.rows;
    roots = r.roots;
    cleaned = r.cleaned;
    leases = r.leases;
    cells = fit;
    slots = record { lives = lives; begins = begins };
    counts = counted;
    limit = r.limit;
    next_id = ap (λ (i : ℕ). i + 1) r.next_id;
    snap = r.snap;
  }
