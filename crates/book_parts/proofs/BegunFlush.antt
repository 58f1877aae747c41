-- Parts in which a flush has begun reflect the state in which it has.
use Rattle.std.proofs.Common.{◌≡◌, ℕ, ◌+◌, ◌<◌, List, set, length, eqb, Bool, true, false, cond, ◌&&◌, ◌||◌, Option, Some, None, refl, sym, ap, ◌∙◌, subst, arith}
use Rattle.std.specs.Option.{option_map, option_map_or}
use Rattle.std.proofs.lemmas.Bool.{eqb-true, eq-eqb, true≢false}
use Rattle.accounts_index.specs.Index.{Index}
use Rattle.cell_table.specs.declared.phase.Phase.{Phase}
use Rattle.cell_table.specs.declared.phase.Phase.TheVariants.{Free, Filling}
use Rattle.cell_table.specs.Phases as phases
use Rattle.cell_table.specs.Phases.{has_id}
use Rattle.cell_table.specs.Cells.{cell_at}
use Rattle.storage_map.specs.Slots.{Slots, live_at, begun_at, begun_with, Becomes}
use Rattle.adb_model.specs.State.{Row, Storage, State}
use Rattle.adb_model.specs.Presence.{has_row, is_held}
use Rattle.adb_model.specs.Storages.{bytes_of, used, storage_with, live_storage, filling_storage, open_flush}
use Rattle.adb_model.specs.Flush.{filling_with, with_filling}
use Rattle.adb_model.specs.Shrink.{named_in}
use Rattle.adb_model.specs.Stats.{counts_of}
use Rattle.adb_model.specs.Call.{Counts}
use Rattle.book_parts.specs.Parts.{Parts, Shared}
use Rattle.book_parts.specs.Cells.{CellsFit}
use Rattle.book_parts.specs.Storages.{IsLiveOf, IsBegunOf}
use Rattle.book_parts.specs.Reflects.{Reflects, counts_in, mark_of}
use Rattle.book_parts.specs.Flushes.{Expects}
use Rattle.book_parts.proofs.CellChanges as changes
use Rattle.book_parts.proofs.CellChanges.{placed_kept, placed_apart}
use Rattle.book_parts.proofs.SlotChanges.{live_kept, begun_kept, same_counts, if_same}

-- the state in which a flush of these rows has begun
pub record Begun (m : State) (slot : ℕ) (written : List Row) : Type 0 where
  pub fresh : storage_with m m.next_id ≡ None
  pub with_id : (id : ℕ) → storage_with (with_filling m slot written) id ≡ cond (eqb m.next_id id) (Some (filling_with m slot written)) (storage_with m id)
  pub live : (s : ℕ) → live_storage (with_filling m slot written) s ≡ live_storage m s
  pub filling : (s : ℕ) → filling_storage (with_filling m slot written) s ≡ cond (eqb slot s) (Some (filling_with m slot written)) (filling_storage m s)
  pub flush : (s : ℕ) → open_flush (with_filling m slot written) s ≡ cond (eqb slot s) (Some (filling_with m slot written)) (open_flush m s)
  pub held : (s : ℕ) (k : List ℕ) → is_held (with_filling m slot written) s k ≡ is_held m s k
  pub bytes : used (with_filling m slot written) ≡ used m + bytes_of written
  pub storages : length (with_filling m slot written).storages ≡ length m.storages + 1
  pub filling_count : (counts_of (with_filling m slot written)).filling ≡ (counts_of m).filling + 1
  pub live_count : (counts_of (with_filling m slot written)).live ≡ (counts_of m).live
  pub retired_count : (counts_of (with_filling m slot written)).retired ≡ (counts_of m).retired
  pub row_count : (counts_of (with_filling m slot written)).rows ≡ (counts_of m).rows

or_false : (b : Bool) → (b || false) ≡ b
or_false true = refl
or_false false = refl

expects : (b : Bool) (o : Option Storage) (new : Storage) (k : List ℕ) → (b ≡ true → o ≡ None)
    → (b && has_row k new.rows || option_map_or (λ (t : Storage). has_row k t.rows) o false) ≡ option_map_or (λ (t : Storage). has_row k t.rows) (cond b (Some new) o) false
expects true o new k none = ap (λ (q : Option Storage). has_row k new.rows || option_map_or (λ (t : Storage). has_row k t.rows) q false) (none refl) ∙ or_false (has_row k new.rows)
expects false o new k none = refl

module _ (p : Parts) (m : State) (slot cell : ℕ) (written : List Row) (index : Index) (slots : Slots) (r : Reflects p m) (b : Begun m slot written) (none : open_flush m slot ≡ None)
    (e : Expects slot written p.index index) (within : cell < length p.cells.cells) (was_free : cell_at p.cells.cells cell ≡ Free)
    (becomes : Becomes p.map slots slot (live_at p.map slot) (Some (begun_with cell (length written)))) where
  abbrev now : Phase Shared
  now = Filling m.next_id (bytes_of written)

  abbrev n : State
  n = with_filling m slot written

  abbrev cells : List (Phase Shared)
  cells = set p.cells.cells cell now

  here : (q : ℕ) → has_id q now ≡ true → storage_with n q ≡ Some (filling_with m slot written)
  here q t = b.with_id q ∙ ap (λ c. cond c (Some (filling_with m slot written)) (storage_with m q)) t

  fit : CellsFit n cells
  fit = changes.cells_change p.cells.cells cell Free now within was_free m n r.cells
      (λ q t f. ap (storage_with m) (sym (eqb-true m.next_id q t)) ∙ b.fresh)
      (λ q t f. absurd (true≢false (sym t)))
      (λ q t. (filling_with m slot written, here q t, (refl, refl)))
      (λ q f g. b.with_id q ∙ ap (λ c. cond c (Some (filling_with m slot written)) (storage_with m q)) g)
      (λ q f g. refl)
      (omega (arith, b.storages))

  keeps : (u : Storage) (k : ℕ) → has_id u.id (cell_at p.cells.cells k) ≡ true → has_id u.id (cell_at cells k) ≡ true
  keeps u k h = changes.id_kept p.cells.cells cell Free now within was_free u.id k (λ f. absurd (true≢false (sym f))) h

  lives : (s : ℕ) → IsLiveOf cells (named_in n s) (live_at slots s) (live_storage n s)
  lives s =
      let old = live_kept p.cells.cells cells (named_in m s) (live_at p.map s) (live_storage m s) (λ u k x h. keeps u k h) (r.slots.lives s) in
      subst (λ l. IsLiveOf cells (named_in m s) l (live_storage n s)) (sym (becomes.lives s ∙ if_same (live_at p.map) slot s))
      (subst (IsLiveOf cells (named_in m s) (live_at p.map s)) (sym (b.live s)) old)

  begins : (s : ℕ) → IsBegunOf cells (begun_at slots s) (filling_storage n s)
  begins s =
      subst (λ o. IsBegunOf cells o (filling_storage n s)) (sym (becomes.begins s))
      (subst (IsBegunOf cells (cond (eqb slot s) (Some (begun_with cell (length written))) (begun_at p.map s))) (sym (b.filling s)) (by (eqb slot s)))
    where
      by : (c : Bool) → IsBegunOf cells (cond c (Some (begun_with cell (length written))) (begun_at p.map s)) (cond c (Some (filling_with m slot written)) (filling_storage m s))
      by true = (ap (has_id m.next_id) (changes.cell_here p.cells.cells cell Free now within was_free) ∙ eq-eqb m.next_id m.next_id refl, refl)
      by false = begun_kept p.cells.cells cells (begun_at p.map s) (filling_storage m s) (λ u k x h. keeps u k h) (r.slots.begins s)

  abbrev new : Parts
  new = record p { index = index; cells = record p.cells { cells = cells }; map = slots; next_id = p.next_id + 1 }

  counted : counts_in new ≡ counts_of n
  counted =
      let old = r.counts in
      let count = changes.count_changed p.cells.cells cell Free now within was_free in
      let sum = changes.sum_changed p.cells.cells cell Free now within was_free in
      let was = λ (part : Counts → ℕ). ap part old in
      same_counts (counts_in new) (counts_of n)
      (was (λ c. c.cached))
      (omega (arith, count phases.is_filling, was (λ c. c.filling), b.filling_count))
      (omega (arith, count phases.is_live, was (λ c. c.live), b.live_count))
      (omega (arith, count phases.is_retired, was (λ c. c.retired), b.retired_count))
      (omega (arith, becomes.alive, was (λ c. c.named)))
      (omega (arith, becomes.total, was (λ c. c.rows), b.row_count))
      (omega (arith, sum phases.bytes_of, was (λ c. c.bytes), b.bytes))
      (omega (arith, sum phases.pins_of, was (λ c. c.pins)))

  pub reflects_begun : Reflects new n
  reflects_begun = record {
    marks = λ k s. ap (option_map mark_of) (e.versions k s) ∙ r.marks k s;
    placed = λ k s tomb at offset x.
        let old = r.placed k s tomb at offset (sym (e.versions k s) ∙ x) in
        placed_kept m n p.cells.cells cells s k at offset (b.live s) refl
        (changes.cell_other p.cells.cells cell Free now within was_free at (placed_apart m p.cells.cells s k at offset cell Free was_free refl old)) old;
    held = λ k s. e.held k s ∙ r.held k s ∙ sym (b.held s k);
    expected = λ k s.
        e.expected k s ∙ ap (λ x. eqb slot s && has_row k written || x) (r.expected k s)
        ∙ expects (eqb slot s) (open_flush m s) (filling_with m slot written) k (λ t. ap (open_flush m) (sym (eqb-true slot s t)) ∙ none)
        ∙ sym (ap (λ o. option_map_or (λ (t : Storage). has_row k t.rows) o false) (b.flush s));
    rows = r.rows;
    roots = r.roots;
    cleaned = r.cleaned;
    leases = r.leases;
    cells = fit;
    slots = record { lives = lives; begins = begins };
    counts = counted;
    limit = r.limit;
    next_id = ap (λ x. x + 1) r.next_id;
    snap = r.snap;
  }
