-- Parts in which a flush was given up reflect the state in which it was.
use Rattle.std.proofs.Common.{◌≡◌, ℕ, ◌+◌, ◌<◌, List, set, length, eqb, Bool, true, false, cond, not, ◌&&◌, Option, Some, None, refl, sym, ap, ◌∙◌, subst, arith}
use Rattle.std.specs.Option.{option_map, option_map_or}
use Rattle.std.proofs.lemmas.Bool.{eqb-true, true≢false}
use Rattle.accounts_index.specs.Index.{Index}
use Rattle.cell_table.specs.declared.phase.Phase.{Phase}
use Rattle.cell_table.specs.declared.phase.Phase.TheVariants.{Free, Filling}
use Rattle.cell_table.specs.Phases as phases
use Rattle.cell_table.specs.Phases.{has_id}
use Rattle.cell_table.specs.Cells.{cell_at}
use Rattle.storage_map.specs.Slots.{Slots, live_at, begun_at, Becomes}
use Rattle.adb_model.specs.State.{Storage, State}
use Rattle.adb_model.specs.Presence.{has_row, is_held}
use Rattle.adb_model.specs.Storages.{used, storage_with, live_storage, filling_storage, open_flush}
use Rattle.adb_model.specs.Flush.{flush_dropped}
use Rattle.adb_model.specs.Shrink.{named_in}
use Rattle.adb_model.specs.Stats.{counts_of}
use Rattle.adb_model.specs.Call.{Counts}
use Rattle.adb_model.specs.Sound.{IsSound}
use Rattle.adb_model.specs.Laws.{IsOpenFlush}
use Rattle.book_parts.specs.Parts.{Parts, Shared}
use Rattle.book_parts.specs.Cells.{CellsFit}
use Rattle.book_parts.specs.Storages.{IsLiveOf, IsBegunOf}
use Rattle.book_parts.specs.Reflects.{Reflects, counts_in, mark_of}
use Rattle.book_parts.specs.Flushes.{Unexpects}
use Rattle.book_parts.proofs.CellChanges as changes
use Rattle.book_parts.proofs.CellChanges.{placed_kept, placed_apart}
use Rattle.book_parts.proofs.SlotChanges.{live_kept, begun_kept, same_counts, if_same}
use Rattle.book_parts.proofs.OpenFlush.{filling_cell, within_cells, live_apart, filling_apart}

-- the state in which the flush of the storage was given up
pub record Dropped (m : State) (slot : ℕ) (t : Storage) : Type 0 where
  pub with_id : (id : ℕ) → storage_with (flush_dropped m t) id ≡ cond (eqb t.id id) None (storage_with m id)
  pub live : (s : ℕ) → live_storage (flush_dropped m t) s ≡ live_storage m s
  pub filling : (s : ℕ) → filling_storage (flush_dropped m t) s ≡ cond (eqb slot s) None (filling_storage m s)
  pub flush : (s : ℕ) → open_flush (flush_dropped m t) s ≡ cond (eqb slot s) None (open_flush m s)
  pub held : (s : ℕ) (k : List ℕ) → is_held (flush_dropped m t) s k ≡ is_held m s k
  pub bytes : used m ≡ used (flush_dropped m t) + t.bytes
  pub storages : length m.storages ≡ length (flush_dropped m t).storages + 1
  pub filling_count : (counts_of m).filling ≡ (counts_of (flush_dropped m t)).filling + 1
  pub live_count : (counts_of (flush_dropped m t)).live ≡ (counts_of m).live
  pub retired_count : (counts_of (flush_dropped m t)).retired ≡ (counts_of m).retired
  pub row_count : (counts_of (flush_dropped m t)).rows ≡ (counts_of m).rows

not_and : (b : Bool) → (not b && b) ≡ false
not_and true = refl
not_and false = refl

-- an open flush's keys are expected until it is over
pub unexpects : (b : Bool) (o : Option Storage) (t : Storage) (k : List ℕ) → (b ≡ true → o ≡ Some t)
    → (not (b && has_row k t.rows) && option_map_or (λ (u : Storage). has_row k u.rows) o false) ≡ option_map_or (λ (u : Storage). has_row k u.rows) (cond b None o) false
unexpects true o t k is = ap (λ (q : Option Storage). not (has_row k t.rows) && option_map_or (λ (u : Storage). has_row k u.rows) q false) (is refl) ∙ not_and (has_row k t.rows)
unexpects false o t k is = refl

module _ (p : Parts) (m : State) (slot cell : ℕ) (t : Storage) (index : Index) (slots : Slots) (h : IsSound m) (r : Reflects p m) (facts : IsOpenFlush m slot t) (d : Dropped m slot t)
    (opened : open_flush m slot ≡ Some t) (of_cell : has_id t.id (cell_at p.cells.cells cell) ≡ true)
    (e : Unexpects slot t.rows p.index index) (becomes : Becomes p.map slots slot (live_at p.map slot) None) where
  abbrev was : Phase Shared
  was = Filling t.id t.bytes

  abbrev n : State
  n = flush_dropped m t

  abbrev cells : List (Phase Shared)
  cells = set p.cells.cells cell Free

  within : cell < length p.cells.cells
  within = within_cells p m slot t r facts cell of_cell

  was_filling : cell_at p.cells.cells cell ≡ was
  was_filling = filling_cell p m slot t r facts cell of_cell

  fit : CellsFit n cells
  fit = changes.cells_change p.cells.cells cell was Free within was_filling m n r.cells
      (λ q h f. absurd (true≢false (sym h)))
      (λ q h f. d.with_id q ∙ ap (λ b. cond b None (storage_with m q)) h)
      (λ q h. absurd (true≢false (sym h)))
      (λ q f g. d.with_id q ∙ ap (λ b. cond b None (storage_with m q)) f)
      (λ q f g. refl)
      (omega (arith, d.storages))

  keeps : (u : Storage) (k : ℕ) → (u.id ≡ t.id → ⊥) → has_id u.id (cell_at p.cells.cells k) ≡ true → has_id u.id (cell_at cells k) ≡ true
  keeps u k ne x = changes.id_kept p.cells.cells cell was Free within was_filling u.id k (λ same. absurd (ne (sym (eqb-true t.id u.id same)))) x

  lives : (s : ℕ) → IsLiveOf cells (named_in n s) (live_at slots s) (live_storage n s)
  lives s =
      let old = live_kept p.cells.cells cells (named_in m s) (live_at p.map s) (live_storage m s) (λ u k x. keeps u k (live_apart p m slot t r facts h s u x)) (r.slots.lives s) in
      subst (λ l. IsLiveOf cells (named_in m s) l (live_storage n s)) (sym (becomes.lives s ∙ if_same (live_at p.map) slot s))
      (subst (IsLiveOf cells (named_in m s) (live_at p.map s)) (sym (d.live s)) old)

  begins : (s : ℕ) → IsBegunOf cells (begun_at slots s) (filling_storage n s)
  begins s =
      subst (λ o. IsBegunOf cells o (filling_storage n s)) (sym (becomes.begins s))
      (subst (IsBegunOf cells (cond (eqb slot s) None (begun_at p.map s))) (sym (d.filling s)) (by (eqb slot s) refl))
    where
      by : (c : Bool) → eqb slot s ≡ c → IsBegunOf cells (cond c None (begun_at p.map s)) (cond c None (filling_storage m s))
      by true f = tt
      by false f = begun_kept p.cells.cells cells (begun_at p.map s) (filling_storage m s) (λ u k x. keeps u k (filling_apart p m slot t r facts h s u f x)) (r.slots.begins s)

  abbrev new : Parts
  new = record p { index = index; cells = record p.cells { cells = cells }; map = slots }

  counted : counts_in new ≡ counts_of n
  counted =
      let old = r.counts in
      let count = changes.count_changed p.cells.cells cell was Free within was_filling in
      let sum = changes.sum_changed p.cells.cells cell was Free within was_filling in
      let part = λ (f : Counts → ℕ). ap f old in
      same_counts (counts_in new) (counts_of n)
      (part (λ c. c.cached))
      (omega (arith, count phases.is_filling, part (λ c. c.filling), d.filling_count))
      (omega (arith, count phases.is_live, part (λ c. c.live), d.live_count))
      (omega (arith, count phases.is_retired, part (λ c. c.retired), d.retired_count))
      (omega (arith, becomes.alive, part (λ c. c.named)))
      (omega (arith, becomes.total, part (λ c. c.rows), d.row_count))
      (omega (arith, sum phases.bytes_of, part (λ c. c.bytes), d.bytes))
      (omega (arith, sum phases.pins_of, part (λ c. c.pins)))

  pub reflects_dropped : Reflects new n
  reflects_dropped = record {
    marks = λ k s. ap (option_map mark_of) (e.versions k s) ∙ r.marks k s;
    placed = λ k s tomb at offset x.
        let old = r.placed k s tomb at offset (sym (e.versions k s) ∙ x) in
        placed_kept m n p.cells.cells cells s k at offset (d.live s) refl
        (changes.cell_other p.cells.cells cell was Free within was_filling at (placed_apart m p.cells.cells s k at offset cell was was_filling refl old)) old;
    held = λ k s. e.held k s ∙ r.held k s ∙ sym (d.held s k);
    expected = λ k s.
        e.expected k s ∙ ap (λ x. not (eqb slot s && has_row k t.rows) && x) (r.expected k s)
        ∙ unexpects (eqb slot s) (open_flush m s) t k (λ same. ap (open_flush m) (sym (eqb-true slot s same)) ∙ opened)
        ∙ sym (ap (λ o. option_map_or (λ (u : Storage). has_row k u.rows) o false) (d.flush s));
    rows = r.rows;
    roots = r.roots;
    cleaned = r.cleaned;
    leases = r.leases;
    cells = fit;
    slots = record { lives = lives; begins = begins };
    counts = counted;
    limit = r.limit;
    next_id = r.next_id;
    snap = r.snap;
  }
