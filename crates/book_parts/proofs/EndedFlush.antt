-- Parts in which a flush has ended reflect the state in which it has.
use Rattle.std.proofs.Common.{◌≡◌, ℕ, ◌+◌, ◌<◌, List, [], map, set, length, eqb, Bool, true, false, cond, not, ◌&&◌, ◌||◌, Option, Some, None, is_some, refl, sym, ap, ap₂, ◌∙◌, subst, arith}
use Rattle.std.specs.Option.{option_map, option_map_or}
use Rattle.std.proofs.lemmas.Bool.{eqb-true, eq-eqb, true≢false, ne_eqb}
use Rattle.slot_list.specs.declared.Place.{Place}
use Rattle.slot_list.specs.declared.Place.TheVariants.{Stored}
use Rattle.accounts_index.specs.Index.{Index}
use Rattle.write_cache.specs.Rows as caches
use Rattle.write_cache.specs.Rows.{Cache, total}
use Rattle.vec_scan.specs.Seal.{row_there}
use Rattle.cell_table.specs.declared.phase.Phase.{Phase}
use Rattle.cell_table.specs.declared.phase.Phase.TheVariants.{Filling}
use Rattle.cell_table.specs.declared.phase.Phase.TheVariants as variants
use Rattle.cell_table.specs.Phases as phases
use Rattle.cell_table.specs.Phases.{has_id}
use Rattle.cell_table.specs.Cells.{cell_at}
use Rattle.storage_map.specs.Slots as maps
use Rattle.storage_map.specs.Slots.{Slots, live_at, begun_at, begun_with, Becomes}
use Rattle.adb_model.specs.Lists.{among}
use Rattle.adb_model.specs.State.{Row, Live, Storage, State}
use Rattle.adb_model.specs.Presence.{has_row, is_held, is_cached, is_present, ends_in_tomb}
use Rattle.adb_model.specs.Storages.{used, storage_with, live_storage, filling_storage, open_flush, pin_count, in_phase}
use Rattle.adb_model.specs.Callers.{keys_of}
use Rattle.adb_model.specs.Flush.{flush_rows, flushed_with}
use Rattle.adb_model.specs.Shrink.{named_in}
use Rattle.adb_model.specs.Stats.{counts_of}
use Rattle.adb_model.specs.Call.{Counts}
use Rattle.adb_model.specs.Laws.{IsOpenFlush}
use Rattle.book_parts.specs.Parts.{Parts, Shared}
use Rattle.book_parts.specs.Cells.{CellsFit, IsImageOf, IsCellOf, row_in}
use Rattle.book_parts.specs.Storages.{IsLiveOf, IsBegunOf, IsPlacedAt}
use Rattle.book_parts.specs.Reflects.{Reflects, counts_in, mark_of, indexed, present_mark}
use Rattle.book_parts.specs.Flushes.{Moves, moved, place_of, IsOpenIn}
use Rattle.book_parts.proofs.Found.{some_is, none_some, of_id}
use Rattle.book_parts.proofs.CellChanges as changes
use Rattle.book_parts.proofs.CellChanges.{placed_kept, placed_apart}
use Rattle.book_parts.proofs.SlotChanges.{live_kept, begun_kept, no_live, same_counts}
use Rattle.book_parts.proofs.Reflected.{own_rows}
use Rattle.book_parts.proofs.OpenFlush.{filling_cell, within_cells, present_of}
use Rattle.book_parts.proofs.DroppedFlush.{unexpects}
use Rattle.book_parts.proofs.RowPlaces.{place_there, row_of_place}

-- the storage in use
abbrev pub used_of : Storage → Storage
used_of t = record t { phase = Live }

-- the state in which the flush of the storage has ended
pub record Ended (m : State) (slot : ℕ) (t : Storage) : Type 0 where
  pub unpinned : pin_count m t.id ≡ 0
  pub present : (s : ℕ) (k : List ℕ) → is_present (flushed_with m t) s k ≡ is_present m s k
  pub cached : (s : ℕ) (k : List ℕ) → is_cached (flushed_with m t) s k ≡ (is_cached m s k && not (eqb slot s))
  pub held : (s : ℕ) (k : List ℕ) → is_held (flushed_with m t) s k ≡ ((eqb slot s && has_row k t.rows) || is_held m s k)
  pub flushed : (s : ℕ) → among s (flushed_with m t).flushed ≡ (eqb slot s || among s m.flushed)
  pub with_id : (id : ℕ) → storage_with (flushed_with m t) id ≡ option_map (in_phase t.id Live) (storage_with m id)
  pub live : (s : ℕ) → live_storage (flushed_with m t) s ≡ cond (eqb slot s) (Some (used_of t)) (live_storage m s)
  pub filling : (s : ℕ) → filling_storage (flushed_with m t) s ≡ cond (eqb slot s) None (filling_storage m s)
  pub flush : (s : ℕ) → open_flush (flushed_with m t) s ≡ cond (eqb slot s) None (open_flush m s)
  pub named_in : (s : ℕ) → named_in (flushed_with m t) s ≡ cond (eqb slot s) (length t.rows) (named_in m s)
  pub bytes : used (flushed_with m t) ≡ used m
  pub storages : length (flushed_with m t).storages ≡ length m.storages
  pub filling_count : (counts_of m).filling ≡ (counts_of (flushed_with m t)).filling + 1
  pub live_count : (counts_of (flushed_with m t)).live ≡ (counts_of m).live + 1
  pub retired_count : (counts_of (flushed_with m t)).retired ≡ (counts_of m).retired
  pub row_count : (counts_of (flushed_with m t)).rows ≡ (counts_of m).rows + length t.rows
  pub named_count : (counts_of (flushed_with m t)).named ≡ (counts_of m).named + length t.rows
  pub cached_count : (counts_of m).cached ≡ (counts_of (flushed_with m t)).cached + length (keys_of m slot)
  pub keys : length (flush_rows m slot) ≡ length (keys_of m slot)

-- ---- marks

abbrev mark : Bool → Bool → Bool → Option (Bool × Bool)
mark p t c = cond p (Some (t, c)) None

and_true : (b : Bool) → (b && not false) ≡ b
and_true true = refl
and_true false = refl

and_false : (b : Bool) → (b && not true) ≡ false
and_false true = refl
and_false false = refl

-- what moves to a cell is cached no longer
mark_moved : (cell offset : ℕ) (i : Option (Bool × Place)) (tomb cached : Bool) → option_map mark_of i ≡ mark true tomb cached → option_map mark_of (moved cell (Some offset) i) ≡ mark true tomb false
mark_moved cell offset None tomb cached e = absurd (none_some e)
mark_moved cell offset (Some i) tomb cached e = ap (λ (b : Bool). mark true b false) (ap (λ (x : Bool × Bool). x.0) (some_is e))

-- where it moves to
pub moved_is : (cell offset : ℕ) (i : Option (Bool × Place)) (tomb : Bool) (at place : ℕ) → moved cell (Some offset) i ≡ Some (tomb, Stored at place) → (cell ≡ at) × (offset ≡ place)
moved_is cell offset None tomb at place e = absurd (none_some e)
moved_is cell offset (Some i) tomb at place e =
    let both : Stored cell offset ≡ Stored at place = ap (λ (x : Bool × Place). x.1) (some_is e) in
    (ap cell_of both, ap offset_of both)
  where
    cell_of : Place → ℕ
    cell_of (Stored c o) = c
    cell_of other = 0

    offset_of : Place → ℕ
    offset_of (Stored c o) = o
    offset_of other = 0

unflushed_then : (b f : Bool) (rs : List Row) → cond (b || f) [] rs ≡ cond b [] (cond f [] rs)
unflushed_then true f rs = refl
unflushed_then false f rs = refl

module _ (p : Parts) (m : State) (slot cell : ℕ) (t : Storage) (image : Shared) (places : List ℕ) (cache : Cache) (index : Index) (slots : Slots) (r : Reflects p m) (facts : IsOpenFlush m slot t) (d : Ended m slot t)
    (opened : open_flush m slot ≡ Some t) (o : IsOpenIn slot t.id cell t.rows p.index p.cells p.map) (of_image : IsImageOf t image.value)
    (stand : map (row_there image.value.rows) places ≡ map Some t.rows) (e : Moves slot cell t.rows places p.index index) where
  abbrev was : Phase Shared
  was = Filling t.id t.bytes

  abbrev now : Phase Shared
  now = variants.Live t.id t.bytes 0 image

  abbrev n : State
  n = flushed_with m t

  abbrev cells : List (Phase Shared)
  cells = set p.cells.cells cell now

  within : cell < length p.cells.cells
  within = within_cells p m slot t r facts cell o.of_id

  pub was_filling : cell_at p.cells.cells cell ≡ was
  was_filling = filling_cell p m slot t r facts cell o.of_id

  here : cell_at cells cell ≡ now
  here = changes.cell_here p.cells.cells cell was now within was_filling

  -- ---- cells

  stays_other : (q : ℕ) (found : Option Storage) → ((u : Storage) → found ≡ Some u → u.id ≡ q) → eqb t.id q ≡ false → option_map (in_phase t.id Live) found ≡ found
  stays_other q None ids f = refl
  stays_other q (Some u) ids f = ap (λ (b : Bool). Some (cond b (used_of u) u)) (ne_eqb u.id t.id (λ same. true≢false (sym (eq-eqb t.id q (sym same ∙ ids u refl)) ∙ f)))

  used_found : (q : ℕ) → eqb t.id q ≡ true → storage_with n q ≡ Some (used_of t)
  used_found q h =
      d.with_id q ∙ ap (λ (x : ℕ). option_map (in_phase t.id Live) (storage_with m x)) (sym (eqb-true t.id q h))
      ∙ ap (option_map (in_phase t.id Live)) facts.with_id ∙ ap (λ (b : Bool). Some (cond b (used_of t) t)) (eq-eqb t.id t.id refl)

  image_of : IsImageOf (used_of t) image.value
  image_of = record { slot = of_image.slot; id = of_image.id; rows = of_image.rows }

  cell_of : (q : ℕ) → eqb t.id q ≡ true → IsCellOf (used_of t) (pin_count n q) now
  cell_of q h = (refl, refl, sym (ap (pin_count m) (sym (eqb-true t.id q h)) ∙ d.unpinned), image_of)

  fit : CellsFit n cells
  fit = changes.cells_change p.cells.cells cell was now within was_filling m n r.cells
      (λ q h f. absurd (true≢false (sym h ∙ f)))
      (λ q h f. absurd (true≢false (sym h ∙ f)))
      (λ q h. (used_of t, used_found q h, cell_of q h))
      (λ q f g. d.with_id q ∙ stays_other q (storage_with m q) (λ u x. (of_id m q u x).1) f)
      (λ q f g. refl)
      (omega (arith, d.storages))

  keeps : (u : Storage) (k : ℕ) → has_id u.id (cell_at p.cells.cells k) ≡ true → has_id u.id (cell_at cells k) ≡ true
  keeps u k x = changes.id_kept p.cells.cells cell was now within was_filling u.id k (λ same. same) x

  -- ---- what a look-up finds

  marks : (k : List ℕ) (s : ℕ) → option_map mark_of (indexed index s k) ≡ present_mark n s k
  marks k s = ap (option_map mark_of) (e.versions k s) ∙ by (eqb slot s) refl ∙ sym after
    where
      after : present_mark n s k ≡ mark (is_present m s k) (ends_in_tomb m s k) (is_cached m s k && not (eqb slot s))
      after = ap₂ (λ (a c : Bool). mark a (ends_in_tomb m s k) c) (d.present s k) (d.cached s k)

      in_slot : (found : Option ℕ) → place_of t.rows places k ≡ found → option_map mark_of (moved cell found (indexed p.index slot k)) ≡ mark (is_present m slot k) (ends_in_tomb m slot k) false
      in_slot None f =
          let no_row : has_row k t.rows ≡ false = sym (place_there (row_there image.value.rows) k t.rows places stand) ∙ ap is_some f in
          let not_cached : is_cached m slot k ≡ false = ap (λ (b : Bool). b && not (among slot m.flushed)) (sym (facts.stored k) ∙ no_row) in
          let absent : is_present m slot k ≡ false = ap₂ (λ (a b : Bool). a || b) not_cached (facts.named k) in
          r.marks k slot ∙ ap (λ (a : Bool). mark a (ends_in_tomb m slot k) (is_cached m slot k)) absent ∙ sym (ap (λ (a : Bool). mark a (ends_in_tomb m slot k) false) absent)
      in_slot (Some offset) f =
          let row : has_row k t.rows ≡ true = sym (place_there (row_there image.value.rows) k t.rows places stand) ∙ ap is_some f in
          let present = present_of p m slot t r facts k row in
          mark_moved cell offset (indexed p.index slot k) (ends_in_tomb m slot k) (is_cached m slot k) (r.marks k slot ∙ ap (λ (a : Bool). mark a (ends_in_tomb m slot k) (is_cached m slot k)) present)
          ∙ sym (ap (λ (a : Bool). mark a (ends_in_tomb m slot k) false) present)

      by : (b : Bool) → eqb slot s ≡ b → option_map mark_of (moved cell (cond b (place_of t.rows places k) None) (indexed p.index s k))
          ≡ mark (is_present m s k) (ends_in_tomb m s k) (is_cached m s k && not b)
      by true x =
          subst (λ (q : ℕ). option_map mark_of (moved cell (place_of t.rows places k) (indexed p.index q k)) ≡ mark (is_present m q k) (ends_in_tomb m q k) false) (eqb-true slot s x) (in_slot (place_of t.rows places k) refl)
          ∙ sym (ap (mark (is_present m s k) (ends_in_tomb m s k)) (and_false (is_cached m s k)))
      by false x = r.marks k s ∙ sym (ap (mark (is_present m s k) (ends_in_tomb m s k)) (and_true (is_cached m s k)))

  placed : (k : List ℕ) (s : ℕ) (tomb : Bool) (at offset : ℕ) → indexed index s k ≡ Some (tomb, Stored at offset) → IsPlacedAt n cells s k at offset
  placed k s tomb at offset x = by (eqb slot s) refl (sym (e.versions k s) ∙ x)
    where
      in_slot : eqb slot s ≡ true → (found : Option ℕ) → place_of t.rows places k ≡ found → moved cell found (indexed p.index s k) ≡ Some (tomb, Stored at offset) → IsPlacedAt n cells s k at offset
      in_slot h None f y =
          let old = r.placed k s tomb at offset y in
          absurd (none_some (sym facts.live ∙ ap (live_storage m) (eqb-true slot s h) ∙ old.live))
      in_slot h (Some place) f y =
          let row = row_of_place (row_there image.value.rows) k t.rows places place stand o.differ f in
          let row_is : has_row k t.rows ≡ true = sym (place_there (row_there image.value.rows) k t.rows places stand) ∙ ap is_some f in
          let at_is = moved_is cell place (indexed p.index s k) tomb at offset y in
          let new : IsPlacedAt n cells slot k cell place = record {
            storage = used_of t;
            account = row.0;
            live = d.live slot ∙ ap (λ (b : Bool). cond b (Some (used_of t)) (live_storage m slot)) (eq-eqb slot slot refl);
            there = ap (has_id t.id) here ∙ eq-eqb t.id t.id refl;
            row = ap (λ (c : Phase Shared). row_in c place) here ∙ row.1;
            last = sym (facts.last k row_is) ∙ row.2;
          } in
          subst (λ (q : ℕ). IsPlacedAt n cells q k at offset) (eqb-true slot s h)
          (subst (λ (q : ℕ). IsPlacedAt n cells slot k q offset) at_is.0 (subst (λ (q : ℕ). IsPlacedAt n cells slot k cell q) at_is.1 new))

      by : (b : Bool) → eqb slot s ≡ b → moved cell (cond b (place_of t.rows places k) None) (indexed p.index s k) ≡ Some (tomb, Stored at offset) → IsPlacedAt n cells s k at offset
      by true h y = in_slot h (place_of t.rows places k) refl y
      by false h y =
          let old = r.placed k s tomb at offset y in
          placed_kept m n p.cells.cells cells s k at offset (d.live s ∙ ap (λ (b : Bool). cond b (Some (used_of t)) (live_storage m s)) h) refl
          (changes.cell_other p.cells.cells cell was now within was_filling at (placed_apart m p.cells.cells s k at offset cell was was_filling refl old)) old

  module _ (dropped : caches.IsWith p.cache cache slot []) (gone : total p.cache ≡ total cache + length (caches.rows p.cache slot))
      (becomes : Becomes p.map slots slot (maps.published (live_at p.map slot) (begun_at p.map slot)) None) where
    no_live_before : live_at p.map slot ≡ None
    no_live_before = no_live p.cells.cells (named_in m slot) (live_at p.map slot) (subst (IsLiveOf p.cells.cells (named_in m slot) (live_at p.map slot)) facts.live (r.slots.lives slot))

    published_is : maps.published (live_at p.map slot) (begun_at p.map slot) ≡ maps.published None (Some (begun_with cell (length t.rows)))
    published_is = ap₂ maps.published no_live_before o.begun

    lives : (s : ℕ) → IsLiveOf cells (named_in n s) (live_at slots s) (live_storage n s)
    lives s =
        subst (λ c. IsLiveOf cells c (live_at slots s) (live_storage n s)) (sym (d.named_in s))
        (subst (λ l. IsLiveOf cells (cond (eqb slot s) (length t.rows) (named_in m s)) l (live_storage n s)) (sym (becomes.lives s ∙ ap (λ l. cond (eqb slot s) l (live_at p.map s)) published_is))
        (subst (IsLiveOf cells (cond (eqb slot s) (length t.rows) (named_in m s)) (cond (eqb slot s) (maps.published None (Some (begun_with cell (length t.rows)))) (live_at p.map s))) (sym (d.live s)) (by (eqb slot s))))
      where
        by : (c : Bool) → IsLiveOf cells (cond c (length t.rows) (named_in m s)) (cond c (maps.published None (Some (begun_with cell (length t.rows)))) (live_at p.map s)) (cond c (Some (used_of t)) (live_storage m s))
        by true = (ap (has_id t.id) here ∙ eq-eqb t.id t.id refl, refl, refl)
        by false = live_kept p.cells.cells cells (named_in m s) (live_at p.map s) (live_storage m s) (λ u k x h. keeps u k h) (r.slots.lives s)

    begins : (s : ℕ) → IsBegunOf cells (begun_at slots s) (filling_storage n s)
    begins s =
        subst (λ b. IsBegunOf cells b (filling_storage n s)) (sym (becomes.begins s))
        (subst (IsBegunOf cells (cond (eqb slot s) None (begun_at p.map s))) (sym (d.filling s)) (by (eqb slot s)))
      where
        by : (c : Bool) → IsBegunOf cells (cond c None (begun_at p.map s)) (cond c None (filling_storage m s))
        by true = tt
        by false = begun_kept p.cells.cells cells (begun_at p.map s) (filling_storage m s) (λ u k x h. keeps u k h) (r.slots.begins s)

    abbrev new : Parts
    new = record p { index = index; cache = cache; cells = record p.cells { cells = cells }; map = slots }

    counted : counts_in new ≡ counts_of n
    counted =
        let old = r.counts in
        let count = changes.count_changed p.cells.cells cell was now within was_filling in
        let sum = changes.sum_changed p.cells.cells cell was now within was_filling in
        let part = λ (f : Counts → ℕ). ap f old in
        let own = ap length (own_rows p m slot r facts.unflushed) in
        let alive_before = ap maps.alive_in no_live_before in
        let alive_after = ap maps.alive_in published_is in
        let total_before = ap maps.total_in no_live_before in
        let total_after = ap maps.total_in published_is in
        same_counts (counts_in new) (counts_of n)
        (omega (arith, gone, own, d.keys, part (λ c. c.cached), d.cached_count))
        (omega (arith, count phases.is_filling, part (λ c. c.filling), d.filling_count))
        (omega (arith, count phases.is_live, part (λ c. c.live), d.live_count))
        (omega (arith, count phases.is_retired, part (λ c. c.retired), d.retired_count))
        (omega (arith, becomes.alive, alive_before, alive_after, part (λ c. c.named), d.named_count))
        (omega (arith, becomes.total, total_before, total_after, part (λ c. c.rows), d.row_count))
        (omega (arith, sum phases.bytes_of, part (λ c. c.bytes), d.bytes))
        (omega (arith, sum phases.pins_of, part (λ c. c.pins)))

    pub reflects_ended : Reflects new n
    reflects_ended = record {
      marks = marks;
      placed = placed;
      held = λ k s. e.held k s ∙ ap (λ x. eqb slot s && has_row k t.rows || x) (r.held k s) ∙ sym (d.held s k);
      expected = λ k s.
          e.expected k s ∙ ap (λ x. not (eqb slot s && has_row k t.rows) && x) (r.expected k s)
          ∙ unexpects (eqb slot s) (open_flush m s) t k (λ same. ap (open_flush m) (sym (eqb-true slot s same)) ∙ opened)
          ∙ sym (ap (λ f. option_map_or (λ (u : Storage). has_row k u.rows) f false) (d.flush s));
      rows = λ s. dropped s ∙ ap (cond (eqb slot s) []) (r.rows s) ∙ sym (ap (λ f. cond f [] (flush_rows m s)) (d.flushed s) ∙ unflushed_then (eqb slot s) (among s m.flushed) (flush_rows m s));
      roots = r.roots;
      cleaned = r.cleaned;
      leases = r.leases;
      cells = fit;
      slots = record { lives = lives; begins = begins };
      counts = counted;
      limit = r.limit;
      next_id = r.next_id;
      snap = r.snap;
    }
