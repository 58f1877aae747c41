-- Parts in which a copy has taken its storage's place reflect the state in which it has.
use Rattle.std.proofs.Common.{◌≡◌, ◌≢◌, ℕ, ◌+◌, ◌-◌, ◌<◌, List, map, set, length, length-set, count_by, sum_by, eqb, Bool, true, false, cond, not, ◌&&◌, ◌||◌, IsTrue, Option, Some, None, is_some, refl, sym, ap, ◌∙◌, subst, inl, inr, arith}
use Rattle.std.specs.Option.{option_map, option_map_or}
use Rattle.std.proofs.lemmas.Bool.{cases_eq, eqb-true, eq-eqb, ne_eqb, true≢false}
use Rattle.slot_list.specs.declared.Place.{Place}
use Rattle.slot_list.specs.declared.Place.TheVariants.{Stored}
use Rattle.accounts_index.specs.Index.{Index, kept}
use Rattle.vec_scan.specs.Seal.{row_there}
use Rattle.cell_table.specs.declared.phase.Phase.{Phase}
use Rattle.cell_table.specs.declared.phase.Phase.TheVariants as cells
use Rattle.cell_table.specs.Phases as phases
use Rattle.cell_table.specs.Phases.{has_id, unpinned, retired, published}
use Rattle.cell_table.specs.Cells.{Table, cell_at}
use Rattle.storage_map.specs.declared.entry.Live as entry
use Rattle.storage_map.specs.Slots as maps
use Rattle.storage_map.specs.Slots.{Slots, live_at, begun_at, begun_with, Becomes}
use Rattle.adb_model.specs.Lists.{among, last}
use Rattle.adb_model.specs.State as model
use Rattle.adb_model.specs.State.{Row, Storage, State}
use Rattle.adb_model.specs.Presence.{has_store, has_row, is_live, is_held, is_cached, is_named, is_present, ends_in_tomb}
use Rattle.adb_model.specs.Storages.{used, storage_with, live_storage, filling_storage, open_flush, pin_count}
use Rattle.adb_model.specs.Shrink.{named_in, installed}
use Rattle.adb_model.specs.Shrinking.{IsOpenShrink}
use Rattle.adb_model.specs.Stats.{counts_of}
use Rattle.adb_model.specs.Call.{Counts}
use Rattle.adb_model.specs.Sound.{IsSound, last_row}
use Rattle.book_parts.specs.Parts.{Parts, Shared}
use Rattle.book_parts.specs.Cells.{CellsFit, IsImageOf, IsCellOf, row_in}
use Rattle.book_parts.specs.Storages.{IsLiveOf, IsBegunOf, IsPlacedAt}
use Rattle.book_parts.specs.Reflects.{Reflects, counts_in, mark_of, indexed, present_mark}
use Rattle.book_parts.specs.Flushes.{moved, place_of}
use Rattle.book_parts.specs.Shrinks.{Copy, shrink_of, storage_of, IsOpenCopy, IsCopyIn, with_phase, Rehomes}
use Rattle.book_parts.proofs.Found.{some_is, none_some}
use Rattle.book_parts.proofs.CellChanges as changes
use Rattle.book_parts.proofs.CellChanges.{placed_kept, placed_apart, one_if}
use Rattle.book_parts.proofs.CellOfStorage.{one_id, live_cell}
use Rattle.book_parts.proofs.CellSums.{in_range}
use Rattle.book_parts.proofs.EndedFlush.{moved_is}
use Rattle.book_parts.proofs.Lookups.{marked}
use Rattle.book_parts.proofs.OpenCopy.{new_id, old_id, filling_cell, old_cell, old_apart}
use Rattle.book_parts.proofs.RetiredStorage.{live_form}
use Rattle.book_parts.proofs.RowPlaces.{place_there, row_of_place}
use Rattle.book_parts.proofs.SameRows.{same_keys, same_length}
use Rattle.book_parts.proofs.SlotChanges.{live_kept, begun_kept, same_counts}
use Rattle.book_parts.proofs.StoredVersions.{and_not}

-- the old storage, retired, and the copy, in use
abbrev pub retired_of : Storage → Storage
retired_of t = record t { phase = model.Retired }

abbrev pub used_of : Storage → Storage
used_of t = record t { phase = model.Live }

-- the state in which the copy has taken the old storage's place
pub record Installed (m : State) (copy : Copy) (old new : Storage) : Type 0 where
  pub in_use : IsTrue (is_live old)
  pub live_before : live_storage m copy.slot ≡ Some old
  pub held_before : (k : List ℕ) → is_held m copy.slot k ≡ has_row k old.rows
  pub held : (s : ℕ) (k : List ℕ) → is_held (installed m (shrink_of copy)) s k ≡ cond (eqb copy.slot s) (has_row k new.rows) (is_held m s k)
  pub old_with_id : storage_with (installed m (shrink_of copy)) copy.old ≡ Some (retired_of old)
  pub new_with_id : storage_with (installed m (shrink_of copy)) copy.id ≡ Some (used_of new)
  pub others : (id : ℕ) → copy.old ≢ id → copy.id ≢ id → storage_with (installed m (shrink_of copy)) id ≡ storage_with m id
  pub live : (s : ℕ) → live_storage (installed m (shrink_of copy)) s ≡ cond (eqb copy.slot s) (Some (used_of new)) (live_storage m s)
  pub filling : (s : ℕ) → filling_storage (installed m (shrink_of copy)) s ≡ cond (eqb copy.slot s) None (filling_storage m s)
  pub flush : (s : ℕ) → open_flush (installed m (shrink_of copy)) s ≡ open_flush m s
  pub pinned : (id : ℕ) → pin_count m id ≡ pin_count (installed m (shrink_of copy)) id + one_if (eqb copy.old id)
  pub bytes : used (installed m (shrink_of copy)) ≡ used m
  pub storages : length (installed m (shrink_of copy)).storages ≡ length m.storages
  pub filling_count : (counts_of m).filling ≡ (counts_of (installed m (shrink_of copy))).filling + 1
  pub live_count : (counts_of (installed m (shrink_of copy))).live ≡ (counts_of m).live
  pub retired_count : (counts_of (installed m (shrink_of copy))).retired ≡ (counts_of m).retired + 1
  pub row_count : (counts_of (installed m (shrink_of copy))).rows + length old.rows ≡ (counts_of m).rows + length new.rows
  pub pin_total : (counts_of m).pins ≡ (counts_of (installed m (shrink_of copy))).pins + 1

-- ---- marks and tests

abbrev mark : Bool → Bool → Bool → Option (Bool × Bool)
mark p t c = cond p (Some (t, c)) None

-- what is found elsewhere has the same mark where it wasn't cached
mark_moved : (cell : ℕ) (place : Option ℕ) (i : Option (Bool × Place)) (p t : Bool) → option_map mark_of i ≡ mark p t false → option_map mark_of (moved cell place i) ≡ mark p t false
mark_moved cell None i p t e = e
mark_moved cell (Some offset) None p t e = e
mark_moved cell (Some offset) (Some i) true t e = ap (λ (b : Bool). mark true b false) (ap (λ (x : Bool × Bool). x.0) (some_is e))
mark_moved cell (Some offset) (Some i) false t e = absurd (none_some (sym e))

-- the keys of the old storage that aren't left out are those of the copy
left_held : (old copied : Bool) → (copied ≡ true → old ≡ true) → (not (old && not copied) && old) ≡ copied
left_held true true within = refl
left_held true false within = refl
left_held false true within = absurd (true≢false (sym (within refl)))
left_held false false within = refl

module _ (p : Parts) (m : State) (copy : Copy) (from cell : ℕ) (image : Shared) (places : List ℕ) (index : Index) (slots : Slots) (h : IsSound m) (r : Reflects p m)
    (o : IsOpenCopy copy m) (facts : IsOpenShrink m copy.slot (shrink_of copy) o.old o.new) (c : IsCopyIn copy from cell p.cells p.map) (d : Installed m copy o.old o.new)
    (of_image : IsImageOf (storage_of copy) image.value) (stand : map (row_there image.value.rows) places ≡ map Some copy.rows)
    (e : Rehomes copy.slot cell copy.rows places copy.dead p.index index)
    (becomes : Becomes p.map slots copy.slot (maps.published (live_at p.map copy.slot) (begun_at p.map copy.slot)) None) where
  abbrev n : State
  n = installed m (shrink_of copy)

  abbrev slot : ℕ
  slot = copy.slot

  abbrev before : List (Phase Shared)
  before = p.cells.cells

  -- ---- cells

  pub old_form : (image : Shared) × (cell_at before from ≡ cells.Live o.old.id o.old.bytes (pin_count m copy.old) image) × IsImageOf o.old image.value
  old_form =
      let is = old_cell p m copy r o facts from c.of_old in
      live_form o.old (pin_count m copy.old) (cell_at before from) (live_cell o.old (pin_count m copy.old) (cell_at before from) d.in_use is)
      (ap (λ i. has_id i (cell_at before from)) (old_id p m copy r o facts) ∙ c.of_old) is

  abbrev was_old : Phase Shared
  was_old = cells.Live o.old.id o.old.bytes (pin_count m copy.old) old_form.0

  abbrev unpinned_old : Phase Shared
  unpinned_old = cells.Live o.old.id o.old.bytes (pin_count m copy.old - 1) old_form.0

  abbrev now_old : Phase Shared
  now_old = cells.Retired o.old.id o.old.bytes (pin_count m copy.old - 1) old_form.0

  abbrev was_new : Phase Shared
  was_new = cells.Filling copy.id o.new.bytes

  abbrev now_new : Phase Shared
  now_new = cells.Live copy.id o.new.bytes 0 image

  is_old : cell_at before from ≡ was_old
  is_old = old_form.1

  abbrev first : List (Phase Shared)
  first = set before from unpinned_old

  abbrev second : List (Phase Shared)
  second = set first from now_old

  abbrev after : List (Phase Shared)
  after = set second cell now_new

  apart : from ≢ cell
  apart same =
      let clash : phases.is_filling was_new ≡ phases.is_filling was_old = ap phases.is_filling (sym (filling_cell p m copy r o facts cell c.of_id) ∙ ap (cell_at before) (sym same) ∙ is_old) in
      true≢false clash

  within_from : from < length before
  within_from = in_range before copy.old from c.of_old

  within_first : from < length first
  within_first = subst (λ (k : ℕ). from < k) (sym (length-set before from unpinned_old)) within_from

  at_first : cell_at first from ≡ unpinned_old
  at_first = changes.cell_here before from was_old unpinned_old within_from is_old

  at_second : cell_at second from ≡ now_old
  at_second = changes.cell_here first from unpinned_old now_old within_first at_first

  second_other : (k : ℕ) → (k ≡ from → ⊥) → cell_at second k ≡ cell_at before k
  second_other k ne = changes.cell_other first from unpinned_old now_old within_first at_first k ne ∙ changes.cell_other before from was_old unpinned_old within_from is_old k ne

  is_new : cell_at second cell ≡ was_new
  is_new = second_other cell (λ same. apart (sym same)) ∙ filling_cell p m copy r o facts cell c.of_id

  within_second : cell < length second
  within_second = in_range second copy.id cell (ap (has_id copy.id) is_new ∙ eq-eqb copy.id copy.id refl)

  at_from : cell_at after from ≡ now_old
  at_from = changes.cell_other second cell was_new now_new within_second is_new from apart ∙ at_second

  at_cell : cell_at after cell ≡ now_new
  at_cell = changes.cell_here second cell was_new now_new within_second is_new

  at_other : (k : ℕ) → (k ≡ from → ⊥) → (k ≡ cell → ⊥) → cell_at after k ≡ cell_at before k
  at_other k ne nc = changes.cell_other second cell was_new now_new within_second is_new k nc ∙ second_other k ne

  -- what the three changes of cells make
  table_is : with_phase (published image) cell (with_phase retired from (with_phase unpinned from p.cells)) ≡ record p.cells { cells = after }
  table_is =
      ap (λ (x : Phase Shared). with_phase (published image) cell (with_phase retired from (record p.cells { cells = set before from (unpinned x) }))) is_old
      ∙ ap (λ (x : Phase Shared). with_phase (published image) cell (record p.cells { cells = set first from (retired x) })) at_first
      ∙ ap (λ (x : Phase Shared). record p.cells { cells = set second cell (published image x) }) is_new

  -- a cell has the ids that it had
  same_ids : (k q : ℕ) → has_id q (cell_at after k) ≡ has_id q (cell_at before k)
  same_ids k q = elim (cases_eq k from) [
    | inl x ↦ ap (λ i. has_id q (cell_at after i)) x ∙ ap (has_id q) at_from ∙ sym (ap (has_id q) is_old) ∙ ap (λ i. has_id q (cell_at before i)) (sym x)
    | inr ne ↦ elim (cases_eq k cell) [
      | inl y ↦ ap (λ i. has_id q (cell_at after i)) y ∙ ap (has_id q) at_cell ∙ sym (ap (has_id q) (filling_cell p m copy r o facts cell c.of_id)) ∙ ap (λ i. has_id q (cell_at before i)) (sym y)
      | inr nc ↦ ap (has_id q) (at_other k ne nc)
    ]
  ]

  image_of_new : IsImageOf (used_of o.new) image.value
  image_of_new = record {
    slot = of_image.slot ∙ sym facts.copy_slot;
    id = of_image.id ∙ sym (new_id p m copy r o facts);
    rows = λ k. of_image.rows k ∙ o.same k;
  }

  image_of_old : IsImageOf (retired_of o.old) old_form.0.value
  image_of_old = record { slot = old_form.2.slot; id = old_form.2.id; rows = old_form.2.rows }

  old_fits : IsCellOf (retired_of o.old) (pin_count n copy.old) now_old
  old_fits = (refl, refl, omega (arith, d.pinned copy.old, ap one_if (eq-eqb copy.old copy.old refl)), image_of_old)

  new_fits : IsCellOf (used_of o.new) (pin_count n copy.id) now_new
  new_fits = (refl, refl, omega (arith, d.pinned copy.id, facts.unpinned), image_of_new)

  storage_in : (k q : ℕ) → has_id q (cell_at after k) ≡ true → (t : Storage) × (storage_with n q ≡ Some t) × IsCellOf t (pin_count n q) (cell_at after k)
  storage_in k q has =
      let had : has_id q (cell_at before k) ≡ true = sym (same_ids k q) ∙ has in
      elim (cases_eq k from) [
        | inl x ↦
            let one : copy.old ≡ q = one_id copy.old q (cell_at before from) c.of_old (ap (λ i. has_id q (cell_at before i)) (sym x) ∙ had) in (
              retired_of o.old,
              ap (storage_with n) (sym one) ∙ d.old_with_id,
              subst (λ (i : ℕ). IsCellOf (retired_of o.old) (pin_count n i) (cell_at after k)) one (subst (IsCellOf (retired_of o.old) (pin_count n copy.old)) (sym (ap (cell_at after) x ∙ at_from)) old_fits),
            )
        | inr ne ↦ elim (cases_eq k cell) [
          | inl y ↦
              let one : copy.id ≡ q = one_id copy.id q (cell_at before cell) c.of_id (ap (λ i. has_id q (cell_at before i)) (sym y) ∙ had) in (
                used_of o.new,
                ap (storage_with n) (sym one) ∙ d.new_with_id,
                subst (λ (i : ℕ). IsCellOf (used_of o.new) (pin_count n i) (cell_at after k)) one (subst (IsCellOf (used_of o.new) (pin_count n copy.id)) (sym (ap (cell_at after) y ∙ at_cell)) new_fits),
              )
          | inr nc ↦
              let f = r.cells.each k q had in
              let not_old : copy.old ≢ q = λ same. ne (r.cells.apart k from q had (ap (λ i. has_id i (cell_at before from)) (sym same) ∙ c.of_old)) in
              let not_new : copy.id ≢ q = λ same. nc (r.cells.apart k cell q had (ap (λ i. has_id i (cell_at before cell)) (sym same) ∙ c.of_id)) in
              let pins : pin_count n q ≡ pin_count m q = omega (arith, d.pinned q, ap one_if (ne_eqb copy.old q not_old)) in
              (f.0, d.others q not_old not_new ∙ f.1, subst (λ (i : ℕ). IsCellOf f.0 i (cell_at after k)) (sym pins) (subst (IsCellOf f.0 (pin_count m q)) (sym (at_other k ne nc)) f.2))
        ]
      ]

  cell_of : (q : ℕ) (t : Storage) → storage_with n q ≡ Some t → (k : ℕ) × (has_id q (cell_at after k) ≡ true)
  cell_of q t x = elim (cases_eq copy.old q) [
    | inl same ↦ (from, same_ids from q ∙ ap (λ i. has_id i (cell_at before from)) (sym same) ∙ c.of_old)
    | inr not_old ↦ elim (cases_eq copy.id q) [
      | inl same ↦ (cell, same_ids cell q ∙ ap (λ i. has_id i (cell_at before cell)) (sym same) ∙ c.of_id)
      | inr not_new ↦ let f = r.cells.every q t (sym (d.others q not_old not_new) ∙ x) in (f.0, same_ids f.0 q ∙ f.1)
    ]
  ]

  counted_by : (test : Phase Shared → Bool) → (count_by test after + one_if (test was_old) + one_if (test was_new)) + one_if (test unpinned_old)
      ≡ (count_by test before + one_if (test now_old) + one_if (test now_new)) + one_if (test unpinned_old)
  counted_by test =
      omega (
        arith,
        changes.count_changed before from was_old unpinned_old within_from is_old test,
        changes.count_changed first from unpinned_old now_old within_first at_first test,
        changes.count_changed second cell was_new now_new within_second is_new test,
      )

  summed_by : (f : Phase Shared → ℕ) → (sum_by f after + f was_old + f was_new) + f unpinned_old ≡ (sum_by f before + f now_old + f now_new) + f unpinned_old
  summed_by f =
      omega (
        arith,
        changes.sum_changed before from was_old unpinned_old within_from is_old f,
        changes.sum_changed first from unpinned_old now_old within_first at_first f,
        changes.sum_changed second cell was_new now_new within_second is_new f,
      )

  fit : CellsFit n after
  fit = record {
    all = length-set second cell now_new ∙ length-set first from now_old ∙ length-set before from unpinned_old ∙ r.cells.all;
    free = omega (arith, d.storages, counted_by phases.is_free, r.cells.free);
    apart = λ a b q x y. r.cells.apart a b q (sym (same_ids a q) ∙ x) (sym (same_ids b q) ∙ y);
    each = storage_in;
    every = cell_of;
  }

  -- ---- what a look-up finds

  -- nothing of the slot is cached
  uncached : (k : List ℕ) → is_cached m slot k ≡ false
  uncached k = and_not (has_store m slot k) (among slot m.flushed) facts.flushed

  marks : (k : List ℕ) (s : ℕ) → option_map mark_of (indexed index s k) ≡ present_mark n s k
  marks k s = ap (option_map mark_of) (e.versions k s) ∙ by (eqb slot s) refl
    where
      by : (b : Bool) → eqb slot s ≡ b → option_map mark_of (moved cell (cond b (place_of copy.rows places k) None) (indexed p.index s k)) ≡ mark (is_present m s k) (ends_in_tomb m s k) (is_cached m s k)
      by true x =
          let none : is_cached m s k ≡ false = ap (λ q. is_cached m q k) (sym (eqb-true slot s x)) ∙ uncached k in
          mark_moved cell (place_of copy.rows places k) (indexed p.index s k) (is_present m s k) (ends_in_tomb m s k)
          (r.marks k s ∙ ap (mark (is_present m s k) (ends_in_tomb m s k)) none)
          ∙ sym (ap (mark (is_present m s k) (ends_in_tomb m s k)) none)
      by false x = r.marks k s

  -- the slot's pairs that are in a storage have a place
  none_left : (k : List ℕ) (tomb : Bool) (c offset : ℕ) → indexed p.index slot k ≡ Some (tomb, Stored c offset) → place_of copy.rows places k ≡ None → ⊥
  none_left k tomb c offset x none =
      let present : is_present m slot k ≡ true = (marked (is_present m slot k) (ends_in_tomb m slot k) (is_cached m slot k) (mark_of (tomb, Stored c offset)) (sym (ap (option_map mark_of) x) ∙ r.marks k slot)).0 in
      let named : is_named m slot k ≡ true = sym (ap (λ b. b || is_named m slot k) (uncached k)) ∙ present in
      let row : has_row k copy.rows ≡ true = same_keys copy.rows o.new.rows k o.same ∙ facts.named k named in
      true≢false (sym row ∙ sym (place_there (row_there image.value.rows) k copy.rows places stand) ∙ ap is_some none)

  placed : (k : List ℕ) (s : ℕ) (tomb : Bool) (at offset : ℕ) → indexed index s k ≡ Some (tomb, Stored at offset) → IsPlacedAt n after s k at offset
  placed k s tomb at offset x = by (eqb slot s) refl (sym (e.versions k s) ∙ x)
    where
      here : (found : Option ℕ) → place_of copy.rows places k ≡ found → moved cell found (indexed p.index slot k) ≡ Some (tomb, Stored at offset) → IsPlacedAt n after slot k at offset
      here None f y = absurd (none_left k tomb at offset y f)
      here (Some place) f y =
          let row = row_of_place (row_there image.value.rows) k copy.rows places place stand o.differ f in
          let row_is : has_row k o.new.rows ≡ true = sym (same_keys copy.rows o.new.rows k o.same) ∙ sym (place_there (row_there image.value.rows) k copy.rows places stand) ∙ ap is_some f in
          let last_is : last_row k copy.rows ≡ last_row k o.new.rows = ap (λ (rs : List Row). option_map (λ (q : Row). q.account) (last rs)) (o.same k) in
          let at_is = moved_is cell place (indexed p.index slot k) tomb at offset y in
          let new : IsPlacedAt n after slot k cell place = record {
            storage = used_of o.new;
            account = row.0;
            live = d.live slot ∙ ap (λ (b : Bool). cond b (Some (used_of o.new)) (live_storage m slot)) (eq-eqb slot slot refl);
            there = ap (has_id o.new.id) at_cell ∙ eq-eqb copy.id o.new.id (sym (new_id p m copy r o facts));
            row = ap (λ (c : Phase Shared). row_in c place) at_cell ∙ row.1;
            last = sym (facts.last k row_is) ∙ sym last_is ∙ row.2;
          } in
          subst (λ (q : ℕ). IsPlacedAt n after slot k q offset) at_is.0 (subst (λ (q : ℕ). IsPlacedAt n after slot k cell q) at_is.1 new)

      by : (b : Bool) → eqb slot s ≡ b → moved cell (cond b (place_of copy.rows places k) None) (indexed p.index s k) ≡ Some (tomb, Stored at offset) → IsPlacedAt n after s k at offset
      by true f y =
          let same = eqb-true slot s f in
          subst (λ (q : ℕ). IsPlacedAt n after q k at offset) same
          (here (place_of copy.rows places k) refl (ap (λ q. moved cell (place_of copy.rows places k) (indexed p.index q k)) same ∙ y))
      by false f y =
          let old = r.placed k s tomb at offset y in
          let not_from : at ≡ from → ⊥ = λ same. old_apart p m copy r o facts h s old.storage f old.live
          (one_id old.storage.id copy.old (cell_at before from) (ap (λ i. has_id old.storage.id (cell_at before i)) (sym same) ∙ old.there) c.of_old) in
          let not_cell = placed_apart m before s k at offset cell was_new (filling_cell p m copy r o facts cell c.of_id) refl old in
          placed_kept m n before after s k at offset (d.live s ∙ ap (λ (b : Bool). cond b (Some (used_of o.new)) (live_storage m s)) f) refl (at_other at not_from not_cell) old

  held : (k : List ℕ) (s : ℕ) → among s (kept index k).held ≡ is_held n s k
  held k s = e.held k s ∙ ap (λ b. not (eqb slot s && has_row k copy.dead) && b) (r.held k s) ∙ by (eqb slot s) refl ∙ sym (d.held s k)
    where
      by : (b : Bool) → eqb slot s ≡ b → (not (b && has_row k copy.dead) && is_held m s k) ≡ cond b (has_row k o.new.rows) (is_held m s k)
      by true f =
          let before_is : is_held m s k ≡ has_row k o.old.rows = ap (λ q. is_held m q k) (sym (eqb-true slot s f)) ∙ d.held_before k in
          let same = same_keys copy.rows o.new.rows k o.same in
          ap (λ b. not (has_row k copy.dead) && b) before_is ∙ ap (λ b. not b && has_row k o.old.rows) (o.left k)
          ∙ left_held (has_row k o.old.rows) (has_row k copy.rows) (λ t. facts.within k (sym same ∙ t)) ∙ same
      by false f = refl

  -- ---- slots

  keeps : (u : Storage) (k : ℕ) → has_id u.id (cell_at before k) ≡ true → has_id u.id (cell_at after k) ≡ true
  keeps u k x = same_ids k u.id ∙ x

  live_entry : (l : Option entry.Live) → IsLiveOf before (named_in m slot) l (Some o.old) → (alive : ℕ) × (alive ≡ named_in m slot)
      × (maps.alive_in l ≡ alive) × (maps.total_in l ≡ length o.old.rows)
      × (maps.published l (Some (begun_with cell (length copy.rows))) ≡ Some (record { cell = cell; alive = alive; total = length copy.rows }))
  live_entry None is = absurd is
  live_entry (Some l) is = (l.alive, is.1, refl, is.2, refl)

  entry_is : (alive : ℕ) × (alive ≡ named_in m slot) × (maps.alive_in (live_at p.map slot) ≡ alive) × (maps.total_in (live_at p.map slot) ≡ length o.old.rows)
      × (maps.published (live_at p.map slot) (begun_at p.map slot) ≡ Some (record { cell = cell; alive = alive; total = length copy.rows }))
  entry_is =
      let f = live_entry (live_at p.map slot) (subst (IsLiveOf before (named_in m slot) (live_at p.map slot)) d.live_before (r.slots.lives slot)) in
      (f.0, f.1, f.2, f.3, ap (maps.published (live_at p.map slot)) c.begun ∙ f.4)

  abbrev now_live : entry.Live
  now_live = record { cell = cell; alive = entry_is.0; total = length copy.rows }

  lives : (s : ℕ) → IsLiveOf after (named_in n s) (live_at slots s) (live_storage n s)
  lives s =
      subst (λ l. IsLiveOf after (named_in m s) l (live_storage n s)) (sym (becomes.lives s ∙ ap (λ l. cond (eqb slot s) l (live_at p.map s)) entry_is.4))
      (subst (IsLiveOf after (named_in m s) (cond (eqb slot s) (Some now_live) (live_at p.map s))) (sym (d.live s)) (by (eqb slot s) refl))
    where
      by : (b : Bool) → eqb slot s ≡ b → IsLiveOf after (named_in m s) (cond b (Some now_live) (live_at p.map s)) (cond b (Some (used_of o.new)) (live_storage m s))
      by true f = (
        ap (has_id o.new.id) at_cell ∙ eq-eqb copy.id o.new.id (sym (new_id p m copy r o facts)),
        entry_is.1 ∙ ap (named_in m) (eqb-true slot s f),
        same_length copy.rows o.new.rows o.same,
      )
      by false f = live_kept before after (named_in m s) (live_at p.map s) (live_storage m s) (λ u k x g. keeps u k g) (r.slots.lives s)

  begins : (s : ℕ) → IsBegunOf after (begun_at slots s) (filling_storage n s)
  begins s =
      subst (λ b. IsBegunOf after b (filling_storage n s)) (sym (becomes.begins s))
      (subst (IsBegunOf after (cond (eqb slot s) None (begun_at p.map s))) (sym (d.filling s)) (by (eqb slot s)))
    where
      by : (b : Bool) → IsBegunOf after (cond b None (begun_at p.map s)) (cond b None (filling_storage m s))
      by true = tt
      by false = begun_kept before after (begun_at p.map s) (filling_storage m s) (λ u k x g. keeps u k g) (r.slots.begins s)

  -- ---- counts

  abbrev new_parts : Parts
  new_parts = record p { index = index; cells = record p.cells { cells = after }; map = slots }

  counted : counts_in new_parts ≡ counts_of n
  counted =
      let part = λ (f : Counts → ℕ). ap f r.counts in
      let alive_after = ap maps.alive_in entry_is.4 in
      let total_after = ap maps.total_in entry_is.4 in
      same_counts (counts_in new_parts) (counts_of n)
      (part (λ x. x.cached))
      (omega (arith, counted_by phases.is_filling, part (λ x. x.filling), d.filling_count))
      (omega (arith, counted_by phases.is_live, part (λ x. x.live), d.live_count))
      (omega (arith, counted_by phases.is_retired, part (λ x. x.retired), d.retired_count))
      (omega (arith, becomes.alive, entry_is.2, alive_after, part (λ x. x.named)))
      (omega (arith, becomes.total, entry_is.3, total_after, same_length copy.rows o.new.rows o.same, part (λ x. x.rows), d.row_count))
      (omega (arith, summed_by phases.bytes_of, part (λ x. x.bytes), d.bytes))
      (omega (arith, summed_by phases.pins_of, facts.pinned, part (λ x. x.pins), d.pin_total))

  reflects_installed : Reflects new_parts n
  reflects_installed = record {
    marks = marks;
    placed = placed;
    held = held;
    expected = λ k s. e.expected k s ∙ r.expected k s ∙ sym (ap (λ f. option_map_or (λ (u : Storage). has_row k u.rows) f false) (d.flush s));
    rows = r.rows;
    roots = r.roots;
    cleaned = r.cleaned;
    leases = r.leases;
    cells = fit;
    slots = record { lives = lives; begins = begins };
    counts = counted;
    limit = r.limit;
    next_id = r.next_id;
    snap = r.snap;
  }

  -- and so do those whose table is what the three changes of cells make
  pub reflects_made : Reflects (record p { index = index; cells = with_phase (published image) cell (with_phase retired from (with_phase unpinned from p.cells)); map = slots }) n
  reflects_made = subst (λ (t : Table Shared). Reflects (record p { index = index; cells = t; map = slots }) n) (sym table_is) reflects_installed
