-- A shrink in hand that is open in a state is open in the parts that reflect it.
use Rattle.std.proofs.Common.{◌≡◌, ℕ, ◌<◌, List, eqb, true, false, not, ◌&&◌, IsFalse, Contains, Option, Some, None, refl, sym, ap, ◌∙◌, subst}
use Rattle.std.specs.Option.{option_map_or}
use Rattle.std.proofs.lemmas.Bool.{and_parts, eqb-true, eqb-false, eq-eqb}
use Rattle.cell_table.specs.declared.phase.Phase.TheVariants.{Filling}
use Rattle.cell_table.specs.Phases as phases
use Rattle.cell_table.specs.Phases.{has_id, pins_of}
use Rattle.cell_table.specs.Cells.{cell_at}
use Rattle.storage_map.specs.declared.entry.Live.{Live}
use Rattle.storage_map.specs.Slots.{live_at, begun_at, begun_with}
use Rattle.adb_model.specs.State.{Row, Storage, State}
use Rattle.adb_model.specs.Presence.{has_row, is_live}
use Rattle.adb_model.specs.Storages.{is_filling, live_storage, filling_storage, open_shrink, pin_count}
use Rattle.adb_model.specs.Shrink.{is_current}
use Rattle.adb_model.specs.Shrinking.{IsOpenShrink}
use Rattle.adb_model.specs.Laws.{SameRows}
use Rattle.adb_model.specs.Sound.{IsSound}
use Rattle.book_parts.specs.Parts.{Parts}
use Rattle.book_parts.specs.Cells.{IsCellOf}
use Rattle.book_parts.specs.Storages.{IsBegunOf}
use Rattle.book_parts.specs.Reflects.{Reflects}
use Rattle.book_parts.specs.Shrinks.{Copy, shrink_of, IsOpenCopy, IsCopyIn, is_in_use_at}
use Rattle.book_parts.proofs.Found.{some_is, found, of_id, one_of_id}
use Rattle.book_parts.proofs.CellOfStorage.{one_id, filled_cell}
use Rattle.book_parts.proofs.Members.{both_ways}
use Rattle.book_parts.proofs.OpenFlush.{begun_some, filling_form, not_both}
use Rattle.book_parts.proofs.SameRows.{same_length}
use Rattle.book_parts.proofs.UsedStorage.{none_used, used_storage}

-- what is known of the storages between which the shrink stands
pub facts_of : (m : State) (copy : Copy) (o : IsOpenCopy copy m) (old new : Storage) → IsOpenShrink m copy.slot (shrink_of copy) old new → IsOpenShrink m copy.slot (shrink_of copy) o.old o.new
facts_of m copy o old new e =
    subst (λ t. IsOpenShrink m copy.slot (shrink_of copy) t o.new) (some_is (sym e.old_with_id ∙ o.old_there))
    (subst (λ t. IsOpenShrink m copy.slot (shrink_of copy) old t) (some_is (sym e.copy_with_id ∙ o.new_there)) e)

module _ (p : Parts) (m : State) (copy : Copy) (r : Reflects p m) (o : IsOpenCopy copy m) (facts : IsOpenShrink m copy.slot (shrink_of copy) o.old o.new) where
  pub new_id : o.new.id ≡ copy.id
  new_id = (of_id m copy.id o.new o.new_there).1

  pub old_id : o.old.id ≡ copy.old
  old_id = (of_id m copy.old o.old o.old_there).1

  -- the cell that has the copy's id is being filled, with its bytes
  pub filling_cell : (cell : ℕ) → has_id copy.id (cell_at p.cells.cells cell) ≡ true → cell_at p.cells.cells cell ≡ Filling copy.id o.new.bytes
  filling_cell cell h =
      let e = r.cells.each cell copy.id h in
      let is : IsCellOf o.new (pin_count m copy.id) (cell_at p.cells.cells cell) = subst (λ u. IsCellOf u (pin_count m copy.id) (cell_at p.cells.cells cell)) (some_is (sym e.1 ∙ o.new_there)) e.2 in
      filling_form o.new (pin_count m copy.id) (cell_at p.cells.cells cell) facts.fills (ap (λ i. has_id i (cell_at p.cells.cells cell)) new_id ∙ h) is
      ∙ ap (λ i. Filling i o.new.bytes) new_id

  -- the cell of the old storage
  pub old_cell : (from : ℕ) → has_id copy.old (cell_at p.cells.cells from) ≡ true → IsCellOf o.old (pin_count m copy.old) (cell_at p.cells.cells from)
  old_cell from h =
      let e = r.cells.each from copy.old h in
      subst (λ u. IsCellOf u (pin_count m copy.old) (cell_at p.cells.cells from)) (some_is (sym e.1 ∙ o.old_there)) e.2

  pub copy_in : IsSound m → (from : ℕ) × (cell : ℕ) × IsCopyIn copy from cell p.cells p.map
  copy_in h =
      let begun_is : IsBegunOf p.cells.cells (begun_at p.map copy.slot) (Some o.new) = subst (IsBegunOf p.cells.cells (begun_at p.map copy.slot)) facts.in_slot (r.slots.begins copy.slot) in
      let b = begun_some p.cells.cells (begun_at p.map copy.slot) o.new begun_is in
      let has : has_id copy.id (cell_at p.cells.cells b.0) ≡ true = ap (λ i. has_id i (cell_at p.cells.cells b.0)) (sym new_id) ∙ b.2 in
      let f = r.cells.every copy.old o.old o.old_there in (
        f.0,
        b.0,
        record {
          begun = b.1 ∙ ap (λ n. Some (begun_with b.0 n)) (sym (same_length copy.rows o.new.rows o.same));
          of_id = has;
          fills = ap phases.is_filling (filling_cell b.0 has);
          of_old = f.1;
          pinned = subst (λ (n : ℕ). 0 < n) (sym (filled_cell o.old (pin_count m copy.old) (cell_at p.cells.cells f.0) facts.filled (old_cell f.0 f.1))) facts.pinned;
          in_use = λ live e. (used_storage p m copy.slot live h.ids.differ r e).3;
          differ = o.differ;
        },
      )

  -- the slot's storage in use is in the old one's cell where it is the old one
  pub current_is : (from : ℕ) → IsSound m → has_id copy.old (cell_at p.cells.cells from) ≡ true
      → ((t : Storage) → live_storage m copy.slot ≡ Some t → is_current m (shrink_of copy) ≡ eqb t.id copy.old)
      → (live_storage m copy.slot ≡ None → IsFalse (is_current m (shrink_of copy)))
      → is_in_use_at p.map copy.slot from ≡ is_current m (shrink_of copy)
  current_is from h has some none = by (live_at p.map copy.slot) refl
    where
      by : (l : Option Live) → live_at p.map copy.slot ≡ l → option_map_or (λ (live : Live). eqb live.cell from) l false ≡ is_current m (shrink_of copy)
      by None e = sym (none (none_used p m copy.slot r e))
      by (Some live) e =
          let used = used_storage p m copy.slot live h.ids.differ r e in
          both_ways (eqb live.cell from) (eqb used.0.id copy.old)
          (λ t. eq-eqb used.0.id copy.old (one_id used.0.id copy.old (cell_at p.cells.cells from) (ap (λ c. has_id used.0.id (cell_at p.cells.cells c)) (sym (eqb-true live.cell from t)) ∙ used.2) has))
          (λ t. eq-eqb live.cell from (r.cells.apart live.cell from copy.old (ap (λ i. has_id i (cell_at p.cells.cells live.cell)) (sym (eqb-true used.0.id copy.old t)) ∙ used.2) has))
          ∙ sym (some used.0 used.1)

  -- ---- no other storage that is found has the id of one of the two

  new_in : Contains m.storages o.new
  new_in = (of_id m copy.id o.new o.new_there).0

  old_in : Contains m.storages o.old
  old_in = (of_id m copy.old o.old o.old_there).0

  pub live_apart : IsSound m → (s : ℕ) (u : Storage) → live_storage m s ≡ Some u → u.id ≡ copy.id → ⊥
  live_apart h s u e same =
      let f = found (λ (v : Storage). is_live v && eqb v.slot s) m.storages u e in
      let one = one_of_id m h u o.new f.0 new_in (same ∙ sym new_id) in
      not_both o.new.phase (ap is_live (sym one) ∙ (and_parts (is_live u) (eqb u.slot s) f.1).0) facts.fills

  pub filling_apart : IsSound m → (s : ℕ) (u : Storage) → eqb copy.slot s ≡ false → filling_storage m s ≡ Some u → u.id ≡ copy.id → ⊥
  filling_apart h s u other e same =
      let f = found (λ (v : Storage). is_filling v && eqb v.slot s) m.storages u e in
      let one = one_of_id m h u o.new f.0 new_in (same ∙ sym new_id) in
      eqb-false copy.slot s other (sym facts.copy_slot ∙ ap (λ (v : Storage). v.slot) (sym one) ∙ eqb-true u.slot s (and_parts (is_filling u) (eqb u.slot s) f.1).1)

  pub old_apart : IsSound m → (s : ℕ) (u : Storage) → eqb copy.slot s ≡ false → live_storage m s ≡ Some u → u.id ≡ copy.old → ⊥
  old_apart h s u other e same =
      let f = found (λ (v : Storage). is_live v && eqb v.slot s) m.storages u e in
      let one = one_of_id m h u o.old f.0 old_in (same ∙ sym old_id) in
      eqb-false copy.slot s other (sym facts.old_slot ∙ ap (λ (v : Storage). v.slot) (sym one) ∙ eqb-true u.slot s (and_parts (is_live u) (eqb u.slot s) f.1).1)

-- ---- while it stays open

pub copy_stays : (m n : State) (copy : Copy) (o : IsOpenCopy copy m) (old new : Storage) → open_shrink n copy.slot ≡ open_shrink m copy.slot
    → IsOpenShrink n copy.slot (shrink_of copy) old new → old.rows ≡ o.old.rows → new.rows ≡ o.new.rows → IsOpenCopy copy n
copy_stays m n copy o old new same facts old_rows new_rows = record {
  opened = same ∙ o.opened;
  old = old;
  new = new;
  old_there = facts.old_with_id;
  new_there = facts.copy_with_id;
  same = subst (λ (rows : List Row). SameRows copy.rows rows) (sym new_rows) o.same;
  differ = o.differ;
  left = subst (λ (rows : List Row). (k : List ℕ) → has_row k copy.dead ≡ (has_row k rows && not (has_row k copy.rows))) (sym old_rows) o.left;
}
