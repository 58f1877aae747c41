-- A flush that is open in a state is open in the parts that reflect it.
use Rattle.std.proofs.Common.{◌≡◌, ℕ, ◌<◌, List, length, eqb, true, false, cond, not, ◌&&◌, ◌||◌, IsTrue, Contains, Option, Some, None, IsSome, refl, sym, ap, ap₂, ◌∙◌, subst, inl, inr}
use Rattle.std.specs.Option.{option_map, option_map_or}
use Rattle.std.proofs.lemmas.Bool.{and_parts, and_from, or_left, eqb-true, eqb-false, true≢false, not_from_false, cases_lt}
use Rattle.std.proofs.lemmas.List.{get_or_past}
use Rattle.std.proofs.lemmas.List.Elements.{All-contains}
use Rattle.cell_table.specs.declared.phase.Phase.{Phase}
use Rattle.cell_table.specs.declared.phase.Phase.TheVariants.{Free, Filling, Live, Retired}
use Rattle.cell_table.specs.Phases as phases
use Rattle.cell_table.specs.Phases.{has_id}
use Rattle.cell_table.specs.Cells.{cell_at}
use Rattle.storage_map.specs.declared.entry.Begun.{Begun}
use Rattle.storage_map.specs.Slots.{begun_at, begun_with}
use Rattle.adb_model.specs.Lists.{among}
use Rattle.adb_model.specs.State as model
use Rattle.adb_model.specs.State.{Storage, State}
use Rattle.adb_model.specs.Presence.{has_store, has_row, is_live, is_live_phase, is_cached, is_named, is_present, ends_in_tomb}
use Rattle.adb_model.specs.Storages.{is_filling, is_filling_phase, live_storage, filling_storage, open_flush, pin_count}
use Rattle.adb_model.specs.Sound.{IsSound}
use Rattle.adb_model.specs.Once.{IsOnce, RowsOnce}
use Rattle.adb_model.specs.Laws.{IsOpenFlush}
use Rattle.book_parts.specs.Parts.{Parts, Shared}
use Rattle.book_parts.specs.Cells.{IsCellOf}
use Rattle.book_parts.specs.Storages.{IsBegunOf}
use Rattle.book_parts.specs.Reflects.{Reflects, mark_of, indexed}
use Rattle.book_parts.specs.Flushes.{IsOpenIn}
use Rattle.book_parts.proofs.Found.{some_is, none_some, found, of_id, one_of_id}

pub begun_some : (cells : List (Phase Shared)) (begun : Option Begun) (t : Storage) → IsBegunOf cells begun (Some t)
    → (cell : ℕ) × (begun ≡ Some (begun_with cell (length t.rows))) × (has_id t.id (cell_at cells cell) ≡ true)
begun_some cells None t is = absurd is
begun_some cells (Some b) t is = (b.cell, ap (λ (n : ℕ). Some (begun_with b.cell n)) is.1, is.0)

pub not_both : (phase : model.Phase) → is_live_phase phase ≡ true → is_filling_phase phase ≡ true → ⊥
not_both model.Filling live fills = true≢false (sym live)
not_both model.Live live fills = true≢false (sym fills)
not_both model.Retired live fills = true≢false (sym live)

-- what is retired is not being filled
not_retired : (phase : model.Phase) → not (is_live_phase phase || is_filling_phase phase) ≡ true → is_filling_phase phase ≡ true → ⊥
not_retired model.Filling retired fills = true≢false (sym retired)
not_retired model.Live retired fills = true≢false (sym fills)
not_retired model.Retired retired fills = true≢false (sym fills)

-- the cell of a storage that is being filled
pub filling_form : (t : Storage) (count : ℕ) (phase : Phase Shared) → IsTrue (is_filling t) → has_id t.id phase ≡ true → IsCellOf t count phase → phase ≡ Filling t.id t.bytes
filling_form t count Free fills has is = absurd is
filling_form t count (Filling id bytes) fills has is = ap₂ (λ (i b : ℕ). Filling i b) (eqb-true id t.id has) is.1
filling_form t count (Live id bytes pins image) fills has is = absurd (not_both t.phase is.0 fills)
filling_form t count (Retired id bytes pins image) fills has is = absurd (not_retired t.phase is.0 fills)

one_id : (a b : ℕ) (phase : Phase Shared) → has_id a phase ≡ true → has_id b phase ≡ true → a ≡ b
one_id a b Free h g = absurd (true≢false (sym h))
one_id a b (Filling id bytes) h g = sym (eqb-true id a h) ∙ eqb-true id b g
one_id a b (Live id bytes pins image) h g = sym (eqb-true id a h) ∙ eqb-true id b g
one_id a b (Retired id bytes pins image) h g = sym (eqb-true id a h) ∙ eqb-true id b g

abbrev free : Phase Shared
free = Free

free_filling : (id bytes : ℕ) → free ≡ Filling id bytes → ⊥
free_filling id bytes e = true≢false (ap phases.is_free e)

some_of : {A B : Type 0} (f : A → B) (o : Option A) (y : B) → option_map f o ≡ Some y → IsSome o
some_of f None y e = absurd (none_some e)
some_of f (Some x) y e = refl

module _ (p : Parts) (m : State) (slot : ℕ) (t : Storage) (r : Reflects p m) (facts : IsOpenFlush m slot t) where
  begun_is : IsBegunOf p.cells.cells (begun_at p.map slot) (Some t)
  begun_is = subst (IsBegunOf p.cells.cells (begun_at p.map slot)) facts.in_slot (r.slots.begins slot)

  -- the cell that has its id is being filled, with its bytes
  pub filling_cell : (cell : ℕ) → has_id t.id (cell_at p.cells.cells cell) ≡ true → cell_at p.cells.cells cell ≡ Filling t.id t.bytes
  filling_cell cell h =
      let o = r.cells.each cell t.id h in
      let is : IsCellOf t (pin_count m t.id) (cell_at p.cells.cells cell) = subst (λ u. IsCellOf u (pin_count m t.id) (cell_at p.cells.cells cell)) (some_is (sym o.1 ∙ facts.with_id)) o.2 in
      filling_form t (pin_count m t.id) (cell_at p.cells.cells cell) facts.fills h is

  pub within_cells : (cell : ℕ) → has_id t.id (cell_at p.cells.cells cell) ≡ true → cell < length p.cells.cells
  within_cells cell h = elim (cases_lt cell (length p.cells.cells)) [
    | inl lt ↦ lt
    | inr ge ↦ absurd (free_filling t.id t.bytes (sym (get_or_past p.cells.cells cell free ge) ∙ filling_cell cell h))
  ]

  -- each key with a row is present
  pub cached_of : (k : List ℕ) → has_row k t.rows ≡ true → is_cached m slot k ≡ true
  cached_of k h = and_from (has_store m slot k) (not (among slot m.flushed)) (sym (facts.stored k) ∙ h) (not_from_false (among slot m.flushed) facts.unflushed)

  pub present_of : (k : List ℕ) → has_row k t.rows ≡ true → is_present m slot k ≡ true
  present_of k h = or_left (is_cached m slot k) (is_named m slot k) (cached_of k h)

  there : Contains m.storages t
  there = (of_id m t.id t facts.with_id).0

  pub open_in : IsOnce m → open_flush m slot ≡ Some t → (cell : ℕ) × IsOpenIn slot t.id cell t.rows p.index p.cells p.map
  open_in once opened =
      let b = begun_some p.cells.cells (begun_at p.map slot) t begun_is in
      let once_here : RowsOnce m t = All-contains (RowsOnce m) m.storages t once.rows there in (
        b.0,
        record {
          begun = b.1;
          of_id = b.2;
          fills = ap phases.is_filling (filling_cell b.0 b.2);
          differ = once_here facts.fills (ap (λ (s : ℕ). among s m.flushed) facts.of_slot ∙ facts.unflushed);
          there = λ k h. some_of mark_of (indexed p.index slot k) _ (r.marks k slot ∙ ap (λ b. cond b (Some (ends_in_tomb m slot k, is_cached m slot k)) None) (present_of k h));
          expected = λ k h. r.expected k slot ∙ ap (λ o. option_map_or (λ (u : Storage). has_row k u.rows) o false) opened ∙ h;
          unheld = λ k h. r.held k slot ∙ facts.held k;
        },
      )

  pub open_id : (cell id : ℕ) → IsOpenIn slot id cell t.rows p.index p.cells p.map → id ≡ t.id
  open_id cell id e =
      let is : IsBegunOf p.cells.cells (Some (begun_with cell (length t.rows))) (Some t) = subst (λ o. IsBegunOf p.cells.cells o (Some t)) e.begun begun_is in
      one_id id t.id (cell_at p.cells.cells cell) e.of_id is.0

  -- ---- no other storage that is found has its id

  pub live_apart : IsSound m → (s : ℕ) (u : Storage) → live_storage m s ≡ Some u → u.id ≡ t.id → ⊥
  live_apart h s u e same =
      let f = found (λ (v : Storage). is_live v && eqb v.slot s) m.storages u e in
      let one = one_of_id m h u t f.0 there same in
      not_both t.phase (ap is_live (sym one) ∙ (and_parts (is_live u) (eqb u.slot s) f.1).0) facts.fills

  pub filling_apart : IsSound m → (s : ℕ) (u : Storage) → eqb slot s ≡ false → filling_storage m s ≡ Some u → u.id ≡ t.id → ⊥
  filling_apart h s u other e same =
      let f = found (λ (v : Storage). is_filling v && eqb v.slot s) m.storages u e in
      let one = one_of_id m h u t f.0 there same in
      eqb-false slot s other (sym facts.of_slot ∙ ap (λ (v : Storage). v.slot) (sym one) ∙ eqb-true u.slot s (and_parts (is_filling u) (eqb u.slot s) f.1).1)
