-- A shrink that has begun is open.
use Rattle.std.proofs.Common.{◌≡◌, ◌≢◌, ℕ, ◌<◌, length, true, cond, Some, refl, sym, ap, subst, ◌∙◌, inl, inr, arith, get_or-set_same, get_or-set_other, length-set}
use Rattle.std.proofs.lemmas.Bool.{cases_lt, true≢false, eq-eqb}
use Rattle.std.proofs.lemmas.List.{get_or_past}
use Rattle.adb_model.specs.Storages.{bytes_of}
use Rattle.append_vec.specs.Filled.{KeysDiffer}
use Rattle.cell_table.specs.declared.phase.Phase.{Phase}
use Rattle.cell_table.specs.declared.phase.Phase.TheVariants.{Free, Filling, Live, Retired}
use Rattle.cell_table.specs.Phases.{has_id, pins_of, is_filling, is_live, pinned}
use Rattle.cell_table.specs.Cells.{Table, cell_at}
use Rattle.storage_map.specs.declared.entry.Live as entry
use Rattle.storage_map.specs.Slots.{Slots, live_at, begun_at, begun_with}
use Rattle.book_parts.specs.Parts.{Shared}
use Rattle.book_parts.specs.Shrinks.{Copy, IsCopyIn, ShrinkBegins}
use Rattle.shrink_plan.proofs.Facts.{some_same}

same_id : (n : ℕ) (phase : Phase Shared) → has_id n (pinned phase) ≡ has_id n phase
same_id n Free = refl
same_id n (Filling id bytes) = refl
same_id n (Live id bytes pins value) = refl
same_id n (Retired id bytes pins value) = refl

live_pinned : (phase : Phase Shared) → is_live phase ≡ true → is_live (pinned phase) ≡ true
live_pinned Free e = e
live_pinned (Filling id bytes) e = e
live_pinned (Live id bytes pins value) e = refl
live_pinned (Retired id bytes pins value) e = e

some_pins : (phase : Phase Shared) → is_live phase ≡ true → 0 < pins_of (pinned phase)
some_pins Free e = absurd (cc e)
some_pins (Filling id bytes) e = absurd (cc e)
some_pins (Live id bytes pins value) e = omega arith
some_pins (Retired id bytes pins value) e = absurd (cc e)

module _ (slot id from cell : ℕ) (job : Copy) (old new : Table Shared) (slots slots' : Slots) (b : ShrinkBegins slot id from cell job.rows old new slots slots') (live : is_live (cell_at old.cells from) ≡ true) where
  apart : from ≢ cell
  apart same = true≢false (sym live ∙ ap (λ c. is_live (cell_at old.cells c)) same ∙ ap is_live b.begun.was_free)

  within : from < length old.cells
  within = elim (cases_lt from (length old.cells)) [
    | inl lt ↦ lt
    | inr past ↦ absurd (true≢false (sym live ∙ ap is_live (get_or_past old.cells from Free past)))
  ]

  abbrev filling : Phase Shared
  filling = Filling id (bytes_of job.rows)

  still : cell_at b.filling.cells from ≡ cell_at old.cells from
  still = ap (λ (t : Table Shared). cell_at t.cells from) b.begun.now ∙ get_or-set_other old.cells cell from filling Free apart

  at_cell : cell_at new.cells cell ≡ filling
  at_cell =
      ap (λ (t : Table Shared). cell_at t.cells cell) b.pinned
      ∙ get_or-set_other b.filling.cells from cell (pinned (cell_at b.filling.cells from)) Free (λ same. apart (sym same))
      ∙ ap (λ (t : Table Shared). cell_at t.cells cell) b.begun.now ∙ get_or-set_same old.cells cell filling Free b.begun.within

  at_from : cell_at new.cells from ≡ pinned (cell_at old.cells from)
  at_from =
      let long : length b.filling.cells ≡ length old.cells = ap (λ (t : Table Shared). length t.cells) b.begun.now ∙ length-set old.cells cell filling in
      ap (λ (t : Table Shared). cell_at t.cells from) b.pinned
      ∙ get_or-set_same b.filling.cells from (pinned (cell_at b.filling.cells from)) Free (omega (arith, long, within))
      ∙ ap pinned still

  pub opens : job.slot ≡ slot → job.id ≡ id → has_id job.old (cell_at old.cells from) ≡ true → (used : entry.Live) → live_at slots slot ≡ Some used → used.cell ≡ from → KeysDiffer job.rows
      → IsCopyIn job from cell new slots'
  opens of_slot of_id of_old used entry_is there differ = record {
    begun =
        ap (begun_at slots') of_slot ∙ b.slots.begins slot
        ∙ ap (λ c. cond c (Some (begun_with cell (length job.rows))) (begun_at slots slot)) (eq-eqb slot slot refl);
    of_id = ap (has_id job.id) at_cell ∙ eq-eqb id job.id (sym of_id);
    fills = ap is_filling at_cell;
    of_old = ap (has_id job.old) at_from ∙ same_id job.old (cell_at old.cells from) ∙ of_old;
    pinned = subst (λ (f : Phase Shared). 0 < pins_of f) (sym at_from) (some_pins (cell_at old.cells from) live);
    in_use = λ l e.
        let same : l ≡ used = some_same (sym e ∙ ap (live_at slots') of_slot ∙ b.slots.lives slot ∙ ap (λ c. cond c (live_at slots slot) (live_at slots slot)) (eq-eqb slot slot refl) ∙ entry_is) in
        ap (λ (x : entry.Live). is_live (cell_at new.cells x.cell)) same ∙ ap (λ c. is_live (cell_at new.cells c)) there
        ∙ ap is_live at_from ∙ live_pinned (cell_at old.cells from) live;
    differ = differ;
  }
