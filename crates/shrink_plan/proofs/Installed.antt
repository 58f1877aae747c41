-- How a shrink has ended, by what its steps tell.
use Rattle.std.proofs.Common.{◌≡◌, ◌↔◌, ℕ, eqb, true, false, Option, Some, None, refl, sym, ap, ◌∙◌}
use Rattle.std.specs.Option.{option_map_or}
use Rattle.std.proofs.lemmas.Bool.{eqb-true, false≢true}
use Rattle.cell_table.specs.Phases.{has_id, is_live, published, retired, unpinned}
use Rattle.cell_table.specs.Cells.{Table, cell_at}
use Rattle.storage_map.specs.declared.entry.Begun.{Begun}
use Rattle.storage_map.specs.declared.entry.Live.{Live}
use Rattle.storage_map.specs.Slots.{Slots, live_at, begun_at}
use Rattle.book_parts.specs.Parts.{Shared}
use Rattle.book_parts.specs.Shrinks.{Copy, IsCopyIn, with_phase, is_in_use_at}
use Rattle.shrink_plan.proofs.Facts.{some_same}

module _ (copy : Copy) (from cell : ℕ) (cells : Table Shared) (slots : Slots) (is : IsCopyIn copy from cell cells slots) where
  -- the cells that are looked up are those of the shrink
  pub same_from : (f : ℕ) → ((c : ℕ) → (Some f ≡ Some c) ↔ (has_id copy.old (cell_at cells.cells c) ≡ true)) → f ≡ from
  same_from f looked = some_same ((looked from).1 is.of_old)

  pub same_cell : (b : Begun) → Some b ≡ begun_at slots copy.slot → b.cell ≡ cell
  same_cell b told = ap (λ (x : Begun). x.cell) (some_same (told ∙ is.begun))

  -- the old storage's cell is live, where it is in use
  pub in_use_live : (f : ℕ) → is_in_use_at slots copy.slot f ≡ true → is_live (cell_at cells.cells f) ≡ true
  in_use_live f there = by (live_at slots copy.slot) refl there
    where
      by : (o : Option Live) → live_at slots copy.slot ≡ o → option_map_or (λ (l : Live). eqb l.cell f) o false ≡ true → is_live (cell_at cells.cells f) ≡ true
      by None e t = absurd (false≢true t)
      by (Some live) e t = ap (λ c. is_live (cell_at cells.cells c)) (sym (eqb-true live.cell f t)) ∙ is.in_use live e

-- the changes of the cells one after another
pub cells_installed : (old free retire new : Table Shared) (image : Shared) (f from b cell : ℕ) → free ≡ with_phase unpinned f old → retire ≡ with_phase retired f free
    → new ≡ with_phase (published image) b retire → f ≡ from → b ≡ cell → new ≡ with_phase (published image) cell (with_phase retired from (with_phase unpinned from old))
cells_installed old free retire new image f from b cell unpin retires publish ef eb =
    publish ∙ ap (with_phase (published image) b) (retires ∙ ap (with_phase retired f) unpin)
    ∙ (λ i. with_phase (published image) (eb i) (with_phase retired (ef i) (with_phase unpinned (ef i) old)))
