use Rattle.std.proofs.Common.{◌≡◌, ℕ, eqb, cond, not, ◌&&◌, Some, None, sym, ap, ◌∙◌, subst, slice_set}
use Rattle.cell_table.specs.declared.phase.Phase.{Phase}
use Rattle.cell_table.specs.Phases.{retired}
use Rattle.cell_table.specs.Cells.{Table}
use Rattle.adb_model.specs.Presence.{is_held}
use Rattle.adb_model.specs.Storages.{live_storage}
use Rattle.adb_model.specs.Cleaning.{with_retired}
use Rattle.book_parts.specs.Parts.{Shared}
use Rattle.book_parts.specs.Reflects.{Reflects}
use Rattle.book_parts.proofs.RetiredStorage.{Retirement, emptied, all_named, was_live, reflects_retired}
use Rattle.book_parts.proofs.cleaning.retired_storage_reflects.Goals as goal

pub returns-clause-emptied : goal.returns-clause-emptied
returns-clause-emptied c = λ p m h r slot live e none. emptied p m slot live h.sound r e none

pub returns-clause-all_named : goal.returns-clause-all_named
returns-clause-all_named c = λ p m r alive s t e. all_named p m r alive s t e

pub returns-clause-done : goal.returns-clause-done
returns-clause-done c = λ p m slot cell t image index table slots h r is value e.
    let same : t.slot ≡ slot = c.live_storages_stand.ensures.slot m slot t is.live in
    let live : live_storage m t.slot ≡ Some t = ap (live_storage m) same ∙ is.live in
    let retirement : Retirement m slot t = record {
      there = c.live_storages_stand.ensures.with_id m h.sound slot t is.live;
      rows = c.live_storages_stand.ensures.rows m h.sound slot t is.live;
      held = λ s k. c.unnamed_storages_retire.ensures.held m h.sound t live s k ∙ ap (λ (q : ℕ). not (eqb q s) && is_held m s k) same;
      with_id = c.unnamed_storages_retire.ensures.with_id m t;
      live = λ s. c.unnamed_storages_retire.ensures.live m h.sound t live s ∙ ap (λ (q : ℕ). cond (eqb q s) None (live_storage m s)) same;
      filling = c.unnamed_storages_retire.ensures.filling m h.sound t live;
      flush = c.unnamed_storages_retire.ensures.flush m h.sound t live;
      bytes = c.unnamed_storages_retire.ensures.bytes m t;
      storages = c.unnamed_storages_retire.ensures.storages m t;
      filling_count = c.unnamed_storages_retire.ensures.filling_count m h.sound t live;
      live_count = c.unnamed_storages_retire.ensures.live_count m h.sound t live;
      retired_count = c.unnamed_storages_retire.ensures.retired_count m h.sound t live;
      row_count = c.unnamed_storages_retire.ensures.row_count m h.sound t live;
    } in
    let was = was_live p m slot cell t h.sound r is retirement image value in
    let at_cell : Phase Shared → Table Shared = λ phase. record p.cells { cells = slice_set p.cells.cells cell phase } in
    subst (λ (cells : Table Shared). Reflects (record p { index = index; cells = cells; map = slots }) (with_retired m t)) (sym (e.cells ∙ ap at_cell (ap retired was.0)))
    (reflects_retired p m slot cell t h.sound r is retirement image index slots was.0 was.1 e.index e.slots)
