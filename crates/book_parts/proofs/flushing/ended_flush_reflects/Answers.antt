use Rattle.std.proofs.Common.{sym, ap, ◌∙◌, subst}
use Rattle.cell_table.specs.declared.phase.Phase.{Phase}
use Rattle.cell_table.specs.Phases.{published}
use Rattle.cell_table.specs.Cells.{Table}
use Rattle.std.specs.Prelude.{slice_set}
use Rattle.adb_model.specs.Flush.{flushed_with, flush_dropped}
use Rattle.adb_model.specs.Laws.{IsOpenFlush}
use Rattle.book_parts.specs.Parts.{Shared}
use Rattle.book_parts.specs.Reflects.{Reflects}
use Rattle.book_parts.proofs.DroppedFlush.{reflects_dropped}
use Rattle.book_parts.proofs.EndedFlush.{Ended, reflects_ended, was_filling}
use Rattle.book_parts.proofs.flushing.ended_flush_reflects.Goals as goal

pub returns-clause-done : goal.returns-clause-done
returns-clause-done c = λ p m slot cell t image places cache index table slots h r opened o of_image stand e.
    let facts : IsOpenFlush m slot t = c.open_flushes_stand.ensures m h slot t opened in
    let ended : Ended m slot t = record {
      unpinned = c.ids_are_fresh.ensures.filling_unpinned m h t.id t facts.with_id facts.fills;
      present = c.flushes_end.ensures.present m h slot t opened;
      cached = c.flushes_end.ensures.cached m h slot t opened;
      held = c.flushes_end.ensures.held m h slot t opened;
      flushed = c.flushes_end.ensures.flushed m h slot t opened;
      with_id = c.flushes_end.ensures.with_id m h slot t opened;
      live = c.flushes_end.ensures.live m h slot t opened;
      filling = c.flushes_end.ensures.filling m h slot t opened;
      flush = c.flushes_end.ensures.flush m h slot t opened;
      named_in = c.flushes_end.ensures.named_in m h slot t opened;
      bytes = c.flushes_end.ensures.bytes m h slot t opened;
      storages = c.flushes_end.ensures.storages m h slot t opened;
      filling_count = c.flushes_end.ensures.filling_count m h slot t opened;
      live_count = c.flushes_end.ensures.live_count m h slot t opened;
      retired_count = c.flushes_end.ensures.retired_count m h slot t opened;
      row_count = c.flushes_end.ensures.row_count m h slot t opened;
      named_count = c.flushes_end.ensures.named_count m h slot t opened;
      cached_count = c.flushes_end.ensures.cached_count m h slot t opened;
      keys = c.rows_are_last_stores.ensures.length m slot;
    } in
    let filling = was_filling p m slot cell t image places cache index slots r facts ended opened o of_image stand e.index in
    let at_cell : Phase Shared → Table Shared = λ phase. record p.cells { cells = slice_set p.cells.cells cell phase } in
    subst (λ (cells : Table Shared). Reflects (record p { index = index; cache = cache; cells = cells; map = slots }) (flushed_with m t)) (sym (e.cells ∙ ap at_cell (ap (published image) filling)))
    (reflects_ended p m slot cell t image places cache index slots r facts ended opened o of_image stand e.index e.dropped e.counted e.slots)

pub returns-clause-dropped : goal.returns-clause-dropped
returns-clause-dropped c = λ p m slot cell t index table slots h r opened o e.
    subst (λ (cells : Table Shared). Reflects (record p { index = index; cells = cells; map = slots }) (flush_dropped m t)) (sym e.cells)
    (reflects_dropped p m slot cell t index slots h r (c.open_flushes_stand.ensures m h slot t opened) (record {
      with_id = c.flushes_are_given_up.ensures.with_id m h slot t opened;
      live = c.flushes_are_given_up.ensures.live m h slot t opened;
      filling = c.flushes_are_given_up.ensures.filling m h slot t opened;
      flush = c.flushes_are_given_up.ensures.flush m h slot t opened;
      held = c.flushes_are_given_up.ensures.held m h slot t opened;
      bytes = c.flushes_are_given_up.ensures.bytes m h slot t opened;
      storages = c.flushes_are_given_up.ensures.storages m h slot t opened;
      filling_count = c.flushes_are_given_up.ensures.filling_count m h slot t opened;
      live_count = c.flushes_are_given_up.ensures.live_count m h slot t opened;
      retired_count = c.flushes_are_given_up.ensures.retired_count m h slot t opened;
      row_count = c.flushes_are_given_up.ensures.row_count m h slot t opened;
    }) opened o.of_id e.index e.slots)
