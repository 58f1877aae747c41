use Rattle.std.proofs.Common.{◌+◌, List, length, ◌<◌, sym, subst}
use Rattle.write_cache.specs.Rows.{rows}
use Rattle.cell_table.specs.Cells.{Table}
use Rattle.storage_map.specs.Slots.{begun_at}
use Rattle.adb_model.specs.State.{Row}
use Rattle.adb_model.specs.Flush.{flush_rows, with_filling}
use Rattle.book_parts.specs.Parts.{Shared}
use Rattle.book_parts.specs.Storages.{IsBegunOf}
use Rattle.book_parts.specs.Reflects.{Reflects}
use Rattle.book_parts.specs.Flushes.{FlushBegins}
use Rattle.book_parts.proofs.SlotChanges.{no_begun}
use Rattle.book_parts.proofs.Reflected.{fresh_unused, own_rows, unflushed_of, some_rows, rows_differ, reflects_kept}
use Rattle.book_parts.proofs.BegunFlush.{reflects_begun}
use Rattle.book_parts.proofs.flushing.begun_flush_reflects.Goals as goal

pub returns-clause-unused : goal.returns-clause-unused
returns-clause-unused c = λ p m h r. fresh_unused p m r (c.ids_are_fresh.ensures.next m h)

pub returns-clause-some : goal.returns-clause-some
returns-clause-some c = λ p m slot h r cached.
    let own = own_rows p m slot r (unflushed_of m slot cached) in
    let some : 0 < length (flush_rows m slot) = some_rows m slot cached (c.last_stores_follow.ensures.there m slot) (c.rows_are_last_stores.ensures.account m slot) in
    (own, subst (λ (rs : List Row). 0 < length rs) (sym own) some)

pub returns-clause-none : goal.returns-clause-none
returns-clause-none c = λ p m slot h r cached none.
    no_begun p.cells.cells (begun_at p.map slot) (subst (IsBegunOf p.cells.cells (begun_at p.map slot)) (c.flushes_begin.ensures.none_filling m h slot cached none) (r.slots.begins slot))

pub returns-clause-differ : goal.returns-clause-differ
returns-clause-differ c = λ p m slot r. rows_differ p m slot r (c.rows_are_last_stores.ensures.differ m slot)

pub returns-clause-done : goal.returns-clause-done
returns-clause-done c = λ p m slot cell index table slots h r cached none e.
    let written = flush_rows m slot in
    let own = own_rows p m slot r (unflushed_of m slot cached) in
    let by_id : FlushBegins slot m.next_id cell (rows p.cache slot) p.index index p.cells table p.map slots = subst (λ id. FlushBegins slot id cell (rows p.cache slot) p.index index p.cells table p.map slots) r.next_id e in
    let f : FlushBegins slot m.next_id cell written p.index index p.cells table p.map slots = subst (λ rs. FlushBegins slot m.next_id cell rs p.index index p.cells table p.map slots) own by_id in
    let none_filling = c.flushes_begin.ensures.none_filling m h slot cached none in
    subst (λ (t : Table Shared). Reflects (record p { index = index; cells = t; map = slots; next_id = p.next_id + 1 }) (with_filling m slot written)) (sym f.cells.now)
    (reflects_begun p m slot cell written index slots r (record {
      fresh = c.ids_are_fresh.ensures.next m h;
      with_id = c.flushes_begin.ensures.with_id m h slot written;
      live = c.flushes_begin.ensures.live m slot written;
      filling = c.flushes_begin.ensures.filling m slot written none_filling;
      flush = c.flushes_begin.ensures.flush m h slot written none;
      held = c.flushes_begin.ensures.held m slot written;
      bytes = c.flushes_begin.ensures.bytes m slot written;
      storages = c.flushes_begin.ensures.storages m slot written;
      filling_count = c.flushes_begin.ensures.filling_count m slot written;
      live_count = c.flushes_begin.ensures.live_count m slot written;
      retired_count = c.flushes_begin.ensures.retired_count m slot written;
      row_count = c.flushes_begin.ensures.row_count m slot written;
    }) none f.index f.cells.within f.cells.was_free f.slots)

pub returns-clause-kept : goal.returns-clause-kept
returns-clause-kept c = reflects_kept
