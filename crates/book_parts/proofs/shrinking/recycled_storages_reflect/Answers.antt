use Rattle.std.proofs.Common.{sym, subst, refl, count_by}
use Rattle.cell_table.specs.Phases.{is_idle}
use Rattle.cell_table.specs.Cells.{Table}
use Rattle.adb_model.specs.Snap.{recycled}
use Rattle.book_parts.specs.Parts.{Shared}
use Rattle.book_parts.specs.Reflects.{Reflects}
use Rattle.book_parts.proofs.RecycledCells.{Leaves, all_recycled}
use Rattle.book_parts.proofs.shrinking.recycled_storages_reflect.Goals as goal

pub returns-clause-done : goal.returns-clause-done
returns-clause-done c = λ p m table h r e.
    let law = c.spares_leave.ensures in
    let leaves : Leaves = record {
      pinned = c.pinned_storages_stand.ensures.counted;
      sound = λ m t h s. law.sound m h t s.there s.spare;
      with_id = law.with_id;
      live = λ m t h s. law.live m h t s.there s.spare;
      filling = λ m t h s. law.filling m h t s.there s.spare;
      flush = λ m t h s. law.flush m h t s.there s.spare;
      held = λ m t h s. law.held m h t s.there s.spare;
      bytes = λ m t h s. law.bytes m h t s.there;
      storages = λ m t h s. law.storages m h t s.there;
      filling_count = λ m t h s. law.filling_count m h t s.there s.spare;
      live_count = λ m t h s. law.live_count m h t s.there s.spare;
      retired_count = λ m t h s. law.retired_count m h t s.there s.spare;
      row_count = λ m t h s. law.row_count m h t s.there s.spare;
      fewer = λ m t h s. law.fewer m h t s.there s.spare;
      rest = λ m t h s. law.rest m h t s.there s.spare;
      none = law.none;
      all = c.storages_leave.ensures.storages;
    } in
    subst (λ (t : Table Shared). Reflects (record p { cells = t }) (recycled m)) (sym e)
    (all_recycled leaves (count_by is_idle p.cells.cells) p m h r refl).0

pub returns-clause-count : goal.returns-clause-count
returns-clause-count c = λ p m h r.
    let law = c.spares_leave.ensures in
    let leaves : Leaves = record {
      pinned = c.pinned_storages_stand.ensures.counted;
      sound = λ m t h s. law.sound m h t s.there s.spare;
      with_id = law.with_id;
      live = λ m t h s. law.live m h t s.there s.spare;
      filling = λ m t h s. law.filling m h t s.there s.spare;
      flush = λ m t h s. law.flush m h t s.there s.spare;
      held = λ m t h s. law.held m h t s.there s.spare;
      bytes = λ m t h s. law.bytes m h t s.there;
      storages = λ m t h s. law.storages m h t s.there;
      filling_count = λ m t h s. law.filling_count m h t s.there s.spare;
      live_count = λ m t h s. law.live_count m h t s.there s.spare;
      retired_count = λ m t h s. law.retired_count m h t s.there s.spare;
      row_count = λ m t h s. law.row_count m h t s.there s.spare;
      fewer = λ m t h s. law.fewer m h t s.there s.spare;
      rest = λ m t h s. law.rest m h t s.there s.spare;
      none = law.none;
      all = c.storages_leave.ensures.storages;
    } in
    (all_recycled leaves (count_by is_idle p.cells.cells) p m h r refl).1
