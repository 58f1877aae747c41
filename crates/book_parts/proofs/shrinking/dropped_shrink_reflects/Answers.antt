use Rattle.std.proofs.Common.{sym, subst}
use Rattle.cell_table.specs.Cells.{Table}
use Rattle.adb_model.specs.Shrink.{copy_dropped}
use Rattle.adb_model.specs.Shrinking.{IsOpenShrink}
use Rattle.book_parts.specs.Parts.{Shared}
use Rattle.book_parts.specs.Reflects.{Reflects}
use Rattle.book_parts.specs.Shrinks.{shrink_of}
use Rattle.book_parts.proofs.DroppedShrink.{Dropped, reflects_dropped}
use Rattle.book_parts.proofs.OpenCopy.{facts_of}
use Rattle.book_parts.proofs.shrinking.dropped_shrink_reflects.Goals as goal

pub returns : goal.returns
returns c = λ p m copy from cell table slots h r o i e.
    let shrink = shrink_of copy in
    let b = c.open_shrinks_stand.ensures.between m h copy.slot shrink o.opened in
    let facts : IsOpenShrink m copy.slot shrink o.old o.new = facts_of m copy o b.0 b.1 b.2 in
    let law = c.shrinks_are_given_up.ensures in
    let d : Dropped m copy o.new = record {
      with_id = law.with_id m shrink;
      live = law.live m h copy.slot shrink o.opened;
      filling = law.filling m h copy.slot shrink o.opened;
      flush = law.flush m h copy.slot shrink o.opened;
      held = law.held m h copy.slot shrink o.opened;
      pinned = law.pinned m h copy.slot shrink o.opened;
      bytes = law.bytes m h copy.slot shrink o.opened o.new o.new_there;
      storages = law.storages m h copy.slot shrink o.opened;
      filling_count = law.filling_count m h copy.slot shrink o.opened;
      live_count = law.live_count m h copy.slot shrink o.opened;
      retired_count = law.retired_count m h copy.slot shrink o.opened;
      row_count = law.row_count m h copy.slot shrink o.opened;
      pin_total = law.pin_total m h copy.slot shrink o.opened;
    } in
    subst (λ (t : Table Shared). Reflects (record p { cells = t; map = slots }) (copy_dropped m shrink)) (sym e.cells)
    (reflects_dropped p m copy from cell slots h r o facts i d e.slots)
