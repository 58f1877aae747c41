use Rattle.std.proofs.Common.{◌≡◌, IsTrue, Some, sym, ◌∙◌, subst}
use Rattle.cell_table.specs.Cells.{Table}
use Rattle.adb_model.specs.Storages.{live_storage}
use Rattle.adb_model.specs.Shrink.{is_current, installed}
use Rattle.adb_model.specs.Shrinking.{IsOpenShrink}
use Rattle.book_parts.specs.Parts.{Shared}
use Rattle.book_parts.specs.Reflects.{Reflects}
use Rattle.book_parts.specs.Shrinks.{shrink_of}
use Rattle.book_parts.proofs.InstalledShrink.{Installed, reflects_made}
use Rattle.book_parts.proofs.OpenCopy.{facts_of}
use Rattle.book_parts.proofs.shrinking.installed_shrink_reflects.Goals as goal

pub returns : goal.returns
returns c = λ p m copy from cell image places index table slots h r o i in_use of_image stand e.
    let shrink = shrink_of copy in
    let b = c.open_shrinks_stand.ensures.between m h copy.slot shrink o.opened in
    let facts : IsOpenShrink m copy.slot shrink o.old o.new = facts_of m copy o b.0 b.1 b.2 in
    let current : IsTrue (is_current m shrink) = sym (c.open_shrink_reflects.ensures.current p m copy from cell h r o i) ∙ in_use in
    let live : live_storage m copy.slot ≡ Some o.old = facts.in_use current in
    let law = c.shrinks_install.ensures in
    let d : Installed m copy o.old o.new = record {
      in_use = sym facts.current ∙ current;
      live_before = live;
      held_before = c.live_storages_stand.ensures.rows m (c.reclaims_are_sound.ensures.midway m h) copy.slot o.old live;
      held = law.held m h copy.slot shrink o.opened current o.new o.new_there;
      old_with_id = law.retired m h copy.slot shrink o.opened o.old o.old_there;
      new_with_id = law.used m shrink o.new o.new_there;
      others = law.others m shrink;
      live = law.live m h copy.slot shrink o.opened current o.new o.new_there;
      filling = law.filling m h copy.slot shrink o.opened;
      flush = law.flush m h copy.slot shrink o.opened;
      pinned = law.pinned m h copy.slot shrink o.opened;
      bytes = law.bytes m shrink;
      storages = law.storages m shrink;
      filling_count = law.filling_count m h copy.slot shrink o.opened;
      live_count = law.live_count m h copy.slot shrink o.opened current;
      retired_count = law.retired_count m h copy.slot shrink o.opened current;
      row_count = law.row_count m h copy.slot shrink o.opened current o.old o.new o.old_there o.new_there;
      pin_total = law.pin_total m h copy.slot shrink o.opened;
    } in
    subst (λ (t : Table Shared). Reflects (record p { index = index; cells = t; map = slots }) (installed m shrink)) (sym e.cells)
    (reflects_made p m copy from cell image places index slots h r o facts i d of_image stand e.index e.slots)
