use Rattle.std.proofs.Common.{◌≡◌, ℕ, ◌+◌, ◌<◌, List, length, get_or, take, true, sym, ap, ◌∙◌, subst, arith}
use Rattle.vec_scan.specs.Image.{Image}
use Rattle.cell_table.specs.Phases.{has_id, pins_of, unpinned}
use Rattle.cell_table.specs.Cells.{Table, cell_at}
use Rattle.book_parts.specs.Parts.{Shared}
use Rattle.book_parts.specs.Shrinks.{with_phase}
use Rattle.book_parts.specs.Snaps.{UnpinsEach, ids_of}
use Rattle.vec_scan.specs.Shown.{images_of}
use Rattle.book.proofs.SnapPins.{PinnedFrom, unpins_more, still_pinned, next_id, as_many, id_there, pin_there, found_cell}
use Rattle.book.proofs.snapping.unpin_each.Goals as goal

pub loop-storage-preserved : goal.loop-storage-preserved
loop-storage-preserved c =
    let storages = c.args.storages.now in
    let images = images_of storages in
    let n = c.loop-storage.storage-index in
    let s = c.storage-item.result in
    let lt = c.loop-storage-test.true in
    let within : n < length images = omega (arith, lt, as_many storages) in
    let has_it = c.id.ensures ∙ ap (λ (i : Image). i.id) c.deref.ensures in
    let id = (get_or images n s.value).id in
    let is : id ≡ c.id.result = id_there storages n s c.id.result lt c.storage-item.is has_it in
    let now = c.loop-storage.cells in
    let cell = c.in-Some.cell in
    let has : has_id id (cell_at now.cells cell) ≡ true = subst (λ (k : ℕ). has_id k (cell_at now.cells cell) ≡ true) (sym is) ((c.cell_of.ensures cell).0 c.in-Some.is) in
    let invariant = c.loop-storage.invariant in
    let h = pin_there storages n s c.id.result lt c.storage-item.is has_it now invariant.left in
    let some = subst (λ (k : ℕ). 0 < pins_of (cell_at now.cells k)) (found_cell c.cell_of.result h.0 cell ((c.cell_of.ensures h.0).1 h.1) c.in-Some.is) h.2 in
    record {
      each = subst (λ (t : Table Shared). UnpinsEach (take (n + 1) (ids_of images)) c.args.cells.now t) (sym c.unpin.ensures)
          (subst (λ (ids : List ℕ). UnpinsEach ids c.args.cells.now (with_phase unpinned cell now)) (sym (next_id images n s.value within)) (unpins_more (take n (ids_of images)) id c.args.cells.now now cell invariant.each has some));
      left = subst (λ (t : Table Shared). PinnedFrom (n + 1) images t) (sym c.unpin.ensures) (still_pinned images n now cell s.value c.requires.differ within has invariant.left);
    }
