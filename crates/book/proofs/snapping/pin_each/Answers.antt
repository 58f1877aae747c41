use Rattle.std.proofs.Common.{◌≡◌, ℕ, ◌+◌, ◌<◌, List, length, get_or, take, true, sym, ap, ◌∙◌, subst, arith}
use Rattle.vec_scan.specs.Image.{Image}
use Rattle.cell_table.specs.Phases.{has_id, is_live, pinned}
use Rattle.cell_table.specs.Cells.{Table, cell_at, pins}
use Rattle.book_parts.specs.Parts.{Shared}
use Rattle.book_parts.specs.Shrinks.{with_phase}
use Rattle.book_parts.specs.Snaps.{MayPin, PinsEach, ids_of}
use Rattle.vec_scan.specs.Shown.{images_of}
use Rattle.book.proofs.SnapPins.{pins_more, still_may_pin, one_pin, next_id, as_many, id_there, live_there, found_cell}
use Rattle.book.proofs.snapping.pin_each.Goals as goal

pub unreachable-requires : goal.unreachable-requires
unreachable-requires c =
    let has_it = c.id.ensures ∙ ap (λ (i : Image). i.id) c.deref.ensures in
    let h = live_there c.args.storages.now c.loop-storage.storage-index c.storage-item.result c.id.result c.loop-storage-test.true c.storage-item.is has_it c.loop-storage.cells c.loop-storage.invariant.live in
    c.in_default.not-Some h.0 ((c.cell_of.ensures h.0).1 h.1)

pub pin-requires-clause-live : goal.pin-requires-clause-live
pin-requires-clause-live c =
    let has_it = c.id.ensures ∙ ap (λ (i : Image). i.id) c.deref.ensures in
    let h = live_there c.args.storages.now c.loop-storage.storage-index c.storage-item.result c.id.result c.loop-storage-test.true c.storage-item.is has_it c.loop-storage.cells c.loop-storage.invariant.live in
    subst (λ (k : ℕ). is_live (cell_at c.loop-storage.cells.cells k) ≡ true) (found_cell c.cell_of.result h.0 c.in-Some.cell ((c.cell_of.ensures h.0).1 h.1) c.in-Some.is) h.2

pub loop-storage-preserved : goal.loop-storage-preserved
loop-storage-preserved c =
    let storages = c.args.storages.now in
    let images = images_of storages in
    let n = c.loop-storage.storage-index in
    let s = c.storage-item.result in
    let lt = c.loop-storage-test.true in
    let within : n < length images = omega (arith, lt, as_many storages) in
    let has_it = c.id.ensures ∙ ap (λ (i : Image). i.id) c.deref.ensures in
    let id = (get_or images n s.value).id in
    let is : id ≡ c.id.result = id_there storages n s c.id.result lt c.storage-item.is has_it in
    let now = c.loop-storage.cells in
    let cell = c.in-Some.cell in
    let has : has_id id (cell_at now.cells cell) ≡ true = subst (λ (k : ℕ). has_id k (cell_at now.cells cell) ≡ true) (sym is) ((c.cell_of.ensures cell).0 c.in-Some.is) in
    let h = live_there storages n s c.id.result lt c.storage-item.is has_it now c.loop-storage.invariant.live in
    let live = subst (λ (k : ℕ). is_live (cell_at now.cells k) ≡ true) (found_cell c.cell_of.result h.0 cell ((c.cell_of.ensures h.0).1 h.1) c.in-Some.is) h.2 in
    let invariant = c.loop-storage.invariant in
    record {
      each = subst (λ (t : Table Shared). PinsEach (take (n + 1) (ids_of images)) c.args.cells.now t) (sym c.pin.ensures)
          (subst (λ (ids : List ℕ). PinsEach ids c.args.cells.now (with_phase pinned cell now)) (sym (next_id images n s.value within)) (pins_more (take n (ids_of images)) id c.args.cells.now now cell invariant.each has live));
      live = subst (λ (t : Table Shared). MayPin images t) (sym c.pin.ensures) (still_may_pin images id now cell has invariant.live);
      count = omega (arith, ap (λ (t : Table Shared). pins t.cells) c.pin.ensures, one_pin id now cell has live, invariant.count);
    }
