use Rattle.std.proofs.Common.{◌≡◌, ℕ, ◌+◌, ◌-◌, ◌<◌, length, get_or, vec_len, refl, sym, ap, ◌∙◌, arith}
use Rattle.std.specs.Ordering.{nat_cmp}
use Rattle.std.specs.BTreeMap.{get}
use Rattle.std.proofs.lemmas.List.{get_or_default}
use Rattle.std.proofs.lemmas.Result.{err_from_is_err_and}
use Rattle.cell_table.specs.declared.phase.Phase.TheVariants.{Filling}
use Rattle.cell_table.specs.Phases.{bytes_of, has_id, is_free}
use Rattle.cell_table.specs.Cells.{Table}
use Rattle.cell_table.proofs.Sound.{last_place, room_set, cell_seen, sum_seen, table_set, IsSound-begin}
use Rattle.cell_table.proofs.Grown.{IsSound-grows, view-grows, full_cause, lack_cause, length_seen, free_seen, free_is, on_err_any, on_err_is, on_ok_is}
use Rattle.cell_table.proofs.table.CellTable.begin.Goals as goal

pub returns-in_err-fit-clause-err : goal.returns-in_err-fit-clause-err
returns-in_err-fit-clause-err g c =
    let cause = full_cause c.args.self.now c.self.inside.most c.self.inside.limit c.self.inside.cells.items c.self.view_is c.self.invariant.0.few _ c.self.invariant.1.total c.args.bytes _ c.in_err-fit.ensures.err in
    let p = err_from_is_err_and c.from_residual.result c.from_residual.ensures.1 in rw (p.1, p.2) cause

pub returns-in_err-fit-clause-same : goal.returns-in_err-fit-clause-same
returns-in_err-fit-clause-same g c = on_err_any c.from_residual.result refl

pub invariant_of-self : goal.invariant_of-self
invariant_of-self g c =
    let sound = (IsSound-grows c.self.inside.cells.items c.self.inside.most c.self.inside.free.items c.ready.new.cells.items c.ready.new.free.items c.self.inside.idle.items (get nat_cmp c.self.inside.ids) c.self.inside.used c.self.inside.limit c.self.inside.counts c.ready.ensures.grows c.self.invariant.1) in
    (c.ready.ensures.room, rw c.ready.ensures.idle sound)

pub returns-in_err-ready-clause-err : goal.returns-in_err-ready-clause-err
returns-in_err-ready-clause-err g c =
    let limit = ap (λ (t : Table _). t.limit) c.self.view_is in
    let total = c.self.invariant.1.total ∙ sym (sum_seen c.args.self.now c.self.inside.most c.self.inside.limit c.self.inside.cells.items c.self.view_is bytes_of refl) in
    let cause = lack_cause c.args.self.now c.self.inside.most c.self.inside.limit c.self.inside.cells.items c.self.view_is c.self.invariant.0.few c.self.inside.free.items c.self.invariant.1.free_places c.args.bytes (omega (arith, c.in_ok-fit.ensures.ok, limit, total)) c.in_err-ready.field-0.0 c.in_err-ready.ensures.err in
    let p = err_from_is_err_and c.from_residual-in_err-ready.result c.from_residual-in_err-ready.ensures.1 in rw (p.1, p.2) cause

pub returns-in_err-ready-clause-same : goal.returns-in_err-ready-clause-same
returns-in_err-ready-clause-same g c =
    let view = view-grows c.args.self.now c.self.inside.most c.self.inside.limit c.self.inside.cells.items c.self.view_is c.self.invariant.0.few c.self.inside.free.items c.ready.new.free.items c.ready.new.cells.items c.ready.ensures.grows in
    on_err_any c.from_residual-in_err-ready.result view

pub invariant_of-self-then-is_err : goal.invariant_of-self-then-is_err
invariant_of-self-then-is_err g c =
    let sound = (IsSound-grows c.self.inside.cells.items c.self.inside.most c.self.inside.free.items c.ready.new.cells.items c.ready.new.free.items c.self.inside.idle.items (get nat_cmp c.self.inside.ids) c.self.inside.used c.self.inside.limit c.self.inside.counts c.ready.ensures.grows c.self.invariant.1) in
    let same = on_err_is c.insert.result (sym c.is_err.ensures.value ∙ c.if-is_err.true) c.insert.ensures.err in
    (c.ready.ensures.room, rw (c.ready.ensures.idle, same) sound)

pub returns-then-is_err-clause-err : goal.returns-then-is_err-clause-err
returns-then-is_err-clause-err g c =
    let limit = ap (λ (t : Table _). t.limit) c.self.view_is in
    let total = c.self.invariant.1.total ∙ sym (sum_seen c.args.self.now c.self.inside.most c.self.inside.limit c.self.inside.cells.items c.self.view_is bytes_of refl) in
    let sound = (IsSound-grows c.self.inside.cells.items c.self.inside.most c.self.inside.free.items c.ready.new.cells.items c.ready.new.free.items c.self.inside.idle.items (get nat_cmp c.self.inside.ids) c.self.inside.used c.self.inside.limit c.self.inside.counts c.ready.ensures.grows c.self.invariant.1) in
    let view = view-grows c.args.self.now c.self.inside.most c.self.inside.limit c.self.inside.cells.items c.self.view_is c.self.invariant.0.few c.self.inside.free.items c.ready.new.free.items c.ready.new.cells.items c.ready.ensures.grows in
    let some : 0 < length c.ready.new.free.items = c.in_ok-ready.ensures.ok in
    (omega (arith, free_seen _ _ _ _ view c.ready.ensures.room.few, sound.free_places.every), omega (arith, c.in_ok-fit.ensures.ok, limit, total))

pub returns-then-is_err-clause-same : goal.returns-then-is_err-clause-same
returns-then-is_err-clause-same g c =
    let view = view-grows c.args.self.now c.self.inside.most c.self.inside.limit c.self.inside.cells.items c.self.view_is c.self.invariant.0.few c.self.inside.free.items c.ready.new.free.items c.ready.new.cells.items c.ready.ensures.grows in
    view

pub index_mut-cell-requires : goal.index_mut-cell-requires
index_mut-cell-requires g c =
    let sound = (IsSound-grows c.self.inside.cells.items c.self.inside.most c.self.inside.free.items c.ready.new.cells.items c.ready.new.free.items c.self.inside.idle.items (get nat_cmp c.self.inside.ids) c.self.inside.used c.self.inside.limit c.self.inside.counts c.ready.ensures.grows c.self.invariant.1) in
    let some : 0 < length c.ready.new.free.items = c.in_ok-ready.ensures.ok in
    let n = vec_len c.ready.new.free - 1 in
    let long : length c.ready.new.free.items ≡ n + 1 = omega (arith, c.ready.new.free.ok.0) in
    let i = c.index-place.result.now in
    let last : get_or c.ready.new.free.items n 0 ≡ i = get_or_default c.ready.new.free.items n 0 i (omega arith) ∙ sym (rw c.len.ensures at c.index-place.ensures) in
    let place = last_place is_free _ _ sound.free_places n i long last in
    let free = free_is _ place.1 in
    omega (arith, place.0, c.ready.new.cells.ok.0)

pub invariant_of-self-2 : goal.invariant_of-self-2
invariant_of-self-2 g c =
    let limit = ap (λ (t : Table _). t.limit) c.self.view_is in
    let total = c.self.invariant.1.total ∙ sym (sum_seen c.args.self.now c.self.inside.most c.self.inside.limit c.self.inside.cells.items c.self.view_is bytes_of refl) in
    let sound = (IsSound-grows c.self.inside.cells.items c.self.inside.most c.self.inside.free.items c.ready.new.cells.items c.ready.new.free.items c.self.inside.idle.items (get nat_cmp c.self.inside.ids) c.self.inside.used c.self.inside.limit c.self.inside.counts c.ready.ensures.grows c.self.invariant.1) in
    let view = view-grows c.args.self.now c.self.inside.most c.self.inside.limit c.self.inside.cells.items c.self.view_is c.self.invariant.0.few c.self.inside.free.items c.ready.new.free.items c.ready.new.cells.items c.ready.ensures.grows in
    let some : 0 < length c.ready.new.free.items = c.in_ok-ready.ensures.ok in
    let n = vec_len c.ready.new.free - 1 in
    let long : length c.ready.new.free.items ≡ n + 1 = omega (arith, c.ready.new.free.ok.0) in
    let i = c.index-place.result.now in
    let last : get_or c.ready.new.free.items n 0 ≡ i = get_or_default c.ready.new.free.items n 0 i (omega arith) ∙ sym (rw c.len.ensures at c.index-place.ensures) in
    let place = last_place is_free _ _ sound.free_places n i long last in
    let free = free_is _ place.1 in
    let absent = λ (k : ℕ). ap (has_id c.args.id) (sym (cell_seen _ _ _ _ view k)) ∙ c.requires k in
    let new = on_ok_is c.insert.result (sym c.is_err.ensures.value ∙ c.if-is_err.false) c.insert.ensures.updates in
    let room = room_set c.ready.new.cells.items i (Filling c.args.id c.args.bytes) _ _ _ c.ready.ensures.room in
    rw (c.ready.ensures.idle, c.fill.ensures, c.pop.ensures.rest) (
      record { few = room.few; free = omega (arith, room.free, c.pop.ensures.capacity); idle = room.idle },
      IsSound-begin _ _ _ _ _ _ _ sound i place.0 free c.args.id c.args.bytes absent (omega (arith, c.in_ok-fit.ensures.ok, limit, total)) _ new.0 n long last,
    )

pub returns-clause-ok : goal.returns-clause-ok
returns-clause-ok g c =
    let limit = ap (λ (t : Table _). t.limit) c.self.view_is in
    let total = c.self.invariant.1.total ∙ sym (sum_seen c.args.self.now c.self.inside.most c.self.inside.limit c.self.inside.cells.items c.self.view_is bytes_of refl) in
    let sound = (IsSound-grows c.self.inside.cells.items c.self.inside.most c.self.inside.free.items c.ready.new.cells.items c.ready.new.free.items c.self.inside.idle.items (get nat_cmp c.self.inside.ids) c.self.inside.used c.self.inside.limit c.self.inside.counts c.ready.ensures.grows c.self.invariant.1) in
    let view = view-grows c.args.self.now c.self.inside.most c.self.inside.limit c.self.inside.cells.items c.self.view_is c.self.invariant.0.few c.self.inside.free.items c.ready.new.free.items c.ready.new.cells.items c.ready.ensures.grows in
    let some : 0 < length c.ready.new.free.items = c.in_ok-ready.ensures.ok in
    let n = vec_len c.ready.new.free - 1 in
    let long : length c.ready.new.free.items ≡ n + 1 = omega (arith, c.ready.new.free.ok.0) in
    let i = c.index-place.result.now in
    let last : get_or c.ready.new.free.items n 0 ≡ i = get_or_default c.ready.new.free.items n 0 i (omega arith) ∙ sym (rw c.len.ensures at c.index-place.ensures) in
    let place = last_place is_free _ _ sound.free_places n i long last in
    let free = free_is _ place.1 in
    record {
      within = omega (arith, place.0, length_seen _ _ _ _ view c.ready.ensures.room.few, c.ready.ensures.room.few);
      was_free = cell_seen _ _ _ _ view i ∙ free;
      fits = omega (arith, c.in_ok-fit.ensures.ok, limit, total);
      now = table_set _ _ _ _ view i _ (λ p. Filling c.args.id c.args.bytes) place.0 c.fill.ensures;
    }
