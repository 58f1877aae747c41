use Rattle.std.proofs.Common.{◌<◌, sym, ap, ◌∙◌, arith}
use Rattle.cell_table.specs.Phases.{pins_of, is_idle, unpinned}
use Rattle.cell_table.proofs.Sound.{in_range, was_there, was_so, room_set, table_set, IsSound-unpin, unpin_counts, places_fit, pinned_not_idle}
use Rattle.cell_table.proofs.table.CellTable.unpin.Goals as goal

pub index_mut-phase-requires : goal.index_mut-phase-requires
index_mut-phase-requires g c =
    let lt = in_range c.args.self.now c.self.inside.most c.self.inside.limit c.self.inside.cells.items c.self.view_is (λ p. 0 < pins_of p) (λ e. omega arith) c.args.cell c.requires in
    omega (arith, lt, c.self.inside.cells.ok.0)

pub put_idle-requires : goal.put_idle-requires
put_idle-requires g c =
    let lt = in_range c.args.self.now c.self.inside.most c.self.inside.limit c.self.inside.cells.items c.self.view_is (λ p. 0 < pins_of p) (λ e. omega arith) c.args.cell c.requires in
    let there = was_there _ _ _ _ c.self.view_is (λ p. 0 < pins_of p) (λ e. omega arith) c.args.cell c.requires _ c.index_mut-phase.ensures.value in
    let so = was_so _ _ _ _ c.self.view_is (λ p. 0 < pins_of p) (λ e. omega arith) c.args.cell c.requires _ c.index_mut-phase.ensures.value in
    let fits = places_fit is_idle _ _ c.self.invariant.1.idle_places c.args.cell _ lt there (pinned_not_idle c.index_mut-phase.result.now so) in
    omega (arith, fits, c.self.invariant.0.idle, c.self.inside.idle.ok.0)

pub overflow_sub-self : goal.overflow_sub-self
overflow_sub-self g c =
    let lt = in_range c.args.self.now c.self.inside.most c.self.inside.limit c.self.inside.cells.items c.self.view_is (λ p. 0 < pins_of p) (λ e. omega arith) c.args.cell c.requires in
    let there = was_there _ _ _ _ c.self.view_is (λ p. 0 < pins_of p) (λ e. omega arith) c.args.cell c.requires _ c.index_mut-phase.ensures.value in
    let so = was_so _ _ _ _ c.self.view_is (λ p. 0 < pins_of p) (λ e. omega arith) c.args.cell c.requires _ c.index_mut-phase.ensures.value in
    unpin_counts _ _ _ _ _ _ _ c.self.invariant.1 c.args.cell lt _ there so

pub unpin-requires : goal.unpin-requires
unpin-requires g c = was_so _ _ _ _ c.self.view_is (λ p. 0 < pins_of p) (λ e. omega arith) c.args.cell c.requires _ c.index_mut-phase.ensures.value

pub invariant_of-self : goal.invariant_of-self
invariant_of-self g c =
    let lt = in_range c.args.self.now c.self.inside.most c.self.inside.limit c.self.inside.cells.items c.self.view_is (λ p. 0 < pins_of p) (λ e. omega arith) c.args.cell c.requires in
    let there = was_there _ _ _ _ c.self.view_is (λ p. 0 < pins_of p) (λ e. omega arith) c.args.cell c.requires _ c.index_mut-phase.ensures.value in
    let so = was_so _ _ _ _ c.self.view_is (λ p. 0 < pins_of p) (λ e. omega arith) c.args.cell c.requires _ c.index_mut-phase.ensures.value in
    rw (c.put_idle.ensures.room, c.put_idle.ensures.items, c.put_idle.ensures.count, c.unpin.ensures)
    (room_set _ c.args.cell _ _ _ _ c.self.invariant.0, IsSound-unpin _ _ _ _ _ _ _ c.self.invariant.1 c.args.cell lt _ there so)

pub returns : goal.returns
returns g c =
    let lt = in_range c.args.self.now c.self.inside.most c.self.inside.limit c.self.inside.cells.items c.self.view_is (λ p. 0 < pins_of p) (λ e. omega arith) c.args.cell c.requires in
    let there = was_there _ _ _ _ c.self.view_is (λ p. 0 < pins_of p) (λ e. omega arith) c.args.cell c.requires _ c.index_mut-phase.ensures.value in
    table_set _ _ _ _ c.self.view_is c.args.cell _ unpinned lt (c.unpin.ensures ∙ ap unpinned (sym there))
