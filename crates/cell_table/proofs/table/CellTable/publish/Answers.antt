use Rattle.std.proofs.Common.{◌≡◌, true, sym, ap, ◌∙◌, arith}
use Rattle.std.proofs.lemmas.Bool.{false≢true}
use Rattle.cell_table.specs.Phases.{is_filling, published}
use Rattle.cell_table.proofs.Sound.{in_range, was_there, was_so, room_set, table_set, publish_counts, IsSound-publish}
use Rattle.cell_table.proofs.table.CellTable.publish.Goals as goal

pub index_mut-phase-requires : goal.index_mut-phase-requires
index_mut-phase-requires g c =
    let lt = in_range c.args.self.now c.self.inside.most c.self.inside.limit c.self.inside.cells.items c.self.view_is (λ p. is_filling p ≡ true) false≢true c.args.cell c.requires in
    omega (arith, lt, c.self.inside.cells.ok.0)

pub overflow_sub-self : goal.overflow_sub-self
overflow_sub-self g c =
    let lt = in_range c.args.self.now c.self.inside.most c.self.inside.limit c.self.inside.cells.items c.self.view_is (λ p. is_filling p ≡ true) false≢true c.args.cell c.requires in
    let there = was_there _ _ _ _ c.self.view_is (λ p. is_filling p ≡ true) false≢true c.args.cell c.requires _ c.index_mut-phase.ensures.value in
    let so = was_so _ _ _ _ c.self.view_is (λ p. is_filling p ≡ true) false≢true c.args.cell c.requires _ c.index_mut-phase.ensures.value in
    publish_counts _ _ _ _ _ _ _ c.self.invariant.1 c.args.cell lt _ there so

pub invariant_of-self : goal.invariant_of-self
invariant_of-self g c =
    let lt = in_range c.args.self.now c.self.inside.most c.self.inside.limit c.self.inside.cells.items c.self.view_is (λ p. is_filling p ≡ true) false≢true c.args.cell c.requires in
    let there = was_there _ _ _ _ c.self.view_is (λ p. is_filling p ≡ true) false≢true c.args.cell c.requires _ c.index_mut-phase.ensures.value in
    let so = was_so _ _ _ _ c.self.view_is (λ p. is_filling p ≡ true) false≢true c.args.cell c.requires _ c.index_mut-phase.ensures.value in
    rw c.publish.ensures
    (room_set _ c.args.cell _ _ _ _ c.self.invariant.0, IsSound-publish _ _ _ _ _ _ _ c.self.invariant.1 c.args.cell lt _ there so c.args.value)

pub returns : goal.returns
returns g c =
    let lt = in_range c.args.self.now c.self.inside.most c.self.inside.limit c.self.inside.cells.items c.self.view_is (λ p. is_filling p ≡ true) false≢true c.args.cell c.requires in
    let there = was_there _ _ _ _ c.self.view_is (λ p. is_filling p ≡ true) false≢true c.args.cell c.requires _ c.index_mut-phase.ensures.value in
    table_set _ _ _ _ c.self.view_is c.args.cell _ (published c.args.value) lt (c.publish.ensures ∙ ap (published c.args.value) (sym there))
