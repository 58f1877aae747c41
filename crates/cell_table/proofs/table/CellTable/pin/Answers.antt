use Rattle.std.proofs.Common.{◌≡◌, true, refl, sym, ap, ◌∙◌, arith}
use Rattle.std.proofs.lemmas.Bool.{false≢true}
use Rattle.cell_table.specs.declared.table.Counts.{Counts}
use Rattle.cell_table.specs.Phases.{is_live, pins_of, pinned}
use Rattle.cell_table.proofs.Sound.{in_range, was_there, was_so, room_set, sum_seen, pins_within, table_set, IsSound-pin}
use Rattle.cell_table.proofs.table.CellTable.pin.Goals as goal

pub index_mut-phase-requires : goal.index_mut-phase-requires
index_mut-phase-requires g c =
    let lt = in_range c.args.self.now c.self.inside.most c.self.inside.limit c.self.inside.cells.items c.self.view_is (λ p. is_live p ≡ true) false≢true c.args.cell c.requires.live in
    omega (arith, lt, c.self.inside.cells.ok.0)

pub pin-requires : goal.pin-requires
pin-requires g c =
    let lt = in_range c.args.self.now c.self.inside.most c.self.inside.limit c.self.inside.cells.items c.self.view_is (λ p. is_live p ≡ true) false≢true c.args.cell c.requires.live in
    let there = was_there _ _ _ _ c.self.view_is (λ p. is_live p ≡ true) false≢true c.args.cell c.requires.live _ c.index_mut-phase.ensures.value in
    omega (arith, pins_within _ _ _ _ _ _ _ c.self.invariant.1 c.args.cell lt _ there, sum_seen c.args.self.now c.self.inside.most c.self.inside.limit c.self.inside.cells.items c.self.view_is pins_of refl, ap (λ (t : Counts). t.pins) c.self.invariant.1.tally, c.requires.fits)

pub overflow_add-self : goal.overflow_add-self
overflow_add-self g c =
    omega (arith, sum_seen c.args.self.now c.self.inside.most c.self.inside.limit c.self.inside.cells.items c.self.view_is pins_of refl, ap (λ (t : Counts). t.pins) c.self.invariant.1.tally, c.requires.fits)

pub invariant_of-self : goal.invariant_of-self
invariant_of-self g c =
    let lt = in_range c.args.self.now c.self.inside.most c.self.inside.limit c.self.inside.cells.items c.self.view_is (λ p. is_live p ≡ true) false≢true c.args.cell c.requires.live in
    let there = was_there _ _ _ _ c.self.view_is (λ p. is_live p ≡ true) false≢true c.args.cell c.requires.live _ c.index_mut-phase.ensures.value in
    let so = was_so _ _ _ _ c.self.view_is (λ p. is_live p ≡ true) false≢true c.args.cell c.requires.live _ c.index_mut-phase.ensures.value in
    rw c.pin.ensures
    (room_set _ c.args.cell _ _ _ _ c.self.invariant.0, IsSound-pin _ _ _ _ _ _ _ c.self.invariant.1 c.args.cell lt _ there so)

pub returns : goal.returns
returns g c =
    let lt = in_range c.args.self.now c.self.inside.most c.self.inside.limit c.self.inside.cells.items c.self.view_is (λ p. is_live p ≡ true) false≢true c.args.cell c.requires.live in
    let there = was_there _ _ _ _ c.self.view_is (λ p. is_live p ≡ true) false≢true c.args.cell c.requires.live _ c.index_mut-phase.ensures.value in
    table_set _ _ _ _ c.self.view_is c.args.cell _ pinned lt (c.pin.ensures ∙ ap pinned (sym there))
