use Rattle.std.proofs.Common.{◌≡◌, ℕ, true, cond, None, ap, ◌∙◌, arith}
use Rattle.std.specs.Ordering.{nat_cmp}
use Rattle.std.specs.BTreeMap.{get, is_at}
use Rattle.std.proofs.lemmas.Bool.{false≢true}
use Rattle.cell_table.specs.declared.phase.Phase.TheVariants.{Free}
use Rattle.cell_table.specs.Phases.{is_free, is_filling}
use Rattle.cell_table.proofs.Sound.{in_range, was_there, was_so, room_set, table_set, places_fit, filling_not_free, publish_counts, fewer_bytes, IsSound-abandon}
use Rattle.cell_table.proofs.table.CellTable.abandon.Goals as goal

pub index_mut-phase-requires : goal.index_mut-phase-requires
index_mut-phase-requires g c =
    let lt = in_range c.args.self.now c.self.inside.most c.self.inside.limit c.self.inside.cells.items c.self.view_is (λ p. is_filling p ≡ true) false≢true c.args.cell c.requires in
    omega (arith, lt, c.self.inside.cells.ok.0)

pub overflow_sub-self : goal.overflow_sub-self
overflow_sub-self g c =
    let lt = in_range c.args.self.now c.self.inside.most c.self.inside.limit c.self.inside.cells.items c.self.view_is (λ p. is_filling p ≡ true) false≢true c.args.cell c.requires in
    let there = was_there _ _ _ _ c.self.view_is (λ p. is_filling p ≡ true) false≢true c.args.cell c.requires _ c.index_mut-phase.ensures.value in
    omega (arith, c.bytes.ensures, fewer_bytes _ _ _ _ _ _ _ c.self.invariant.1 c.args.cell lt _ there)

pub put-requires : goal.put-requires
put-requires g c =
    let lt = in_range c.args.self.now c.self.inside.most c.self.inside.limit c.self.inside.cells.items c.self.view_is (λ p. is_filling p ≡ true) false≢true c.args.cell c.requires in
    let there = was_there _ _ _ _ c.self.view_is (λ p. is_filling p ≡ true) false≢true c.args.cell c.requires _ c.index_mut-phase.ensures.value in
    let so = was_so _ _ _ _ c.self.view_is (λ p. is_filling p ≡ true) false≢true c.args.cell c.requires _ c.index_mut-phase.ensures.value in
    let fits = places_fit is_free _ _ c.self.invariant.1.free_places c.args.cell _ lt there (filling_not_free c.index_mut-phase.result.now so) in
    omega (arith, fits, c.self.invariant.0.free, c.self.inside.free.ok.0)

pub overflow_sub-self-2 : goal.overflow_sub-self-2
overflow_sub-self-2 g c =
    let lt = in_range c.args.self.now c.self.inside.most c.self.inside.limit c.self.inside.cells.items c.self.view_is (λ p. is_filling p ≡ true) false≢true c.args.cell c.requires in
    let there = was_there _ _ _ _ c.self.view_is (λ p. is_filling p ≡ true) false≢true c.args.cell c.requires _ c.index_mut-phase.ensures.value in
    let so = was_so _ _ _ _ c.self.view_is (λ p. is_filling p ≡ true) false≢true c.args.cell c.requires _ c.index_mut-phase.ensures.value in
    publish_counts _ _ _ _ _ _ _ c.self.invariant.1 c.args.cell lt _ there so

pub invariant_of-self : goal.invariant_of-self
invariant_of-self g c =
    let lt = in_range c.args.self.now c.self.inside.most c.self.inside.limit c.self.inside.cells.items c.self.view_is (λ p. is_filling p ≡ true) false≢true c.args.cell c.requires in
    let there = was_there _ _ _ _ c.self.view_is (λ p. is_filling p ≡ true) false≢true c.args.cell c.requires _ c.index_mut-phase.ensures.value in
    let so = was_so _ _ _ _ c.self.view_is (λ p. is_filling p ≡ true) false≢true c.args.cell c.requires _ c.index_mut-phase.ensures.value in
    let gone = λ (q : ℕ). c.remove.ensures.updates.0 q ∙ ap (λ id. cond (is_at (nat_cmp id) q) None (get nat_cmp c.self.inside.ids q)) c.id.ensures in
    rw (c.clear.ensures, c.put.ensures.room, c.put.ensures.items, c.bytes.ensures)
    (room_set _ c.args.cell _ _ _ _ c.self.invariant.0, IsSound-abandon _ _ _ _ _ _ _ c.self.invariant.1 c.args.cell lt _ there _ gone so)

pub returns : goal.returns
returns g c =
    let lt = in_range c.args.self.now c.self.inside.most c.self.inside.limit c.self.inside.cells.items c.self.view_is (λ p. is_filling p ≡ true) false≢true c.args.cell c.requires in
    table_set _ _ _ _ c.self.view_is c.args.cell _ (λ p. Free) lt c.clear.ensures
