use Rattle.std.proofs.Common.{ap, ◌∙◌, arith, IsSome}
use Rattle.std.proofs.lemmas.Bool.{false≢true}
use Rattle.cell_table.specs.Phases.{value_of}
use Rattle.cell_table.proofs.Sound.{in_range, was_there, was_so, cell_seen}
use Rattle.cell_table.proofs.table.CellTable.get.Goals as goal

pub index-requires : goal.index-requires
index-requires g c =
    let lt = in_range c.args.self.now c.self.inside.most c.self.inside.limit c.self.inside.cells.items c.self.view_is (λ p. IsSome (value_of p)) false≢true c.args.cell c.requires in
    omega (arith, lt, c.self.inside.cells.ok.0)

pub value-requires : goal.value-requires
value-requires g c = was_so _ _ _ _ c.self.view_is (λ p. IsSome (value_of p)) false≢true c.args.cell c.requires _ c.index.ensures

pub returns : goal.returns
returns g c =
    let there = was_there _ _ _ _ c.self.view_is (λ p. IsSome (value_of p)) false≢true c.args.cell c.requires _ c.index.ensures in
    ap value_of (cell_seen c.args.self.now c.self.inside.most c.self.inside.limit c.self.inside.cells.items c.self.view_is c.args.cell ∙ there) ∙ c.value.ensures
