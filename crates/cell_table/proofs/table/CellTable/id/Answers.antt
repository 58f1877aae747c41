use Rattle.std.proofs.Common.{◌≡◌, false, Some, sym, ap, ◌∙◌, arith}
use Rattle.std.proofs.lemmas.Bool.{true≢false}
use Rattle.cell_table.specs.Phases.{id_of, is_free}
use Rattle.cell_table.proofs.Sound.{in_range, was_there, cell_seen}
use Rattle.cell_table.proofs.Grown.{cell_id-in_use, has_id-in_use}
use Rattle.cell_table.proofs.table.CellTable.id.Goals as goal

pub index-requires : goal.index-requires
index-requires g c =
    let lt = in_range c.args.self.now c.self.inside.most c.self.inside.limit c.self.inside.cells.items c.self.view_is (λ p. is_free p ≡ false) true≢false c.args.cell c.requires in
    omega (arith, lt, c.self.inside.cells.ok.0)

pub returns-clause-id : goal.returns-clause-id
returns-clause-id g c =
    let there = was_there _ _ _ _ c.self.view_is (λ p. is_free p ≡ false) true≢false c.args.cell c.requires _ c.index.ensures in
    c.id.ensures ∙ sym (ap id_of (cell_seen c.args.self.now c.self.inside.most c.self.inside.limit c.self.inside.cells.items c.self.view_is c.args.cell ∙ there))

pub returns-clause-some : goal.returns-clause-some
returns-clause-some g c = cell_id-in_use _ c.requires ∙ ap Some (sym (returns-clause-id g c))

pub returns-clause-there : goal.returns-clause-there
returns-clause-there g c = has_id-in_use _ c.requires _ (returns-clause-id g c)
