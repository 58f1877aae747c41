use Rattle.std.proofs.Common.{sym, ap, ◌∙◌}
use Rattle.cell_table.specs.Phases.{has_id}
use Rattle.cell_table.proofs.Sound.{cell_seen}
use Rattle.cell_table.proofs.table.CellTable.cell_of.Goals as goal

pub returns : goal.returns
returns g c = λ cell.
    let all = c.self.invariant.1.ids c.args.id cell in
    let found = c.copied.ensures ∙ c.get.ensures.value in
    let seen = ap (has_id c.args.id) (cell_seen c.args.self.now c.self.inside.most c.self.inside.limit c.self.inside.cells.items c.self.view_is cell) in
    ((λ e. seen ∙ all.0 (sym found ∙ e)), (λ e. found ∙ all.1 (sym seen ∙ e)))
