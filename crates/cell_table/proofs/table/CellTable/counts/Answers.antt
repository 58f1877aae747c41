use Rattle.std.proofs.Common.{◌∙◌}
use Rattle.cell_table.proofs.Sound.{counts_seen}
use Rattle.cell_table.proofs.table.CellTable.counts.Goals as goal

pub returns : goal.returns
returns g c = c.self.invariant.1.tally ∙ counts_seen c.args.self.now c.self.inside.most c.self.inside.limit c.self.inside.cells.items c.self.view_is
