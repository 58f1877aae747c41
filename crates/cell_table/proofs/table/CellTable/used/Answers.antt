use Rattle.std.proofs.Common.{refl, sym, ap, ◌∙◌, arith}
use Rattle.cell_table.specs.Phases.{bytes_of}
use Rattle.cell_table.specs.Cells.{Table}
use Rattle.cell_table.proofs.Sound.{sum_seen}
use Rattle.cell_table.proofs.table.CellTable.used.Goals as goal

pub returns-clause-used : goal.returns-clause-used
returns-clause-used g c = c.self.invariant.1.total ∙ sym (sum_seen c.args.self.now c.self.inside.most c.self.inside.limit c.self.inside.cells.items c.self.view_is bytes_of refl)

pub returns-clause-within : goal.returns-clause-within
returns-clause-within g c = omega (arith, c.self.invariant.1.within, ap (λ (t : Table _). t.limit) c.self.view_is)
