use Rattle.std.proofs.Common.{◌-◌, [], arith}
use Rattle.cell_table.proofs.Padded.{all_free, length-all}
use Rattle.cell_table.proofs.table.CellTable.new.Goals as goal

pub returns-clause-cells : goal.returns-clause-cells
returns-clause-cells g c = rw c.new.ensures.items (length-all c.args.cells [] (omega arith))

pub returns-clause-free : goal.returns-clause-free
returns-clause-free g c = rw c.new.ensures.items (all_free (c.args.cells - 0))
