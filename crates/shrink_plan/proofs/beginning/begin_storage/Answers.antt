use Rattle.shrink_plan.proofs.Cells.{cells_back}
use Rattle.shrink_plan.proofs.beginning.begin_storage.Goals as goal

pub returns-then-is_err-clause-same_cells : goal.returns-then-is_err-clause-same_cells
returns-then-is_err-clause-same_cells c =
    cells_back c.args.cells.now c.begin.new.self c.abandon.new.self c.args.id c.args.bytes c.in_ok-cell.cell c.in_ok-cell.ensures.ok c.abandon.ensures
