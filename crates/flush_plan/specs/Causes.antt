-- Why a flush does not begin.
use Rattle.std.specs.Prelude.{ℕ}
use Rattle.cell_table.specs.declared.table.CellFault.{CellFault}
use Rattle.cell_table.specs.declared.table.CellFault.TheVariants as cells
use Rattle.cell_table.specs.Cells.{Table, IsCause}
use Rattle.book_parts.specs.Parts.{Shared}
use Rattle.flush_plan.specs.declared.fault.BeginFault.{BeginFault}
use Rattle.flush_plan.specs.declared.fault.BeginFault.TheVariants.{Full, NoCell, NoMemory}

-- the fault of the cells
abbrev pub cell_fault : BeginFault → CellFault
cell_fault (Full used wanted limit) = cells.Full used wanted limit
cell_fault (NoCell limit) = cells.NoCell limit
cell_fault NoMemory = cells.NoMemory

-- the cells refuse so many bytes for this cause
abbrev pub IsCauseOf : Table Shared → ℕ → BeginFault → Type 0
IsCauseOf table bytes fault = IsCause table bytes (cell_fault fault)
