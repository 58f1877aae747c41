-- Why a shrink does not begin.
use Rattle.std.specs.Prelude.{ℕ}
use Rattle.cell_table.specs.declared.table.CellFault.{CellFault}
use Rattle.cell_table.specs.declared.table.CellFault.TheVariants as cells
use Rattle.cell_table.specs.Cells.{Table, IsCause}
use Rattle.book_parts.specs.Parts.{Shared}
use Rattle.shrink_plan.specs.declared.fault.BeginFault.{BeginFault}
use Rattle.shrink_plan.specs.declared.fault.BeginFault.TheVariants.{Full, NoCell, NoMemory}

-- the fault of the cells
abbrev pub cell_fault : BeginFault → CellFault
cell_fault (Full used wanted limit) = cells.Full used wanted limit
cell_fault (NoCell limit) = cells.NoCell limit
cell_fault NoMemory = cells.NoMemory

-- the cells refuse so many bytes for this cause; memory may be wanting before they are asked
abbrev pub IsCauseOf : Table Shared → ℕ → BeginFault → Type 0
IsCauseOf table bytes (Full used wanted limit) = IsCause table bytes (cells.Full used wanted limit)
IsCauseOf table bytes (NoCell limit) = IsCause table bytes (cells.NoCell limit)
IsCauseOf table bytes NoMemory = Unit {0}
