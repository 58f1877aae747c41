-- Why no book is opened from storages.
use Rattle.std.specs.Prelude.{◌≡◌, ◌<◌, ◌≤◌, ℕ, ◌+◌, List, ◌∷◌, ◌++◌, length, take, sum_by}
use Rattle.cell_table.specs.declared.table.CellFault.{CellFault}
use Rattle.cell_table.specs.declared.table.CellFault.TheVariants as cells
use Rattle.cell_table.specs.Cells.{Table, IsCause}
use Rattle.book_parts.specs.Parts.{Shared}
use Rattle.open_plan.specs.declared.fault.RebuildFault.{RebuildFault}
use Rattle.open_plan.specs.declared.fault.RebuildFault.TheVariants.{Full, NoCell, NoMemory}

-- the fault of the cells
abbrev pub cell_fault : RebuildFault → CellFault
cell_fault (Full used wanted limit) = cells.Full used wanted limit
cell_fault (NoCell limit) = cells.NoCell limit
cell_fault NoMemory = cells.NoMemory

-- the cells refuse so many bytes for this cause; memory may be wanting also elsewhere
abbrev pub IsCauseOf : Table Shared → ℕ → RebuildFault → Type 0
IsCauseOf table bytes (Full used wanted limit) = IsCause table bytes (cells.Full used wanted limit)
IsCauseOf table bytes (NoCell limit) = IsCause table bytes (cells.NoCell limit)
IsCauseOf table bytes NoMemory = Unit {0}

-- the first of storages of these sizes that has no room in the budget
pub record IsFirstFull (budget : ℕ) (sizes : List ℕ) (used wanted limit : ℕ) : Type 0 where
  pub front : List ℕ
  pub rest : List ℕ
  pub parts : sizes ≡ front ++ wanted ∷ rest
  pub cells : length front ≤ 1048576
  pub used_is : used ≡ sum_by (λ size. size) front
  pub within : used ≤ budget
  pub above : budget < used + wanted
  pub limit_is : limit ≡ budget

-- there are more storages than cells, and the first one without a cell has room in the budget
pub record IsOutOfCells (budget : ℕ) (sizes : List ℕ) (limit : ℕ) : Type 0 where
  pub many : 1048576 < length sizes
  pub within : sum_by (λ size. size) (take 1048577 sizes) ≤ budget
  pub limit_is : limit ≡ 1048576

-- why no book is opened from storages of these sizes
abbrev pub IsWhyNotRebuilt : ℕ → List ℕ → RebuildFault → Type 0
IsWhyNotRebuilt budget sizes (Full used wanted limit) = IsFirstFull budget sizes used wanted limit
IsWhyNotRebuilt budget sizes (NoCell limit) = IsOutOfCells budget sizes limit
IsWhyNotRebuilt budget sizes NoMemory = Unit {0}
