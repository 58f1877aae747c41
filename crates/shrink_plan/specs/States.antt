-- The parts of a book with what a shrink changes of them, and the state that its end leaves.
use Rattle.std.specs.Prelude.{ℕ, if◌then◌else◌}
use Rattle.accounts_index.specs.Index.{Index}
use Rattle.cell_table.specs.Cells.{Table}
use Rattle.storage_map.specs.Slots.{Slots}
use Rattle.adb_model.specs.State.{Shrink, State}
use Rattle.adb_model.specs.Shrink.{is_current, installed, copy_dropped}
use Rattle.book_parts.specs.Parts.{Parts, Shared}

-- parts with this index, these cells and this map
abbrev pub having : Parts → Index → Table Shared → Slots → Parts
having p index cells map = record p { index = index; cells = cells; map = map }

-- and with this id for the next storage
abbrev pub with_next : Parts → ℕ → Parts
with_next p id = record p { next_id = id }

-- the state once the shrink has ended, in time or too late
abbrev pub ended : State → Shrink → State
ended m h = if is_current m h then installed m h else copy_dropped m h
