-- The parts of a book with what a flush changes of them.
use Rattle.std.specs.Prelude.{ℕ}
use Rattle.accounts_index.specs.Index.{Index}
use Rattle.write_cache.specs.Rows.{Cache}
use Rattle.cell_table.specs.Cells.{Table}
use Rattle.storage_map.specs.Slots.{Slots}
use Rattle.book_parts.specs.Parts.{Parts, Shared}

-- parts with this cache, this index, these cells and this map
abbrev pub having : Parts → Cache → Index → Table Shared → Slots → Parts
having p cache index cells map = record p { cache = cache; index = index; cells = cells; map = map }

-- and with this id for the next storage
abbrev pub with_next : Parts → ℕ → Parts
with_next p id = record p { next_id = id }
