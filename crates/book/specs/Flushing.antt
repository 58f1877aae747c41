-- Why no flush begins.
use Rattle.std.specs.Prelude.{◌≡◌, ℕ, ◌+◌, ◌<◌, ◌≤◌, true, false, List, length, Some, count_by}
use Rattle.write_cache.specs.Rows.{Cache, rows}
use Rattle.cell_table.specs.declared.table.CellFault.{CellFault}
use Rattle.cell_table.specs.declared.table.CellFault.TheVariants as faults
use Rattle.cell_table.specs.Phases.{has_id, is_free}
use Rattle.cell_table.specs.Cells.{Table, cell_at, used}
use Rattle.storage_map.specs.declared.entry.Begun.{Begun}
use Rattle.storage_map.specs.Slots.{Slots, begun_at}
use Rattle.adb_model.specs.Lists.{among}
use Rattle.book_parts.specs.Parts.{Shared}
use Rattle.book.specs.declared.refusals.FlushRefusal.{FlushRefusal}
use Rattle.book.specs.declared.refusals.FlushRefusal.TheVariants.{NotRooted, NothingCached, Flushing, Full, NoCell, IdsSpent, NoMemory}

-- the slot is no root, has no cached row, or is being flushed; each where the ones before it are not so
abbrev pub IsWhy : List ℕ → Cache → Table Shared → Slots → ℕ → FlushRefusal → Type 0
IsWhy roots cache cells map slot (NotRooted of_slot) = (of_slot ≡ slot) × (among slot roots ≡ false)
IsWhy roots cache cells map slot (NothingCached of_slot) = (of_slot ≡ slot) × (among slot roots ≡ true) × (length (rows cache slot) ≡ 0)
IsWhy roots cache cells map slot (Flushing of_slot id) =
    (of_slot ≡ slot) × (among slot roots ≡ true) × (0 < length (rows cache slot))
    × (b : Begun) × (begun_at map slot ≡ Some b) × (has_id id (cell_at cells.cells b.cell) ≡ true)
IsWhy roots cache cells map slot refusal = ⊥

-- there is no room for so many bytes, or, where there is, no id
abbrev pub IsLackOf : Table Shared → ℕ → FlushRefusal → Type 0
IsLackOf cells bytes (Full used_bytes wanted limit) =
    (used_bytes ≡ used cells.cells) × (wanted ≡ bytes) × (limit ≡ cells.limit) × (limit < used_bytes + wanted)
IsLackOf cells bytes (NoCell limit) = (limit ≡ length cells.cells) × (used cells.cells + bytes ≤ cells.limit) × (count_by is_free cells.cells ≡ 0)
IsLackOf cells bytes IdsSpent = (used cells.cells + bytes ≤ cells.limit) × (0 < count_by is_free cells.cells)
IsLackOf cells bytes refusal = ⊥

-- the refusal for a fault of the cells
abbrev pub refusal_for : CellFault → FlushRefusal
refusal_for (faults.Full used_bytes wanted limit) = Full used_bytes wanted limit
refusal_for (faults.NoCell limit) = NoCell limit
refusal_for faults.NoMemory = NoMemory
