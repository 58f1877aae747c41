-- Why no shrink begins, and how one ends.
use Rattle.std.specs.Prelude.{◌≡◌, ◌≢◌, ℕ, ◌+◌, ◌<◌, ◌≤◌, true, length, Some, None, count_by}
use Rattle.cell_table.specs.declared.table.CellFault.{CellFault}
use Rattle.cell_table.specs.declared.table.CellFault.TheVariants as faults
use Rattle.cell_table.specs.Phases.{has_id, is_free}
use Rattle.cell_table.specs.Cells.{Table, cell_at, used}
use Rattle.storage_map.specs.declared.entry.Begun.{Begun}
use Rattle.storage_map.specs.declared.entry.Live.{Live}
use Rattle.storage_map.specs.Slots.{Slots, live_at, begun_at}
use Rattle.book_parts.specs.Parts.{Shared}
use Rattle.book.specs.declared.refusals.ShrinkRefusal.{ShrinkRefusal}
use Rattle.book.specs.declared.refusals.ShrinkRefusal.TheVariants.{NoStorage, Shrinking, NothingDead, Full, NoCell, IdsSpent, NoMemory}

-- the slot has a storage in use, of which not all rows are alive, and none that is being filled
pub record MayShrink (map : Slots) (slot : ℕ) : Type 0 where
  pub live : Live
  pub entry : live_at map slot ≡ Some live
  pub unopened : begun_at map slot ≡ None
  pub some_dead : live.alive ≢ live.total

-- it has no storage in use, is being shrunk, or has only living rows; each where the ones before it are not so
abbrev pub IsWhyNotShrunk : Table Shared → Slots → ℕ → ShrinkRefusal → Type 0
IsWhyNotShrunk cells map slot (NoStorage of_slot) = (of_slot ≡ slot) × (live_at map slot ≡ None)
IsWhyNotShrunk cells map slot (Shrinking of_slot id) =
    (of_slot ≡ slot) × (live : Live) × (live_at map slot ≡ Some live)
    × (b : Begun) × (begun_at map slot ≡ Some b) × (has_id id (cell_at cells.cells b.cell) ≡ true)
IsWhyNotShrunk cells map slot (NothingDead of_slot) =
    (of_slot ≡ slot) × (live : Live) × (live_at map slot ≡ Some live) × (begun_at map slot ≡ None) × (live.alive ≡ live.total)
IsWhyNotShrunk cells map slot refusal = ⊥

-- there is no room for so many bytes, or, where there is, no id
abbrev pub IsLackOf : Table Shared → ℕ → ShrinkRefusal → Type 0
IsLackOf cells bytes (Full used_bytes wanted limit) =
    (used_bytes ≡ used cells.cells) × (wanted ≡ bytes) × (limit ≡ cells.limit) × (limit < used_bytes + wanted)
IsLackOf cells bytes (NoCell limit) = (limit ≡ length cells.cells) × (used cells.cells + bytes ≤ cells.limit) × (count_by is_free cells.cells ≡ 0)
IsLackOf cells bytes IdsSpent = (used cells.cells + bytes ≤ cells.limit) × (0 < count_by is_free cells.cells)
IsLackOf cells bytes refusal = ⊥

-- the refusal for a fault of the cells
abbrev pub refusal_for : CellFault → ShrinkRefusal
refusal_for (faults.Full used_bytes wanted limit) = Full used_bytes wanted limit
refusal_for (faults.NoCell limit) = NoCell limit
refusal_for faults.NoMemory = NoMemory
