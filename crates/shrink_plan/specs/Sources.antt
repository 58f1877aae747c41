-- What a shrink copies.
use Rattle.std.specs.Prelude.{ℕ, Bool, false, Option}
use Rattle.std.specs.Option.{option_map_or}
use Rattle.slot_list.specs.declared.Version.{Version}
use Rattle.cell_table.specs.Cells.{Table}
use Rattle.storage_map.specs.declared.entry.Live.{Live}
use Rattle.storage_map.specs.Slots.{Slots}
use Rattle.book_parts.specs.Parts.{Shared}
use Rattle.book_parts.specs.Shrinks.{IsInUse, is_at}

-- this is so of the slot's storage in use and its image
abbrev pub OfStorage : ℕ → Table Shared → Slots → (Live → Shared → Type 0) → Type 0
OfStorage slot cells slots P = (live : Live) × (image : Shared) × IsInUse slot live image cells slots × P live image

-- a version is there, whose record stands at this place of this cell
abbrev pub is_found_at : ℕ → ℕ → Option Version → Bool
is_found_at cell offset version = option_map_or (λ v. is_at cell offset v.place) version false
