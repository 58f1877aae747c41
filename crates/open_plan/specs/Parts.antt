-- The parts that storages are opened into.
use Rattle.std.specs.Prelude.{◌≡◌, ℕ, ◌-◌, List, false, None}
use Rattle.accounts_index.specs.Index.{Index, kept}
use Rattle.adb_model.specs.Lists.{among}
use Rattle.storage_map.specs.declared.entry.Live.{Live}
use Rattle.storage_map.specs.Slots.{Slots, live_at}
use Rattle.book_parts.specs.Parts.{Parts, new_parts}
use Rattle.open_plan.specs.declared.opening.Opened.{Opened}

-- no key is held in the slot, and no storage of it is in use
pub record HasNothing (slot : ℕ) (index : Index) (slots : Slots) : Type 0 where
  pub unheld : (k : List ℕ) → among slot (kept index k).held ≡ false
  pub unused : live_at slots slot ≡ None

-- so many rows fewer are alive
abbrev pub fewer : ℕ → Live → Live
fewer count live = record live { alive = live.alive - count }

-- the parts of a book that is opened at the slot, whose next storage gets the id
abbrev pub parts_of : Opened → ℕ → ℕ → Parts
parts_of parts slot id = record (new_parts parts.cells id) { index = parts.index; map = parts.map; roots = parts.roots; cleaned = slot }
