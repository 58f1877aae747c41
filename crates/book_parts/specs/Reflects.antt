-- The parts of a book are those of a state, part by part.
use Rattle.std.specs.Prelude.{◌≡◌, ℕ, not, Bool, if◌then◌else◌, List, [], Option, Some, None, option_map, false, count_by}
use Rattle.std.specs.Option.{option_map_or}
use Rattle.slot_list.specs.declared.Version.{Version}
use Rattle.slot_list.specs.declared.Place.{Place}
use Rattle.slot_list.specs.declared.Place.TheVariants.{Stored}
use Rattle.slot_list.specs.Versions.{at}
use Rattle.accounts_index.specs.Index.{Index, kept, is_stored}
use Rattle.write_cache.specs.Rows.{rows, total}
use Rattle.cell_table.specs.Phases.{is_filling, is_live, is_retired}
use Rattle.cell_table.specs.Cells.{used, pins}
use Rattle.storage_map.specs.Slots.{alive_sum, total_sum}
use Rattle.adb_model.specs.Lists.{among}
use Rattle.adb_model.specs.State.{Row, State}
use Rattle.adb_model.specs.Presence.{is_cached, is_present, has_row, is_held, ends_in_tomb}
use Rattle.adb_model.specs.Storages.{open_flush}
use Rattle.adb_model.specs.Flush.{flush_rows}
use Rattle.adb_model.specs.Call.{Counts}
use Rattle.adb_model.specs.Stats.{counts_of}
use Rattle.book_parts.specs.Parts.{Parts}
use Rattle.book_parts.specs.Cells.{CellsFit}
use Rattle.book_parts.specs.Storages.{SlotsFit, IsPlacedAt}

-- what a version tells: whether its account is a tomb, and where it is
abbrev pub found_of : Version → Bool × Place
found_of v = (v.tomb, v.place)

-- what an index has of a pair
abbrev pub indexed : Index → ℕ → List ℕ → Option (Bool × Place)
indexed index s k = option_map found_of (at s (kept index k).versions)

-- whether it is a tomb, and whether it is in the cache
abbrev pub mark_of : Bool × Place → Bool × Bool
mark_of i = (i.0, not (is_stored i.1))

-- the mark of a pair that is present
abbrev pub present_mark : State → ℕ → List ℕ → Option (Bool × Bool)
present_mark m s k = if is_present m s k then Some (ends_in_tomb m s k, is_cached m s k) else None

-- what a flush of the slot would write, until one has
abbrev pub unflushed_rows : State → ℕ → List Row
unflushed_rows m s = if among s m.flushed then [] else flush_rows m s

-- a flush of the slot is open, whose end will hold the key
abbrev pub is_expected : State → ℕ → List ℕ → Bool
is_expected m s k = option_map_or (λ t. has_row k t.rows) (open_flush m s) false

-- the counts that the parts tell
abbrev pub counts_in : Parts → Counts
counts_in p = record {
  cached = total p.cache;
  filling = count_by is_filling p.cells.cells;
  live = count_by is_live p.cells.cells;
  retired = count_by is_retired p.cells.cells;
  named = alive_sum p.map;
  rows = total_sum p.map;
  bytes = used p.cells.cells;
  pins = pins p.cells.cells;
}

-- each look into the parts finds what the state says
pub record Reflects (p : Parts) (m : State) : Type 0 where
  pub marks : (k : List ℕ) (s : ℕ) → option_map mark_of (indexed p.index s k) ≡ present_mark m s k
  pub placed : (k : List ℕ) (s : ℕ) (tomb : Bool) (cell offset : ℕ) → indexed p.index s k ≡ Some (tomb, Stored cell offset) → IsPlacedAt m p.cells.cells s k cell offset
  pub held : (k : List ℕ) (s : ℕ) → among s (kept p.index k).held ≡ is_held m s k
  pub expected : (k : List ℕ) (s : ℕ) → among s (kept p.index k).expected ≡ is_expected m s k
  pub rows : (s : ℕ) → rows p.cache s ≡ unflushed_rows m s
  pub roots : p.roots ≡ m.roots
  pub cleaned : p.cleaned ≡ m.cleaned
  pub leases : p.leases ≡ m.leases
  pub cells : CellsFit m p.cells.cells
  pub slots : SlotsFit m p.cells.cells p.map
  pub counts : counts_in p ≡ counts_of m
  pub limit : p.cells.limit ≡ m.budget
  pub snap : p.snap ≡ option_map (λ n. n.slot) m.snap
  pub next_id : p.next_id ≡ m.next_id
