-- What contracts see of a book.
use Rattle.std.specs.Prelude.{ℕ, List, [], Option, None}
use Rattle.std.specs.declared.sync.Arc.{Arc}
use Rattle.std.specs.Global.{Global}
use Rattle.accounts_index.specs.Index.{Index}
use Rattle.write_cache.specs.Rows.{Cache}
use Rattle.vec_scan.specs.Image.{Image}
use Rattle.cell_table.specs.Cells.{Table}
use Rattle.storage_map.specs.Slots.{Slots}
use Rattle.adb_model.specs.State.{Lease}

-- what a cell has where it is filled
abbrev pub Shared : Type 0
Shared = Arc Image Global

-- the parts of a book
pub record Parts : Type 0 where
  -- what is kept of each key
  pub index : Index
  -- of each slot the rows that have not gone to a storage
  pub cache : Cache
  -- rising, the newest last
  pub roots : List ℕ
  -- what newer roots up to this slot shadow may be dropped
  pub cleaned : ℕ
  -- in order of leasing
  pub leases : List Lease
  -- the storages, and the most bytes that they may have together
  pub cells : Table Shared
  -- of each slot the storage in use, and the one that is being filled
  pub map : Slots
  -- the slot of the open snapshot
  pub snap : Option ℕ
  -- the id of the next storage
  pub next_id : ℕ

-- those of a new book, of which all cells are free
abbrev pub new_parts : Table Shared → ℕ → Parts
new_parts cells id = record { index = []; cache = []; roots = []; cleaned = 0; leases = []; cells = cells; map = []; snap = None; next_id = id }
