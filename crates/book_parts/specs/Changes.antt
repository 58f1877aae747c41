-- What the calls of a book change of its index and its cache.
use Rattle.std.specs.Prelude.{◌≡◌, ℕ, ◌+◌, ◌==◌, ◌&&◌, if◌then◌else◌, List, [], length, Option, Some, None, is_some, option_map, option_and_then, nat_le, slice_set}
use Rattle.std.specs.Str.{bytes_eq}
use Rattle.slot_list.specs.declared.Place.TheVariants.{Cached}
use Rattle.accounts_index.specs.Index.{Index, kept}
use Rattle.write_cache.specs.Rows.{Cache, rows, total, account_at, IsWith}
use Rattle.adb_model.specs.Lists.{among, last}
use Rattle.adb_model.specs.Account.{Account, is_tomb}
use Rattle.adb_model.specs.Cache.{put_row}
use Rattle.cell_table.specs.declared.phase.Phase.{Phase}
use Rattle.book_parts.specs.Parts.{Shared, Parts}
use Rattle.book_parts.specs.Reflects.{indexed}

-- the newest root, where the slot is not above it
abbrev pub rooted_by : List ℕ → ℕ → Option ℕ
rooted_by roots slot = option_and_then (λ newest. if nat_le slot newest then Some newest else None) (last roots)

-- a key has a version in the slot exactly where it has a row there
abbrev pub AgreeIn : ℕ → Index → Cache → Type 0
AgreeIn slot index cache = (k : List ℕ) → is_some (indexed index slot k) ≡ is_some (account_at (rows cache slot) k)

-- a key has a version in the slot exactly where it has a row there, and it is cached, and a tomb where the row's account is one
abbrev pub CachedIn : ℕ → Index → Cache → Type 0
CachedIn slot index cache = (k : List ℕ) → indexed index slot k ≡ option_map (λ a. (is_tomb a, Cached)) (account_at (rows cache slot) k)

-- each slot has the same rows, and there are as many in all
pub record SameCache (old new : Cache) : Type 0 where
  pub rows : (s : ℕ) → rows new s ≡ rows old s
  pub counted : total new ≡ total old

-- each key is held, and expected to be, in the same slots
pub record SameHolds (old new : Index) : Type 0 where
  pub held : (k : List ℕ) (s : ℕ) → among s (kept new k).held ≡ among s (kept old k).held
  pub expected : (k : List ℕ) (s : ℕ) → among s (kept new k).expected ≡ among s (kept old k).expected

-- and has the same versions
pub record SameIndex (old new : Index) : Type 0 where
  pub versions : (k : List ℕ) (s : ℕ) → indexed new s k ≡ indexed old s k
  pub holds : SameHolds old new

-- the pair's version and row are in, and all else is as before
pub record Enters (old_index new_index : Index) (old_cache new_cache : Cache) (slot : ℕ) (key : List ℕ) (account : Account) : Type 0 where
  pub versions : (k : List ℕ) (s : ℕ) → indexed new_index s k ≡ (if slot == s && bytes_eq key k then Some (is_tomb account, Cached) else indexed old_index s k)
  pub holds : SameHolds old_index new_index
  pub put : IsWith old_cache new_cache slot (put_row (rows old_cache slot) key account)
  pub counted : total new_cache ≡ total old_cache + (if is_some (account_at (rows old_cache slot) key) then 0 else 1)

-- the slot's versions and rows, which were so many, are gone, and all else is as before
pub record Leaves (old_index new_index : Index) (old_cache new_cache : Cache) (slot keys : ℕ) : Type 0 where
  pub versions : (k : List ℕ) (s : ℕ) → indexed new_index s k ≡ (if slot == s then None else indexed old_index s k)
  pub holds : SameHolds old_index new_index
  pub dropped : IsWith old_cache new_cache slot []
  pub counted : total old_cache ≡ total new_cache + keys
  pub all : keys ≡ length (rows old_cache slot)

-- with another phase of one cell
abbrev pub with_cell : Parts → ℕ → Phase Shared → Parts
with_cell p cell phase = record p { cells = record p.cells { cells = slice_set p.cells.cells cell phase } }
