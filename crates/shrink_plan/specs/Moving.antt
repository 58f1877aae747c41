-- What the end of a shrink changes of the index.
use Rattle.std.specs.Prelude.{◌≡◌, ℕ, ◌==◌, if◌then◌else◌, Bool, List, None}
use Rattle.slot_list.specs.declared.Place.{Place}
use Rattle.accounts_index.specs.Index.{Index}
use Rattle.adb_model.specs.State.{Row}
use Rattle.book_parts.specs.Changes.{SameHolds}
use Rattle.book_parts.specs.Flushes.{place_of, moved}
use Rattle.book_parts.specs.Reflects.{indexed}

-- the same mark at another place
abbrev pub at_place : Place → Bool × Place → Bool × Place
at_place place found = (found.0, place)

-- the rows' versions in the slot that are there are found at their places in the cell, and all else is as before
pub record FindsAt (slot cell : ℕ) (rows : List Row) (places : List ℕ) (old new : Index) : Type 0 where
  pub versions : (k : List ℕ) (s : ℕ) → indexed new s k ≡ moved cell (if slot == s then place_of rows places k else None) (indexed old s k)
  pub holds : SameHolds old new
