-- What the index needs for rows to move to a storage.
use Rattle.std.specs.Prelude.{◌≡◌, ◌≢◌, ℕ, true, false, List, AllPairs, IsSome}
use Rattle.accounts_index.specs.Index.{Index, kept}
use Rattle.adb_model.specs.Lists.{among}
use Rattle.adb_model.specs.State.{Row}
use Rattle.adb_model.specs.Presence.{has_row}
use Rattle.book_parts.specs.Reflects.{indexed}

-- the keys of the rows differ, and each has a version in the slot and is expected there, but not held
pub record CanMove (slot : ℕ) (rows : List Row) (index : Index) : Type 0 where
  pub differ : AllPairs (λ r q. r.key ≢ q.key) rows
  pub there : (k : List ℕ) → has_row k rows ≡ true → IsSome (indexed index slot k)
  pub expected : (k : List ℕ) → has_row k rows ≡ true → among slot (kept index k).expected ≡ true
  pub unheld : (k : List ℕ) → has_row k rows ≡ true → among slot (kept index k).held ≡ false
