-- What the fields of a cache stand for, and what holds of them.
use Rattle.std.specs.Prelude.{◌≡◌, ℕ, ◌<◌, List, length, map, All}
use Rattle.std.specs.Borrow.{Bor}
use Rattle.std.specs.Map.{values_of}
use Rattle.std.specs.declared.sync.Arc.{Arc}
use Rattle.indexmap.specs.IndexMap.{IndexMap}
use Rattle.adb_model.specs.Account.{Account}
use Rattle.adb_model.specs.State.{Row}
use Rattle.adb_model.specs.declared.key.Key.{Key}
use Rattle.write_cache.specs.Rows.{Cache, total}

module _ {Z : Type 0} where
  -- a key and what its `Arc` holds
  abbrev pub row_of : Key × Arc Account Z → Row
  row_of e = record { key = e.0.0; account = e.1.value }

  -- a key and what a borrowed `Arc` holds
  abbrev pub borrowed_row : Key × Bor (Arc Account Z) → Row
  borrowed_row r = record { key = r.0.0; account = r.1.now.value }

  module _ {S : Type 0} where
    abbrev pub rows_of : IndexMap Key (Arc Account Z) S → List Row
    rows_of m = map row_of m.entries

    -- the rows of each slot
    abbrev pub seen : List (ℕ × IndexMap Key (Arc Account Z) S) → Cache
    seen es = map (λ e. (e.0, rows_of e.1)) es

    -- each slot that is kept has rows
    abbrev pub AreFilled : List (ℕ × IndexMap Key (Arc Account Z) S) → Type 0
    AreFilled es = All (λ m. 0 < length m.entries) (values_of es)

    -- and the number of all rows is this
    pub record IsCounted (es : List (ℕ × IndexMap Key (Arc Account Z) S)) (count : ℕ) : Type 0 where
      pub filled : AreFilled es
      pub total : count ≡ total (seen es)
