-- The written form of an image.
use Rattle.std.specs.Prelude.{◌≡◌, ℕ, ◌+◌, List, [], ◌∷◌}
use Rattle.std.specs.List.{AllByRecursion, flat_map}
use Rattle.adb_model.specs.Account.{size}
use Rattle.adb_model.specs.State.{Row}
use Rattle.account_layout.specs.Written.{IsWritable, written_record}
use Rattle.vec_scan.specs.Image.{Placed}
use Rattle.vec_scan.specs.Seal.{offsets_of}

-- a row with a key and an account as the program has them
abbrev pub IsWritableRow : Row → Type 0
IsWritableRow row = IsWritable row.key row.account

-- the written records of rows, one after another
abbrev pub written_image : List Row → List ℕ
written_image rows = flat_map (λ row. written_record row.key row.account) rows

-- the rows with the places at which their written records start, the first one here
abbrev pub written_rows : ℕ → List Row → List Placed
written_rows start [] = []
written_rows start (row ∷ rows) = record { offset = start; row = row } ∷ written_rows (start + size row.account) rows

-- the bytes are the written image of these rows, whose records start at these places
pub record IsWritten (rows : List Row) (bytes offsets : List ℕ) : Type 0 where
  pub writable : AllByRecursion IsWritableRow rows
  pub bytes_are : bytes ≡ written_image rows
  pub offsets_are : offsets ≡ offsets_of (written_rows 0 rows)
