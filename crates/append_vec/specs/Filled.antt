-- What a filled image has: each account once, at its place.
use Rattle.std.specs.Prelude.{◌≡◌, ◌≢◌, ℕ, List, map, Some, sum_by, AllPairs}
use Rattle.std.specs.Global.{Global}
use Rattle.std.specs.List.Sorted.{IsPermutation}
use Rattle.std.specs.declared.sync.Arc.{Arc}
use Rattle.adb_model.specs.Account as machine
use Rattle.adb_model.specs.State.{Row}
use Rattle.adb_model.specs.declared.key.Key.{Key}
use Rattle.vec_scan.specs.Image.{Image}
use Rattle.vec_scan.specs.Seal.{offsets_of, rows_in, row_there}
use Rattle.vec_scan.specs.Written.{written_image, written_rows}

-- a key and its account, as a row
abbrev pub row_of : Key × Arc machine.Account Global → Row
row_of a = record { key = a.0.0; account = a.1.value }

abbrev pub rows_of : List (Key × Arc machine.Account Global) → List Row
rows_of accounts = map row_of accounts

-- no two rows have one key
abbrev pub KeysDiffer : List Row → Type 0
KeysDiffer rows = AllPairs (λ a b. a.key ≢ b.key) rows

-- the bytes that the records of rows take
abbrev pub total_size : List Row → ℕ
total_size rows = sum_by (λ row. machine.size row.account) rows

-- the image is written of these rows in some order, each once, and each place is that of its row
pub record Fills (slot id : ℕ) (rows : List Row) (image : Image) (places : List ℕ) : Type 0 where
  pub slot_is : image.slot ≡ slot
  pub id_is : image.id ≡ id
  pub each_once : IsPermutation rows (rows_in image)
  pub bytes_are : image.bytes ≡ written_image (rows_in image)
  pub rows_are : image.rows ≡ written_rows 0 (rows_in image)
  pub at_places : map (row_there image.rows) places ≡ map Some rows

-- the rows stand in the image in their own order, and so do their places
pub record InOrder (rows : List Row) (image : Image) (places : List ℕ) : Type 0 where
  pub rows_are : rows_in image ≡ rows
  pub places_are : places ≡ offsets_of image.rows
