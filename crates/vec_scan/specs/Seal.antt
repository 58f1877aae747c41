-- A sealed image, as contracts see it.
use Rattle.std.specs.Prelude.{◌≡◌, ℕ, ◌-◌, ◌==◌, List, ◌++◌, take, replicate, find, map, Option, option_map}
use Rattle.le_fields.specs.Fields.{rounded}
use Rattle.adb_model.specs.State.{Row}
use Rattle.account_layout.specs.declared.record.Record.{Record}
use Rattle.account_layout.specs.Record.{account_in}
use Rattle.account_layout.specs.Reading.{fields_of}
use Rattle.vec_scan.specs.Image.{Image, Placed, HasImage}

-- the first bytes of a file, with zeros up to a multiple of eight
abbrev pub padded : List ℕ → ℕ → List ℕ
padded file len = take len file ++ replicate (rounded len - len) 0

-- the image that the first bytes of a file are, padded, with its slot and its id
pub record Seals (slot id : ℕ) (file : List ℕ) (len : ℕ) (image : Image) : Type 0 where
  pub slot_is : image.slot ≡ slot
  pub id_is : image.id ≡ id
  pub bytes : image.bytes ≡ padded file len
  pub rows : HasImage file len image.rows

-- the row whose record starts at a place
abbrev pub row_at : List Placed → ℕ → Option Placed
row_at rows offset = find (λ row. row.offset == offset) rows

-- the row that stands at a place, without the place
abbrev pub row_there : List Placed → ℕ → Option Row
row_there rows offset = option_map (λ placed. placed.row) (row_at rows offset)

-- the rows of an image, without their places
abbrev pub rows_in : Image → List Row
rows_in image = map (λ placed. placed.row) image.rows

-- the places at which rows start, in their order
abbrev pub offsets_of : List Placed → List ℕ
offsets_of rows = map (λ row. row.offset) rows

-- the row of a record that was read at a place
abbrev pub placed : ℕ → Record → Placed
placed offset read = record { offset = offset; row = record { key = read.key.0; account = account_in (fields_of read) } }
