-- Which bytes are an image of a storage, by concatenation of its rows.
use Rattle.std.specs.Prelude.{◌≡◌, ℕ, ◌+◌, ◌≤◌, ◌⊎◌, List, [], ◌∷◌, ◌++◌, length, take, reverse}
use Rattle.le_fields.specs.Fields.{rounded}
use Rattle.adb_model.specs.State.{Row}
use Rattle.account_layout.specs.Record.{IsRecord, account_in}
use Rattle.account_layout.specs.Reading.{entry_at}

-- a row, and the place where its record starts
pub record Placed : Type 0 where
  pub offset : ℕ
  pub row : Row

-- the gap behind a record goes up to a multiple of eight
abbrev pub Fills : List ℕ → List ℕ → Type 0
Fills part gap = length part + length gap ≡ rounded (length part)

-- the same, or nothing stands behind the record
abbrev pub FillsOrEnds : List ℕ → List ℕ → Type 0
FillsOrEnds part gap = Fills part gap ⊎ (gap ≡ [])

-- the bytes are a front, the record of the last row right behind it, and a gap of free bytes
pub record EndsWith (Gap : List ℕ → List ℕ → Type 0) (front bytes : List ℕ) (last : Placed) : Type 0 where
  pub part : List ℕ
  pub gap : List ℕ
  pub parts : bytes ≡ front ++ (part ++ gap)
  pub offset : last.offset ≡ length front
  pub is_record : IsRecord part last.row.key last.row.account
  pub is_gap : Gap part gap

-- the bytes are these rows, the last row first, each with its gap
abbrev pub AreRows : List ℕ → List Placed → Type 0
AreRows bytes [] = bytes ≡ []
AreRows bytes (last ∷ before) = (front : List ℕ) × AreRows front before × EndsWith Fills front bytes last

-- the same, but that the last row may end with its record
abbrev pub EndInRows : List ℕ → List Placed → Type 0
EndInRows bytes [] = bytes ≡ []
EndInRows bytes (last ∷ before) = (front : List ℕ) × AreRows front before × EndsWith FillsOrEnds front bytes last

-- the bytes are an image with these rows, in the order in which they stand
abbrev pub IsImage : List ℕ → List Placed → Type 0
IsImage bytes rows = EndInRows bytes (reverse rows)

-- the first bytes of a file are an image with these rows
abbrev pub HasImage : List ℕ → ℕ → List Placed → Type 0
HasImage file len rows = (len ≤ length file) × IsImage (take len file) rows

-- the row whose record starts at a place
abbrev pub placed_at : List ℕ → ℕ → Placed
placed_at bytes at =
    let entry = entry_at bytes at in
    record { offset = at; row = record { key = entry.key; account = account_in entry.fields } }

-- what contracts see of a sealed image
pub record Image : Type 0 where
  pub slot : ℕ
  pub id : ℕ
  pub bytes : List ℕ
  pub rows : List Placed
