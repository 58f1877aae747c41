-- What a scan tells of the row at a place, and of the whole image.
use Rattle.std.specs.Prelude.{◌≡◌, ℕ, ◌+◌, ◌<◌, ◌≤◌, ◌⊎◌, List, [], ◌++◌, length, drop, map, Some, None, Result, Ok, Err, Vec}
use Rattle.std.specs.Global.{Global}
use Rattle.std.specs.List.Sorted.{IsStrictlyIncreasing}
use Rattle.account_layout.specs.Record.{IsRecord}
use Rattle.vec_scan.specs.declared.fault.LayoutFault.{LayoutFault}
use Rattle.vec_scan.specs.declared.fault.LayoutFault.TheVariants.{NoMemory}
use Rattle.vec_scan.specs.Image.{Placed, Fills, IsImage, placed_at}
use Rattle.vec_scan.specs.Fault.{FailsWith, fault_at}

-- the bytes, which stand from a place on, begin with a row's record, a gap behind it, and more
pub record BeginsWith (start : ℕ) (bytes : List ℕ) (first : Placed) : Type 0 where
  pub part : List ℕ
  pub gap : List ℕ
  pub more : List ℕ
  pub parts : bytes ≡ part ++ (gap ++ more)
  pub offset : first.offset ≡ start
  pub is_record : IsRecord part first.row.key first.row.account

-- where the row after it would start
abbrev pub next_start : {start : ℕ} {bytes : List ℕ} {first : Placed} → BeginsWith start bytes first → ℕ
next_start {start = start} b = start + length b.part + length b.gap

-- the row has its whole gap, or ends the bytes
abbrev pub IsRow : {start : ℕ} {bytes : List ℕ} {first : Placed} → BeginsWith start bytes first → Type 0
IsRow b = Fills b.part b.gap ⊎ ((b.gap ≡ []) × (b.more ≡ []))

-- a row that starts at a place is this one, and the next one starts there
pub record Passes (image : List ℕ) (at next : ℕ) : Type 0 where
  pub first : BeginsWith at (drop at image) (placed_at image at)
  pub is_row : IsRow first
  pub next_is : next ≡ next_start first
  pub inside : next ≤ length image
  pub later : at < next
  pub sound : fault_at image at ≡ None

-- what reading the row at a place gives: where the next one starts, and then no other row can stand there, or its fault, and then none can
abbrev pub Steps : List ℕ → ℕ → Result ℕ LayoutFault → Type 0
Steps image at (Ok next) = Passes image at next × ((row : Placed) (b : BeginsWith at (drop at image) row) → IsRow b → (row ≡ placed_at image at) × (next ≡ next_start b))
Steps image at (Err fault) = (fault_at image at ≡ Some fault) × ((row : Placed) (b : BeginsWith at (drop at image) row) → IsRow b → ⊥)

-- the rows whose records start at these places
abbrev pub rows_of : List ℕ → List ℕ → List Placed
rows_of bytes offsets = map (placed_at bytes) offsets

-- the rows at these places are the image, as no others are, and it has no fault
pub record IsScanned (image offsets : List ℕ) : Type 0 where
  pub are_rows : IsImage image (rows_of image offsets)
  pub rise : IsStrictlyIncreasing offsets
  pub only : (rows : List Placed) → IsImage image rows → rows ≡ rows_of image offsets
  pub sound : (fault : LayoutFault) → FailsWith image fault → ⊥

-- the image has this fault, as no other, and no rows
pub record IsRefused (image : List ℕ) (fault : LayoutFault) : Type 0 where
  pub fails : FailsWith image fault
  pub none : (rows : List Placed) → IsImage image rows → ⊥
  pub only : (other : LayoutFault) → FailsWith image other → other ≡ fault

-- what a scan of an image gives
abbrev pub Scans : List ℕ → Result (Vec ℕ Global) LayoutFault → Type 0
Scans image (Ok offsets) = IsScanned image offsets.items
Scans image (Err NoMemory) = Unit {0}
Scans image (Err fault) = IsRefused image fault
