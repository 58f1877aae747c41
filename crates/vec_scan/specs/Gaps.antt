-- The gap behind a record.
use Rattle.std.specs.Prelude.{◌≡◌, ℕ, ◌≤◌, ◌⊎◌}
use Rattle.le_fields.specs.Fields.{rounded}

-- a gap of an image of a length goes from a record's end up to a multiple of eight, or the image ends with the record
pub record IsGapEnd (end len next : ℕ) : Type 0 where
  pub inside : next ≤ len
  pub later : end ≤ next
  pub is : (next ≡ rounded end) ⊎ ((next ≡ end) × (end ≡ len))
