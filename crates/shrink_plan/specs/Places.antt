-- The rows that stand at some places of an image.
use Rattle.std.specs.Prelude.{◌≡◌, ℕ, List, map, Some}
use Rattle.std.specs.List.{filter_map}
use Rattle.adb_model.specs.State.{Row}
use Rattle.vec_scan.specs.Image.{Image}
use Rattle.vec_scan.specs.Seal.{row_there}

-- each place is that of its row in the image
abbrev pub StandAt : Image → List ℕ → List Row → Type 0
StandAt image places rows = map (row_there image.rows) places ≡ map Some rows

-- the rows at the places, in the order of the places
abbrev pub rows_at : Image → List ℕ → List Row
rows_at image places = filter_map (row_there image.rows) places

-- a row stands at each of the places
abbrev pub AreRows : Image → List ℕ → Type 0
AreRows image places = StandAt image places (rows_at image places)
