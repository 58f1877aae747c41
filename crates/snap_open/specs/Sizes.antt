-- How many bytes the storages of a snapshot take.
use Rattle.std.specs.Prelude.{ℕ, ◌-◌, ◌^◌, ◌≤◌, min, nat_lt, List, filter, length, map, sum_by}
use Rattle.le_fields.specs.Fields.{rounded}
use Rattle.field_codec.specs.Forms.{NamedFile}

-- the bytes of an image of this length, rounded up; a length above the greatest multiple of eight counts as that number
abbrev pub size_of : ℕ → ℕ
size_of len = rounded (min len (2 ^ 64 - 8))

-- the storages' files of which some bytes are an image
abbrev pub with_bytes : List NamedFile → List NamedFile
with_bytes files = filter (λ file. nat_lt 0 file.len) files

-- how many bytes the storages take
abbrev pub sizes_in : List NamedFile → List ℕ
sizes_in files = map (λ file. size_of file.len) (with_bytes files)

-- storages of these sizes have room in the budget, and a cell each
pub record HasRoom (budget : ℕ) (sizes : List ℕ) : Type 0 where
  pub fits : sum_by (λ size. size) sizes ≤ budget
  pub cells : length sizes ≤ 1048576
