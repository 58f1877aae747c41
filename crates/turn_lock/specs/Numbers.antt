-- The numbers of passes, in ranges. A range is its first number, and how many numbers it has.
use Rattle.std.specs.Prelude.{ℕ, ◌+◌, ◌≤◌, Bool, ◌&&◌, List, nat_le, nat_lt, filter, IsTrue}
use Rattle.std.specs.List.{list_any}

-- whether a range has the number
abbrev pub is_within : ℕ → ℕ × ℕ → Bool
is_within x range = nat_le range.0 x && nat_lt x (range.0 + range.1)

-- whether one of the ranges has the number
abbrev pub is_among : ℕ → List (ℕ × ℕ) → Bool
is_among x ranges = list_any (is_within x) ranges

-- the ranges have every number of a pass
abbrev pub HaveAll : List (ℕ × ℕ) → Type 0
HaveAll ranges = (x : ℕ) → 1 ≤ x → x ≤ 65536 → IsTrue (is_among x ranges)

-- the entries that bear one of these numbers
abbrev pub borne_by : {E : Type 0} → (E → ℕ) → List (ℕ × ℕ) → List E → List E
borne_by bears ranges entries = filter (λ e. is_among (bears e) ranges) entries
