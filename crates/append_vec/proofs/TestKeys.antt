-- Keys whose first bytes count up differ.
use Rattle.std.proofs.Common.{◌≡◌, ℕ, ◌<◌, List, length, get_or, ap, arith}
use Rattle.adb_model.specs.State.{Row}
use Rattle.append_vec.specs.Filled.{KeysDiffer}

-- the first byte of each key is the number of its row
abbrev pub CountUp : List Row → Type 0
CountUp rows = (k : ℕ) (d : Row) → k < length rows → get_or (get_or rows k d).key 0 0 ≡ k

pub differ : (rows : List Row) → CountUp rows → KeysDiffer rows
differ rows up i j d lt inside same =
    let first = up i d (omega arith) in
    let second = up j d inside in
    let equal = ap (λ (key : List ℕ). get_or key 0 0) same in
    omega arith
