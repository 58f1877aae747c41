-- The offsets of rows, and the rows whose records stand at them.
use Rattle.std.proofs.Common.{◌≡◌, ℕ, zero, suc, ◌<◌, List, [], ◌∷◌, length, get_or, cond, Some, All, AllPairs, refl, ap, ◌∙◌, arith}
use Rattle.std.specs.Prelude.{slice_get, is_some, IsSome}
use Rattle.std.specs.List.Sorted.{IsStrictlyIncreasing}
use Rattle.std.proofs.lemmas.Bool.{eq-eqb, ne_eqb}
use Rattle.std.proofs.lemmas.List.{length-map}
use Rattle.std.proofs.lemmas.List.Kept.{AllPairs-from_increasing}
use Rattle.vec_scan.specs.Image.{Placed}
use Rattle.vec_scan.specs.Forward.{rows_of}
use Rattle.vec_scan.specs.Seal.{offsets_of, row_at}

-- the rows at some places have these as their offsets
pub offsets_are : (bytes offsets : List ℕ) → offsets_of (rows_of bytes offsets) ≡ offsets
offsets_are bytes [] = refl
offsets_are bytes (o ∷ os) = ap (λ (rest : List ℕ). o ∷ rest) (offsets_are bytes os)

as_many : (rows : List Placed) → length (offsets_of rows) ≡ length rows
as_many rows = length-map rows (λ (row : Placed). row.offset)

some_at : (rows : List Placed) (i : ℕ) → i < length rows → IsSome (slice_get rows i)
some_at [] i lt = absurd (omega (arith, lt))
some_at (row ∷ rows) zero lt = refl
some_at (row ∷ rows) (suc i) lt = some_at rows i (omega (arith, lt))

found : (rows : List Placed) (i d : ℕ) → AllPairs (λ a b. a < b) (offsets_of rows) → i < length rows → row_at rows (get_or (offsets_of rows) i d) ≡ slice_get rows i
found [] i d up lt = absurd (omega (arith, lt))
found (row ∷ rows) zero d up lt = ap (λ b. cond b (Some row) (row_at rows row.offset)) (eq-eqb row.offset row.offset refl)
found (row ∷ rows) (suc i) d up lt =
    let below = up 0 (suc i) d (omega arith) (omega (arith, lt, as_many rows)) in
    ap (λ b. cond b (Some row) (row_at rows (get_or (offsets_of rows) i d))) (ne_eqb row.offset (get_or (offsets_of rows) i d) (λ e. omega (arith, e, below)))
    ∙ found rows i d (λ j k e lo hi. up (suc j) (suc k) e (omega (arith, lo)) (omega (arith, hi))) (omega (arith, lt))

-- where offsets rise, the record at the i-th is that of the i-th row
pub row_found : (rows : List Placed) (i d : ℕ) → IsStrictlyIncreasing (offsets_of rows) → i < length (offsets_of rows) → row_at rows (get_or (offsets_of rows) i d) ≡ slice_get rows i
row_found rows i d rise lt = found rows i d (AllPairs-from_increasing (offsets_of rows) rise) (omega (arith, lt, as_many rows))

pub each_found : (rows : List Placed) → IsStrictlyIncreasing (offsets_of rows) → All (λ offset. IsSome (row_at rows offset)) (offsets_of rows)
each_found rows rise i d lt = ap is_some (row_found rows i d rise lt) ∙ some_at rows i (omega (arith, lt, as_many rows))
