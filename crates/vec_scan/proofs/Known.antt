-- Written rows are read again at the places that are known of them.
use Rattle.std.proofs.Common.{◌≡◌, ℕ, zero, suc, ◌+◌, ◌%◌, List, [], ◌∷◌, length, sum_by, refl, ap, subst, sym, ◌∙◌, arith}
use Rattle.std.specs.List.{AllByRecursion}
use Rattle.std.specs.List.Sorted.{IsStrictlyIncreasing}
use Rattle.std.proofs.lemmas.List.{append-nil}
use Rattle.std.proofs.lemmas.List.Sums.{sum_by-cons}
use Rattle.adb_model.specs.Account as machine
use Rattle.adb_model.specs.State.{Row}
use Rattle.vec_scan.specs.Image.{Placed, IsImage, placed_at}
use Rattle.vec_scan.specs.Forward.{rows_of}
use Rattle.vec_scan.specs.Seal.{offsets_of}
use Rattle.vec_scan.specs.Written.{IsWritten, written_rows}
use Rattle.vec_scan.proofs.Forwards.{image_from}
use Rattle.vec_scan.proofs.Padding.{RecordsStand, rows_read}
use Rattle.vec_scan.proofs.Writing.{Laws, written_is_image, written_len}

-- the places of written rows rise
rise_from : (start : ℕ) (rows : List Row) → IsStrictlyIncreasing (offsets_of (written_rows start rows))
rise_from start [] k lt = absurd (omega arith)
rise_from start (row ∷ []) k lt = absurd (omega arith)
rise_from start (row ∷ next ∷ rows) zero lt = omega arith
rise_from start (row ∷ next ∷ rows) (suc k) lt =
    let rest = rise_from (start + machine.size row.account) (next ∷ rows) k (omega arith) in
    let place : suc k + 1 ≡ suc (k + 1) = omega arith in
    rw place rest

-- sizes of records are multiples of eight
sizes_aligned : (rows : List Row) → sum_by (λ (row : Row). machine.size row.account) rows % 8 ≡ 0
sizes_aligned [] = refl
sizes_aligned (row ∷ rows) = let rest = sizes_aligned rows in omega (arith, sum_by-cons (λ (r : Row). machine.size r.account) row rows)

-- rows that are read at their places are those of these places
read_again : (bytes : List ℕ) (rows : List Placed) → AllByRecursion (λ row. placed_at bytes row.offset ≡ row) rows → rows_of bytes (offsets_of rows) ≡ rows
read_again bytes [] all = refl
read_again bytes (row ∷ rows) all = (λ i. all.0 i ∷ read_again bytes rows all.1 i)

-- what is known of a written image
pub record IsKnown (rows : List Row) (bytes offsets : List ℕ) : Type 0 where
  pub rows_are : rows_of bytes offsets ≡ written_rows 0 rows
  pub image : IsImage bytes (rows_of bytes offsets)
  pub rise : IsStrictlyIncreasing offsets
  pub aligned : length bytes % 8 ≡ 0

pub known : Laws → RecordsStand → (rows : List Row) (bytes offsets : List ℕ) → IsWritten rows bytes offsets → IsKnown rows bytes offsets
known laws stand rows bytes offsets w =
    let image : IsImage bytes (written_rows 0 rows) = subst (λ (xs : List ℕ). IsImage xs (written_rows 0 rows)) (sym w.bytes_are) (written_is_image laws rows w.writable) in
    let read = rows_read stand [] bytes [] (written_rows 0 rows) (image_from bytes (written_rows 0 rows) image) in
    let read' = subst (λ (xs : List ℕ). AllByRecursion (λ (row : Placed). placed_at xs row.offset ≡ row) (written_rows 0 rows)) (append-nil bytes) read in
    let rows_are : rows_of bytes offsets ≡ written_rows 0 rows = ap (λ (os : List ℕ). rows_of bytes os) w.offsets_are ∙ read_again bytes (written_rows 0 rows) read' in
    record {
      rows_are = rows_are;
      image = subst (λ (rs : List Placed). IsImage bytes rs) (sym rows_are) image;
      rise = subst (λ (os : List ℕ). IsStrictlyIncreasing os) (sym w.offsets_are) (rise_from 0 rows);
      aligned = ap (λ (xs : List ℕ). length xs % 8) w.bytes_are ∙ ap (λ (n : ℕ). n % 8) (written_len laws rows w.writable) ∙ sizes_aligned rows;
    }
