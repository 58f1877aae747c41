-- The rows of an image, written anew.
use Rattle.std.proofs.Common.{◌≡◌, ℕ, ◌+◌, ◌*◌, ◌/◌, ◌%◌, List, [], ◌∷◌, ◌++◌, append_assoc, append-nil, length, map, take, Some, option_map, refl, sym, ap, ◌∙◌, All, arith}
use Rattle.std.specs.List.{AllByRecursion, slice_get}
use Rattle.std.proofs.lemmas.List.Sums.{sum_by-cons}
use Rattle.std.proofs.lemmas.List.{take_more}
use Rattle.std.proofs.lemmas.Option.{get_or_from_slice_get, slice_get-map, slice_get_within}
use Rattle.std.proofs.lemmas.List.Elements.{All-cons, All-nil}
use Rattle.account_layout.specs.Written.{written_record}
use Rattle.adb_model.specs.Account.{size}
use Rattle.adb_model.specs.State.{Row}
use Rattle.adb_model.specs.Storages.{bytes_of}
use Rattle.le_fields.specs.Fields.{rounded}
use Rattle.field_codec.specs.declared.fields.FieldStorage.{FieldStorage}
use Rattle.vec_scan.specs.Image.{Image, Placed}
use Rattle.vec_scan.specs.Written.{IsWritableRow, written_image, written_rows}
use Rattle.snap_write.specs.Written.{storage_of}

-- the rows of records with places
abbrev pub rows_of : List Placed → List Row
rows_of placed = map (λ p. p.row) placed

pub written-append : (xs : List Row) (row : Row) → written_image (xs ++ row ∷ []) ≡ written_image xs ++ written_record row.key row.account
written-append [] row = append-nil (written_record row.key row.account)
written-append (x ∷ xs) row = ap (λ (l : List ℕ). written_record x.key x.account ++ l) (written-append xs row) ∙ sym (append_assoc (written_record x.key x.account) (written_image xs) (written_record row.key row.account))

pub writable-append : (xs : List Row) (row : Row) → AllByRecursion IsWritableRow xs → IsWritableRow row → AllByRecursion IsWritableRow (xs ++ row ∷ [])
writable-append [] row all one = (one, tt)
writable-append (x ∷ xs) row all one = (all.0, writable-append xs row all.1 one)

-- one row more
module _ (rows : List Placed) (n : ℕ) (p : Placed) (is : slice_get rows n ≡ Some p) where
  rows_more : take (n + 1) (rows_of rows) ≡ take n (rows_of rows) ++ p.row ∷ []
  rows_more =
      let there : slice_get (rows_of rows) n ≡ Some p.row = slice_get-map (λ (q : Placed). q.row) rows n ∙ ap (option_map (λ (q : Placed). q.row)) is in
      take_more (rows_of rows) n p.row (slice_get_within (rows_of rows) n p.row there)
      ∙ ap (λ (row : Row). take n (rows_of rows) ++ row ∷ []) (get_or_from_slice_get (rows_of rows) n p.row p.row there)

  pub bytes_more : (bytes new : List ℕ) → bytes ≡ written_image (take n (rows_of rows)) → new ≡ bytes ++ written_record p.row.key p.row.account → new ≡ written_image (take (n + 1) (rows_of rows))
  bytes_more bytes new before added =
      added ∙ ap (λ (l : List ℕ). l ++ written_record p.row.key p.row.account) before ∙ sym (ap written_image rows_more ∙ written-append (take n (rows_of rows)) p.row)

  pub writable_more : AllByRecursion IsWritableRow (take n (rows_of rows)) → IsWritableRow p.row → AllByRecursion IsWritableRow (take (n + 1) (rows_of rows))
  writable_more all one = rw rows_more (writable-append (take n (rows_of rows)) p.row all one)

-- the rows of what was written are those that were
pub rows_back : (start : ℕ) (rows : List Row) → rows_of (written_rows start rows) ≡ rows
rows_back start [] = refl
rows_back start (row ∷ rows) = ap (λ (l : List Row). row ∷ l) (rows_back (start + size row.account) rows)

-- ---- their bytes are multiples of eight

eight : (n : ℕ) → n / 8 * 8 % 8 ≡ 0
eight n = omega arith

pub eights : (rows : List Row) → bytes_of rows % 8 ≡ 0
eights [] = refl
eights (row ∷ rows) =
    let rest = eights rows in
    let sum = sum_by-cons (λ (r : Row). size r.account) row rows in
    let first : size row.account % 8 ≡ 0 = eight (136 + length row.account.bytes + 7) in
    omega arith

pub rounds : (n : ℕ) → n % 8 ≡ 0 → rounded n ≡ n
rounds n even = omega arith

pub all_eights : (images : List Image) → All (λ s. s.len % 8 ≡ 0) (map storage_of images)
all_eights [] = All-nil (λ (s : FieldStorage). s.len % 8 ≡ 0)
all_eights (image ∷ images) = All-cons (λ (s : FieldStorage). s.len % 8 ≡ 0) (storage_of image) (map storage_of images) (eights (rows_of image.rows)) (all_eights images)
