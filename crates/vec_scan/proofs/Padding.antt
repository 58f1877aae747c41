-- Zeros behind an image leave its rows.
use Rattle.std.proofs.Common.{◌≡◌, ℕ, ◌+◌, ◌-◌, ◌%◌, ◌≤◌, List, [], ◌∷◌, ◌++◌, length, take, reverse, refl, sym, ap, subst, ◌∙◌, inl, inr, arith, append_assoc, length-append}
use Rattle.std.specs.Prelude.{replicate}
use Rattle.std.specs.List.{AllByRecursion}
use Rattle.std.proofs.lemmas.List.{append-nil, nil_from_length, length-take, length-replicate, take-replicate}
use Rattle.le_fields.specs.Fields.{rounded}
use Rattle.adb_model.specs.Account as machine
use Rattle.account_layout.specs.Record.{HasFields, account_in}
use Rattle.account_layout.specs.Reading.{Entry, entry_at}
use Rattle.vec_scan.specs.Image.{Placed, EndsWith, AreRows, EndInRows, IsImage, placed_at}
use Rattle.vec_scan.specs.Forward.{next_start, rows_of, IsScanned}
use Rattle.vec_scan.specs.Seal.{padded}
use Rattle.vec_scan.proofs.Forwards.{ImageFrom, image_from}
use Rattle.vec_scan.proofs.Rounding.{rounded_from, rounded-mod, rounded_at, le-rounded}

-- the law that a record is read wherever it stands
abbrev pub RecordsStand : Type 0
RecordsStand = (front part rest key : List ℕ) (fields : machine.Account) → HasFields part key fields → entry_at (front ++ (part ++ rest)) (length front) ≡ record { key = key; fields = fields; end = length front + length part }

end_len : {Gap : List ℕ → List ℕ → Type 0} (front bytes : List ℕ) (last : Placed) (e : EndsWith Gap front bytes last) → length bytes ≡ length front + (length e.part + length e.gap)
end_len front bytes last e = ap length e.parts ∙ length-append front (e.part ++ e.gap) ∙ ap (λ (n : ℕ). length front + n) (length-append e.part e.gap)

pub rows_aligned : (bytes : List ℕ) (back : List Placed) → AreRows bytes back → length bytes % 8 ≡ 0
rows_aligned bytes [] none = ap (λ (xs : List ℕ). length xs % 8) none
rows_aligned bytes (last ∷ before) is =
    let front = rows_aligned is.0 before is.1 in
    let len = end_len is.0 bytes last is.2 in
    let fills = is.2.is_gap in
    let eights = rounded-mod (length is.2.part) in
    omega arith

-- an image goes on with zeros up to a multiple of eight
pub padded_rows : (image zeros : List ℕ) (back : List Placed) → length image + length zeros ≡ rounded (length image) → EndInRows image back → EndInRows (image ++ zeros) back
padded_rows image zeros [] fill none =
    let len : length image ≡ 0 = ap length none in
    (λ i. none i ++ nil_from_length zeros (omega arith) i)
padded_rows image zeros (last ∷ before) fill is =
    let e = is.2 in
    let front = rows_aligned is.0 before is.1 in
    let len = end_len is.0 image last e in
    elim e.is_gap [
      | inl fills ↦
          let eights = rounded-mod (length e.part) in
          let none : zeros ≡ [] = nil_from_length zeros (let whole = rounded_at (length image) (omega arith) in omega arith) in
          subst (λ (xs : List ℕ). EndInRows xs (last ∷ before)) (sym (append-nil image) ∙ ap (λ (xs : List ℕ). image ++ xs) (sym none)) is
      | inr ends ↦
          let no_gap : length e.gap ≡ 0 = ap length ends in
          let from = rounded_from (length is.0) (length e.part) front in
          let whole : length image ≡ length is.0 + length e.part = omega arith in
          let whole' = ap rounded whole in (
            is.0,
            is.1,
            record {
              part = e.part;
              gap = zeros;
              parts = ap (λ (xs : List ℕ). xs ++ zeros) (e.parts ∙ ap (λ (xs : List ℕ). is.0 ++ xs) (ap (λ (xs : List ℕ). e.part ++ xs) ends ∙ append-nil e.part)) ∙ append_assoc is.0 e.part zeros;
              offset = e.offset;
              is_record = e.is_record;
              is_gap = inl (omega arith);
            },
          )
    ]

-- each row is read, whatever stands before the first and after the last
pub rows_read : RecordsStand → (front bytes behind : List ℕ) (rows : List Placed) → ImageFrom (length front) bytes rows → AllByRecursion (λ row. placed_at (front ++ (bytes ++ behind)) row.offset ≡ row) rows
rows_read law front bytes behind [] from = tt
rows_read law front bytes behind (row ∷ rows) from =
    let b = from.0 in
    let fields = b.is_record.0 in
    let all : front ++ (bytes ++ behind) ≡ front ++ (b.part ++ ((b.gap ++ b.more) ++ behind)) =
    ap (λ (xs : List ℕ). front ++ xs) (ap (λ (xs : List ℕ). xs ++ behind) b.parts ∙ append_assoc b.part (b.gap ++ b.more) behind) in
    let entry : entry_at (front ++ (bytes ++ behind)) row.offset ≡ record { key = row.row.key; fields = fields; end = length front + length b.part } =
    (λ i. entry_at (all i) (b.offset i)) ∙ law front b.part ((b.gap ++ b.more) ++ behind) row.row.key fields b.is_record.1 in
    let front' = front ++ (b.part ++ b.gap) in
    let place : length front' ≡ next_start b = length-append front (b.part ++ b.gap) ∙ ap (λ (n : ℕ). length front + n) (length-append b.part b.gap) ∙ omega arith in
    let rest = rows_read law front' b.more behind rows (subst (λ (n : ℕ). ImageFrom n b.more rows) (sym place) from.2) in
    let same : front' ++ (b.more ++ behind) ≡ front ++ (bytes ++ behind) =
    append_assoc front (b.part ++ b.gap) (b.more ++ behind)
    ∙ ap (λ (xs : List ℕ). front ++ xs) (append_assoc b.part b.gap (b.more ++ behind) ∙ ap (λ (xs : List ℕ). b.part ++ xs) (sym (append_assoc b.gap b.more behind)))
    ∙ sym all in (
      (λ i. record { offset = row.offset; row = record { key = (entry i).key; account = (ap (λ (e : Entry). account_in e.fields) entry ∙ sym b.is_record.2) i } }),
      subst (λ (xs : List ℕ). AllByRecursion (λ (r : Placed). placed_at xs r.offset ≡ r) rows) same rest,
    )

all_same : (image whole offsets : List ℕ) → AllByRecursion (λ row. placed_at whole row.offset ≡ row) (rows_of image offsets) → rows_of whole offsets ≡ rows_of image offsets
all_same image whole [] all = refl
all_same image whole (o ∷ os) all = (λ i. all.0 i ∷ all_same image whole os all.1 i)

-- the rows are read with zeros behind them as they were
pub rows_stay : RecordsStand → (image zeros offsets : List ℕ) → IsImage image (rows_of image offsets) → rows_of (image ++ zeros) offsets ≡ rows_of image offsets
rows_stay law image zeros offsets is = all_same image (image ++ zeros) offsets (rows_read law [] image zeros (rows_of image offsets) (image_from image (rows_of image offsets) is))

-- a gap of zeros
pub gap_zeros : (n gap : ℕ) → n + gap ≡ rounded n → take {A = ℕ} gap (replicate 8 0) ≡ replicate (rounded n - n) 0
gap_zeros n gap is =
    let here : gap ≡ rounded n - n = omega arith in
    take-replicate gap 8 0 (omega arith) ∙ ap (λ (k : ℕ). replicate k 0) here

fill : (file : List ℕ) (len : ℕ) → len ≤ length file → length (take len file) + length (replicate {A = ℕ} (rounded len - len) 0) ≡ rounded (length (take len file))
fill file len le =
    let image_len : length (take len file) ≡ len = omega (arith, length-take len file) in
    let up = le-rounded len in
    let widths = ap rounded image_len in
    omega (arith, length-replicate {A = ℕ} (rounded len - len) 0)

-- padded bytes have the rows that were scanned
pub padded_same : RecordsStand → (file offsets : List ℕ) (len : ℕ) → IsScanned (take len file) offsets → rows_of (padded file len) offsets ≡ rows_of (take len file) offsets
padded_same law file offsets len is = rows_stay law (take len file) (replicate (rounded len - len) 0) offsets is.are_rows

pub padded_image : RecordsStand → (file offsets : List ℕ) (len : ℕ) → len ≤ length file → IsScanned (take len file) offsets → IsImage (padded file len) (rows_of (padded file len) offsets)
padded_image law file offsets len le is =
    subst (λ (rows : List Placed). IsImage (padded file len) rows) (sym (padded_same law file offsets len is))
    (padded_rows (take len file) (replicate (rounded len - len) 0) (reverse (rows_of (take len file) offsets)) (fill file len le) is.are_rows)

pub padded_aligned : (file : List ℕ) (len : ℕ) → len ≤ length file → length (padded file len) % 8 ≡ 0
padded_aligned file len le =
    let whole = fill file len le in
    let eights = rounded-mod (length (take len file)) in
    omega (arith, length-append (take len file) (replicate (rounded len - len) 0))
