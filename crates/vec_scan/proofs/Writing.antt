-- Written rows are an image.
use Rattle.std.proofs.Common.{◌≡◌, ℕ, ◌+◌, ◌-◌, ◌*◌, ◌/◌, ◌≤◌, List, [], ◌∷◌, ◌++◌, length, reverse, sum_by, refl, sym, ap, subst, ◌∙◌, inl, arith, append_assoc, length-append}
use Rattle.std.specs.Prelude.{replicate}
use Rattle.std.specs.List.{AllByRecursion}
use mathlib.Core.List.{reverse-cons}
use Rattle.std.proofs.lemmas.List.{append-nil, length-replicate}
use Rattle.std.proofs.lemmas.List.Sums.{sum_by-cons}
use Rattle.le_fields.specs.Fields.{rounded}
use Rattle.adb_model.specs.Account as machine
use Rattle.adb_model.specs.State.{Row}
use Rattle.account_layout.specs.Record.{IsRecord, record_bytes}
use Rattle.account_layout.specs.Written.{IsWritable, written_record, zeroed}
use Rattle.vec_scan.specs.Image.{Placed, Fills, EndsWith, AreRows, EndInRows, IsImage}
use Rattle.vec_scan.specs.Written.{IsWritableRow, written_image, written_rows}

-- the laws of written records
pub record Laws : Type 0 where
  pub is_record : (key : List ℕ) (account : machine.Account) → IsWritable key account → IsRecord (record_bytes zeroed key account) key account
  pub len : (key : List ℕ) (account : machine.Account) → IsWritable key account → length (written_record key account) ≡ machine.size account
  pub one_form : (key key2 rest more : List ℕ) (account account2 : machine.Account) → IsWritable key account → IsWritable key2 account2 → written_record key account ++ rest ≡ written_record key2 account2 ++ more
      → (key ≡ key2) × (account ≡ account2) × (rest ≡ more)

rows_end : (bytes : List ℕ) (back : List Placed) → AreRows bytes back → EndInRows bytes back
rows_end bytes [] is = is
rows_end bytes (last ∷ before) is =
    let e = is.2 in
    (is.0, is.1, record { part = e.part; gap = e.gap; parts = e.parts; offset = e.offset; is_record = e.is_record; is_gap = inl e.is_gap })

sized : (part gap n : ℕ) → gap ≡ (136 + n + 7) / 8 * 8 - (136 + n) → part + gap ≡ (136 + n + 7) / 8 * 8 → part ≡ 136 + n
sized part gap n is whole = omega arith

filled : (part gap n : ℕ) → part + gap ≡ (136 + n + 7) / 8 * 8 → part ≡ 136 + n → part + gap ≡ rounded part
filled part gap n whole is = omega arith

grown : Laws → (rows : List Row) (front : List ℕ) (back : List Placed) → AllByRecursion IsWritableRow rows → AreRows front back → AreRows (front ++ written_image rows) (reverse (written_rows (length front) rows) ++ back)
grown laws [] front back all are = subst (λ (xs : List ℕ). AreRows xs back) (sym (append-nil front)) are
grown laws (row ∷ rows) front back all are =
    let account = row.account in
    let part = record_bytes zeroed row.key account in
    let zeros : List ℕ = replicate (machine.size account - (136 + length account.bytes)) 0 in
    let w = written_record row.key account in
    let one : Placed = record { offset = length front; row = row } in
    let is = laws.is_record row.key account all.0 in
    let w_len = laws.len row.key account all.0 in
    let place : length (front ++ w) ≡ length front + machine.size account = length-append front w ∙ ap (λ (n : ℕ). length front + n) w_len in
    let gap_len : length zeros ≡ machine.size account - (136 + length account.bytes) = length-replicate {A = ℕ} (machine.size account - (136 + length account.bytes)) 0 in
    let whole : length part + length zeros ≡ machine.size account = sym (length-append part zeros) ∙ w_len in
    let part_len : length part ≡ 136 + length account.bytes = sized (length part) (length zeros) (length account.bytes) gap_len whole in
    let fills : length part + length zeros ≡ rounded (length part) = filled (length part) (length zeros) (length account.bytes) whole part_len in
    let e : EndsWith Fills front (front ++ w) one = record { part = part; gap = zeros; parts = refl; offset = refl; is_record = is; is_gap = fills } in
    let next = grown laws rows (front ++ w) (one ∷ back) all.1 (front, are, e) in
    let rest = written_rows (length front + machine.size account) rows in
    let order : reverse (written_rows (length (front ++ w)) rows) ++ (one ∷ back) ≡ reverse (one ∷ rest) ++ back =
    ap (λ (n : ℕ). reverse (written_rows n rows) ++ (one ∷ back)) place
    ∙ sym (append_assoc (reverse rest) (one ∷ []) back) ∙ ap (λ (rs : List Placed). rs ++ back) (sym (reverse-cons one rest)) in
    subst (λ (rs : List Placed). AreRows (front ++ (w ++ written_image rows)) rs) order
    (subst (λ (xs : List ℕ). AreRows xs (reverse (written_rows (length (front ++ w)) rows) ++ (one ∷ back))) (append_assoc front w (written_image rows)) next)

pub written_is_image : Laws → (rows : List Row) → AllByRecursion IsWritableRow rows → IsImage (written_image rows) (written_rows 0 rows)
written_is_image laws rows all =
    let are = grown laws rows [] [] all refl in
    rows_end (written_image rows) (reverse (written_rows 0 rows)) (subst (λ (rs : List Placed). AreRows (written_image rows) rs) (append-nil (reverse (written_rows 0 rows))) are)

pub written_len : Laws → (rows : List Row) → AllByRecursion IsWritableRow rows → length (written_image rows) ≡ sum_by (λ (row : Row). machine.size row.account) rows
written_len laws [] all = refl
written_len laws (row ∷ rows) all =
    length-append (written_record row.key row.account) (written_image rows) ∙ (λ i. laws.len row.key row.account all.0 i + written_len laws rows all.1 i)
    ∙ sym (sum_by-cons (λ (r : Row). machine.size r.account) row rows)

some_written : {B : Type 0} → Laws → (row : Row) (rows : List Row) → IsWritableRow row → [] ≡ written_record row.key row.account ++ written_image rows → B
some_written laws row rows w is =
    let len = laws.len row.key row.account w in
    let none : 0 ≡ length (written_record row.key row.account ++ written_image rows) = ap length is in
    let size : 136 ≤ machine.size row.account = omega arith in
    absurd (omega (arith, length-append (written_record row.key row.account) (written_image rows)))

pub written_once : Laws → (rows others : List Row) → AllByRecursion IsWritableRow rows → AllByRecursion IsWritableRow others → written_image rows ≡ written_image others → rows ≡ others
written_once laws [] [] all all' is = refl
written_once laws [] (row ∷ others) all all' is = some_written laws row others all'.0 is
written_once laws (row ∷ rows) [] all all' is = some_written laws row rows all.0 (sym is)
written_once laws (row ∷ rows) (row2 ∷ others) all all' is =
    let one = laws.one_form row.key row2.key (written_image rows) (written_image others) row.account row2.account all.0 all'.0 is in
    let rest = written_once laws rows others all.1 all'.1 one.2 in
    (λ i. record { key = one.0 i; account = one.1 i } ∷ rest i)
