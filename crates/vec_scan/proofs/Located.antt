-- A row that is among an image's rows has its record in the bytes.
use Rattle.std.proofs.Common.{◌≡◌, ℕ, ◌+◌, ◌%◌, ◌≤◌, List, [], ◌∷◌, ◌++◌, length, drop, Bool, true, false, cond, eqb, Option, Some, None, refl, sym, ap, subst, ◌∙◌, inl, inr, arith, length-append}
use Rattle.std.specs.Prelude.{slice_range, IsSome}
use Rattle.std.proofs.lemmas.Bool.{eqb-true}
use Rattle.adb_model.specs.Account as machine
use Rattle.account_layout.specs.declared.record.Record.{Record}
use Rattle.account_layout.specs.Record.{HasFields, account_in}
use Rattle.account_layout.specs.Reading.{Entry, entry_of}
use Rattle.vec_scan.specs.Image.{Placed, IsImage}
use Rattle.vec_scan.specs.Forward.{next_start}
use Rattle.vec_scan.specs.Seal.{row_at, placed}
use Rattle.vec_scan.proofs.Forwards.{ImageFrom, image_from}
use Rattle.vec_scan.proofs.Passing.{drop_on, part_at, lengths}
use Rattle.vec_scan.proofs.Rounding.{rounded-mod}
use Rattle.vec_scan.proofs.Scanning.{part_some}

-- a record of the row stands at the offset
pub record IsLocated (bytes : List ℕ) (offset : ℕ) (row : Placed) : Type 0 where
  pub to : ℕ
  pub fields : machine.Account
  pub offset_is : row.offset ≡ offset
  pub begins : offset ≤ to
  pub ends : to ≤ length bytes
  pub aligned : offset % 8 ≡ 0
  pub has : HasFields (slice_range bytes offset to) row.row.key fields
  pub account : row.row.account ≡ account_in fields

-- nothing is found where no row is
found_none : {B : Type 0} (offset start : ℕ) (bytes : List ℕ) (rows : List Placed) (row : Placed) → bytes ≡ [] → ImageFrom start bytes rows → row_at rows offset ≡ Some row → B
found_none offset start bytes [] row none from is = absurd cc
found_none offset start bytes (first ∷ rows) row none from is =
    let b = from.0 in
    let some = part_some b.part first.row.key b.is_record.0 b.is_record.1 in
    let len : 0 ≡ length (b.part ++ (b.gap ++ b.more)) = ap length (sym none ∙ b.parts) in
    absurd (omega (arith, length-append b.part (b.gap ++ b.more)))

chosen : {A : Type 0} (b : Bool) (x y z : A) (B : Type 0) → cond b x y ≡ z → (b ≡ true → x ≡ z → B) → (y ≡ z → B) → B
chosen true x y z B is first rest = first refl is
chosen false x y z B is first rest = rest is

some_is : (x y : Placed) → (let o : Option Placed = Some x in o) ≡ Some y → x ≡ y
some_is x y is = cc

located_from : (bytes : List ℕ) (start offset : ℕ) (rows : List Placed) (row : Placed) → start % 8 ≡ 0 → ImageFrom start (drop start bytes) rows → row_at rows offset ≡ Some row → IsLocated bytes offset row
located_from bytes start offset [] row aligned from is = absurd cc
located_from bytes start offset (first ∷ rows) row aligned from is =
    let b = from.0 in
    let len = lengths bytes start b.part b.gap b.more b.parts in
    let some = part_some b.part first.row.key b.is_record.0 b.is_record.1 in
    chosen (eqb first.offset offset) (Some first) (row_at rows offset) (Some row) (IsLocated bytes offset row) is
    (λ same found.
    let here : start ≡ offset = sym b.offset ∙ eqb-true first.offset offset same in
    subst (λ (r : Placed). IsLocated bytes offset r) (some_is first row found) (subst (λ (n : ℕ). IsLocated bytes n first) here (record {
      to = start + length b.part;
      fields = b.is_record.0;
      offset_is = b.offset;
      begins = omega arith;
      ends = omega arith;
      aligned = aligned;
      has = subst (λ (xs : List ℕ). HasFields xs first.row.key b.is_record.0) (sym (part_at bytes start b.part (b.gap ++ b.more) b.parts)) b.is_record.1;
      account = b.is_record.2;
    })))
    (λ found. elim from.1 [
      | inl fills ↦
          let eights = rounded-mod (length b.part) in
          let next : ImageFrom (next_start b) (drop (next_start b) bytes) rows = subst (λ (xs : List ℕ). ImageFrom (next_start b) xs rows) (sym (drop_on bytes start b.part b.gap b.more b.parts)) from.2 in
          located_from bytes (next_start b) offset rows row (omega arith) next found
      | inr ends ↦ found_none offset (next_start b) b.more rows row ends.1 from.2 found
    ])

-- the row that is found at an offset
pub located : (bytes : List ℕ) (rows : List Placed) (offset : ℕ) → IsImage bytes rows → IsSome (row_at rows offset) → (row : Placed) × (row_at rows offset ≡ Some row) × IsLocated bytes offset row
located bytes rows offset is some = pick (row_at rows offset) refl some
  where
    pick : (o : Option Placed) → row_at rows offset ≡ o → IsSome o → (row : Placed) × (row_at rows offset ≡ Some row) × IsLocated bytes offset row
    pick (Some row) found some = (row, found, located_from bytes 0 offset rows row refl (image_from bytes rows is) found)
    pick None found some = absurd cc

-- the row whose record was read there
pub placed_is : (offset : ℕ) (row : Placed) (bytes : List ℕ) (r : Record) (l : IsLocated bytes offset row) → entry_of r ≡ record { key = row.row.key; fields = l.fields; end = l.to } → row ≡ placed offset r
placed_is offset row bytes r l is = (λ i. record {
  offset = l.offset_is i;
  row = record { key = (sym is i).key; account = (l.account ∙ ap (λ (e : Entry). account_in e.fields) (sym is)) i };
})
