-- An image has rows where it has bytes.
use Rattle.std.proofs.Common.{◌≡◌, ℕ, zero, suc, ◌<◌, ◌≤◌, nat_lt, List, [], ◌∷◌, ◌++◌, length, take, reverse, Option, Some, None, refl, sym, ap, subst, ◌∙◌, arith}
use Rattle.std.specs.Prelude.{IsSomeAnd}
use Rattle.std.proofs.lemmas.List.{length-append, length-map, length-reverse, length-take}
use Rattle.std.proofs.lemmas.Bool.{lt-ltb}
use Rattle.std.proofs.lemmas.Grind.{common_steps}
use Rattle.adb_model.specs.Account.{Account}
use Rattle.adb_model.specs.Opened as machine
use Rattle.account_layout.specs.Record.{IsRecord, header_bytes}
use Rattle.vec_scan.specs.Image.{EndInRows, HasImage, Placed}
use Rattle.snap_write.specs.Snapshot.{HasRows}
use Rattle.snap_write.specs.Written.{has_rows}

record_has_bytes : (bytes key : List ℕ) (account : Account) → IsRecord bytes key account → 0 < length bytes
record_has_bytes bytes key account is =
    let h = is.1 in
    let rest = length-append (header_bytes h.skipped key is.0) is.0.bytes in
    let head : 8 ≤ length (header_bytes h.skipped key is.0) = grind (arith, common_steps, h.version_len) in
    let len = ap length h.parts in
    omega (arith, rest, head, len)

no_bytes : (last : Placed) (before : List Placed) → EndInRows [] (last ∷ before) → ⊥
no_bytes last before is =
    let e = is.2 in
    let some = record_has_bytes e.part last.row.key last.row.account e.is_record in
    let parts = ap length e.parts ∙ length-append is.0 (e.part ++ e.gap) in
    let more = length-append e.part e.gap in
    omega (arith, some, parts, more)

pub rows_where_bytes : (bytes : List ℕ) (len : ℕ) (rows : List Placed) → HasImage bytes len rows → nat_lt 0 (length rows) ≡ nat_lt 0 len
rows_where_bytes bytes len rows is = by (reverse rows) (length-reverse rows) is.1
  where
    by : (back : List Placed) → length back ≡ length rows → EndInRows (take len bytes) back → nat_lt 0 (length rows) ≡ nat_lt 0 len
    by [] same none =
        let taken = ap length none in
        let count = length-take len bytes in
        let l : len ≡ 0 = omega (arith, taken, count, is.0) in
        let r : length rows ≡ 0 = sym same in
        rw (l, r) refl
    by (last ∷ before) same some = of len refl
      where
        of : (n : ℕ) → len ≡ n → nat_lt 0 (length rows) ≡ nat_lt 0 n
        of zero z = absurd (no_bytes last before (subst (λ (n : ℕ). EndInRows (take n bytes) (last ∷ before)) z some))
        of (suc n) s = lt-ltb 0 (length rows) (omega (arith, same)) ∙ sym (lt-ltb 0 (suc n) (omega arith))

-- the same of an image of a file
pub shows_rows : (len : ℕ) (image : machine.Image) (file : Option (List ℕ)) → IsSomeAnd file (HasRows len image) → has_rows image ≡ nat_lt 0 len
shows_rows len image None is = absurd is
shows_rows len image (Some bytes) is =
    ap (λ (n : ℕ). nat_lt 0 n) (ap length is.2 ∙ length-map is.0 (λ (p : Placed). p.row)) ∙ rows_where_bytes bytes len is.0 is.1
