-- Each row of an image takes the bytes of a record's header.
use Rattle.std.proofs.Common.{◌≡◌, ℕ, ◌+◌, ◌*◌, ◌≤◌, List, [], ◌∷◌, ◌++◌, length, map, reverse, ap, ◌∙◌, arith}
use Rattle.std.proofs.lemmas.List.{length-append, length-map, length-reverse}
use Rattle.adb_model.specs.Account as machine
use Rattle.adb_model.specs.RowBytes.{RowsTake}
use Rattle.account_layout.specs.Record.{HasFields}
use Rattle.vec_scan.specs.Image.{Placed, EndsWith, AreRows, EndInRows, IsImage}

-- the law that a record is as long as its header and its data
abbrev pub RecordLength : Type 0
RecordLength = (part key : List ℕ) (fields : machine.Account) → HasFields part key fields → length part ≡ 136 + length fields.bytes

module _ (law : RecordLength) where
  -- the last row, and what the rows before it take
  with_last : (Gap : List ℕ → List ℕ → Type 0) (front bytes : List ℕ) (last : Placed) (count : ℕ) → 136 * count ≤ length front → EndsWith Gap front bytes last → 136 * (count + 1) ≤ length bytes
  with_last Gap front bytes last count before e =
      let part = law e.part last.row.key e.is_record.0 e.is_record.1 in
      let whole = ap length e.parts ∙ length-append front (e.part ++ e.gap) in
      let rest = length-append e.part e.gap in
      omega (arith, part, whole, rest, before)

  of_rows : (bytes : List ℕ) (rows : List Placed) → AreRows bytes rows → 136 * length rows ≤ length bytes
  of_rows bytes [] is = omega arith
  of_rows bytes (last ∷ before) is = let h = with_last _ is.0 bytes last (length before) (of_rows is.0 before is.1) is.2 in omega (arith, h)

  at_end : (bytes : List ℕ) (rows : List Placed) → EndInRows bytes rows → 136 * length rows ≤ length bytes
  at_end bytes [] is = omega arith
  at_end bytes (last ∷ before) is = let h = with_last _ is.0 bytes last (length before) (of_rows is.0 before is.1) is.2 in omega (arith, h)

  pub of_image : (bytes : List ℕ) (rows : List Placed) → IsImage bytes rows → RowsTake (map (λ p. p.row) rows) (length bytes)
  of_image bytes rows is =
      let all = at_end bytes (reverse rows) is in
      omega (arith, all, length-reverse rows, length-map rows (λ (p : Placed). p.row))
