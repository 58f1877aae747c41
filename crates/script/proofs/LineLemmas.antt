-- The lines of a script, one after the other.
use Rattle.std.proofs.Common.{◌≡◌, ℕ, ◌+◌, ◌<◌, ◌≤◌, Bool, true, false, cond, eqb, List, [], ◌∷◌, ◌++◌, length, Result, Ok, Err, take, refl, ap, ap₂, ◌∙◌, ◌-◌, ◌≢◌, append_assoc, arith}
use Rattle.std.specs.Prelude.{not, slice_index}
use Rattle.std.specs.List.{flat_map, slice_split, position_or_len, before_first, after_first}
use Rattle.std.specs.Str.Lines.{lines, lines_of_parts, strip_carriage_return}
use Rattle.std.proofs.lemmas.Bool.{cond-false, ne_eqb}
use Rattle.std.proofs.lemmas.List.Splits.{slice_split_at, slice_split_first, slice_split-cons_no, length-slice_split}
use Rattle.std.proofs.lemmas.List.Elements.{All-head, All-tail}
use Rattle.script.specs.Laws.{IsTextLine, EndedLinesAreRead}
use Rattle.script.specs.declared.fault.LineFault.{LineFault}
use Rattle.script.specs.Said.{Line}

-- lines that were read, and then the rest
abbrev pub after_lines : List Line → Result (List Line) LineFault → Result (List Line) LineFault
after_lines front (Ok more) = Ok (front ++ more)
after_lines front (Err f) = Err f

-- where the newline is
abbrev is_newline : ℕ → Bool
is_newline b = eqb b 10

whole_by : (b : ℕ) (bs : List ℕ) (t : Bool) → is_newline b ≡ t → length (b ∷ bs) ≤ cond (not t) (1 + position_or_len is_newline bs) 0 → (length bs ≤ position_or_len is_newline bs → slice_split is_newline bs ≡ bs ∷ []) → slice_split is_newline (b ∷ bs) ≡ (b ∷ bs) ∷ []
whole_by b bs true e le more = absurd (omega arith)
whole_by b bs false e le more = slice_split-cons_no is_newline b bs e ∙ rw (more (omega arith)) refl

whole : (bs : List ℕ) → length bs ≤ position_or_len is_newline bs → slice_split is_newline bs ≡ bs ∷ []
whole [] le = refl
whole (b ∷ bs) le = whole_by b bs (is_newline b) refl le (whole bs)

-- the last line, which no newline ends
pub last_line : (bs : List ℕ) → 0 < length bs → length bs ≤ position_or_len is_newline bs → lines bs ≡ bs ∷ lines []
last_line [] some le = absurd (omega arith)
last_line (b ∷ bs) some le = ap lines_of_parts (whole (b ∷ bs) le) ∙ cond-false (eqb (length (b ∷ bs)) 0) [] ((b ∷ bs) ∷ []) (ne_eqb (length (b ∷ bs)) 0 (λ e. omega arith))

stripped : (l : List ℕ) (parts : List (List ℕ)) → 0 < length parts → lines_of_parts (l ∷ parts) ≡ strip_carriage_return l ∷ lines_of_parts parts
stripped l [] some = absurd (omega arith)
stripped l (p ∷ parts) some = refl

-- a line that a newline ends
pub first_line : (bs : List ℕ) → position_or_len is_newline bs < length bs → lines bs ≡ strip_carriage_return (before_first is_newline bs) ∷ lines (after_first is_newline bs)
first_line bs lt =
    ap lines_of_parts (slice_split_first is_newline bs 0 lt)
    ∙ stripped (before_first is_newline bs) (slice_split is_newline (after_first is_newline bs)) (omega (arith, length-slice_split is_newline (after_first is_newline bs)))

-- lines that are joined by newlines are these lines
pub ended_lines : EndedLinesAreRead
ended_lines [] h = refl
ended_lines (l ∷ ls) h =
    let first = All-head IsTextLine l ls h in
    ap lines (append_assoc l (10 ∷ []) (flat_map (λ x. x ++ 10 ∷ []) ls))
    ∙ ap lines_of_parts (slice_split_at is_newline l 10 (flat_map (λ x. x ++ 10 ∷ []) ls) first.whole refl)
    ∙ stripped l (slice_split is_newline (flat_map (λ x. x ++ 10 ∷ []) ls)) (omega (arith, length-slice_split is_newline (flat_map (λ x. x ++ 10 ∷ []) ls)))
    ∙ ap₂ (λ (x : List ℕ) (xs : List (List ℕ)). x ∷ xs) (kept l first.unreturned) (ended_lines ls (All-tail IsTextLine l ls h))
  where
    kept : (x : List ℕ) → slice_index x (length x - 1) ≢ 13 → strip_carriage_return x ≡ x
    kept x e = cond-false (eqb (slice_index x (length x - 1)) 13) (take (length x - 1) x) x (ne_eqb _ _ e)
