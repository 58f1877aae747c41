-- Rows that are known from the end are known from the front.
use Rattle.std.proofs.Common.{◌≡◌, ℕ, ◌+◌, ◌<◌, List, [], ◌∷◌, ◌++◌, length, reverse, Some, refl, sym, ap, subst, ◌∙◌, inl, inr, arith, append_assoc, length-append}
use mathlib.Core.List.{reverse-cons}
use Rattle.std.proofs.lemmas.List.{append-nil, reverse-reverse}
use Rattle.vec_scan.specs.declared.fault.LayoutFault.{LayoutFault}
use Rattle.vec_scan.specs.Image.{Placed, Fills, FillsOrEnds, EndsWith, AreRows, EndInRows, IsImage}
use Rattle.vec_scan.specs.Fault.{FailsWith, fault_at}
use Rattle.vec_scan.specs.Forward.{BeginsWith, next_start, IsRow}

-- an image goes on so from a place
abbrev pub ImageFrom : ℕ → List ℕ → List Placed → Type 0
ImageFrom start bytes [] = bytes ≡ []
ImageFrom start bytes (first ∷ rows) = (b : BeginsWith start bytes first) × IsRow b × ImageFrom (next_start b) b.more rows

-- an image goes on so from a place, to a row with this fault
abbrev pub FaultFrom : List ℕ → LayoutFault → ℕ → List ℕ → List Placed → Type 0
FaultFrom image fault start bytes [] = (0 < length bytes) × (fault_at image start ≡ Some fault)
FaultFrom image fault start bytes (first ∷ rows) = (b : BeginsWith start bytes first) × Fills b.part b.gap × FaultFrom image fault (next_start b) b.more rows

-- rows before other rows, one after another
unwound : (F : ℕ → List ℕ → List Placed → Type 0)
    → ((start : ℕ) (bytes : List ℕ) (row : Placed) (rows : List Placed) (b : BeginsWith start bytes row) → Fills b.part b.gap → F (next_start b) b.more rows → F start bytes (row ∷ rows))
    → (back : List Placed) (front rest : List ℕ) (rows : List Placed) → AreRows front back → F (length front) rest rows → F 0 (front ++ rest) (reverse back ++ rows)
unwound F step [] front rest rows none tail =
    subst (λ (f : List ℕ). F 0 (f ++ rest) rows) (sym none) (subst (λ (f : List ℕ). F (length f) rest rows) none tail)
unwound F step (last ∷ before) front rest rows is tail =
    let f = is.0 in
    let e = is.2 in
    let b : BeginsWith (length f) (e.part ++ (e.gap ++ rest)) last = record { part = e.part; gap = e.gap; more = rest; parts = refl; offset = e.offset; is_record = e.is_record } in
    let place : length front ≡ length f + length e.part + length e.gap = ap length e.parts ∙ length-append f (e.part ++ e.gap) ∙ ap (λ (n : ℕ). length f + n) (length-append e.part e.gap) ∙ omega arith in
    let first = step (length f) (e.part ++ (e.gap ++ rest)) last rows b e.is_gap (subst (λ (n : ℕ). F n rest rows) place tail) in
    let all = unwound F step before f (e.part ++ (e.gap ++ rest)) (last ∷ rows) is.1 first in
    let bytes : f ++ (e.part ++ (e.gap ++ rest)) ≡ front ++ rest =
    ap (λ (xs : List ℕ). f ++ xs) (sym (append_assoc e.part e.gap rest)) ∙ sym (append_assoc f (e.part ++ e.gap) rest) ∙ ap (λ (xs : List ℕ). xs ++ rest) (sym e.parts) in
    let order : reverse before ++ (last ∷ rows) ≡ reverse (last ∷ before) ++ rows =
    sym (append_assoc (reverse before) (last ∷ []) rows) ∙ ap (λ (xs : List Placed). xs ++ rows) (sym (reverse-cons last before)) in
    subst (λ (xs : List Placed). F 0 (front ++ rest) xs) order (subst (λ (xs : List ℕ). F 0 xs (reverse before ++ (last ∷ rows))) bytes all)

last_from : (front part gap : List ℕ) (last : Placed) (bytes : List ℕ) (e : EndsWith FillsOrEnds front bytes last) → ImageFrom (length front) (e.part ++ e.gap) (last ∷ [])
last_from front part gap last bytes e =
    let b : BeginsWith (length front) (e.part ++ e.gap) last =
    record { part = e.part; gap = e.gap; more = []; parts = ap (λ (xs : List ℕ). e.part ++ xs) (sym (append-nil e.gap)); offset = e.offset; is_record = e.is_record } in
    elim e.is_gap [
      | inl fills ↦ (b, inl fills, refl)
      | inr ends ↦ (b, inr (ends, refl), refl)
    ]

image_from_back : (bytes : List ℕ) (back : List Placed) → EndInRows bytes back → ImageFrom 0 bytes (reverse back)
image_from_back bytes [] none = none
image_from_back bytes (last ∷ before) is =
    let e = is.2 in
    let all = unwound ImageFrom (λ start bytes row rows b fills tail. (b, inl fills, tail)) before is.0 (e.part ++ e.gap) (last ∷ []) is.1 (last_from is.0 e.part e.gap last bytes e) in
    subst (λ (xs : List Placed). ImageFrom 0 bytes xs) (sym (reverse-cons last before)) (subst (λ (xs : List ℕ). ImageFrom 0 xs (reverse before ++ (last ∷ []))) (sym e.parts) all)

-- an image, from its front
pub image_from : (bytes : List ℕ) (rows : List Placed) → IsImage bytes rows → ImageFrom 0 bytes rows
image_from bytes rows is = subst (λ (xs : List Placed). ImageFrom 0 bytes xs) (reverse-reverse rows) (image_from_back bytes (reverse rows) is)

-- a fault, from the front
pub fault_from : (bytes : List ℕ) (fault : LayoutFault) → FailsWith bytes fault → (rows : List Placed) × FaultFrom bytes fault 0 bytes rows
fault_from bytes fault is =
    let all = unwound (FaultFrom bytes fault) (λ start part row rows b fills tail. (b, fills, tail)) is.rows is.front is.rest [] is.are_rows (is.more, is.fault_is) in
    (reverse is.rows ++ [], subst (λ (xs : List ℕ). FaultFrom bytes fault 0 xs (reverse is.rows ++ [])) (sym is.parts) all)
