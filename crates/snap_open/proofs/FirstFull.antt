-- The first of storages that has no room.
use Rattle.std.proofs.Common.{◌≡◌, ℕ, zero, suc, ◌+◌, ◌<◌, ◌≤◌, Bool, true, false, cond, nat_lt, List, [], ◌∷◌, ◌++◌, length, map, take, drop, get_or, refl, sym, ap, subst, ◌∙◌, arith, append_assoc}
use Rattle.std.specs.Prelude.{sum_by}
use Rattle.std.proofs.lemmas.Bool.{lt-ltb}
use Rattle.std.proofs.lemmas.List.{length-append, take_at}
use Rattle.std.proofs.lemmas.List.Sums.{sum_by-append, sum_by-cons}
use Rattle.open_plan.specs.Causes.{IsFirstFull, IsOutOfCells}
use Rattle.field_codec.specs.declared.form.FormFile.{FormFile}
use Rattle.field_codec.specs.FormFaults.{file_seen}
use Rattle.snap_open.specs.Sizes.{size_of, sizes_in}

-- the sizes of files
abbrev pub sizes : List FormFile → List ℕ
sizes files = sizes_in (map file_seen files)

-- one more before others
before_others : (file : FormFile) (xs front rest : List ℕ) → xs ≡ front ++ rest → cond (nat_lt 0 file.len) (size_of file.len ∷ xs) xs ≡ cond (nat_lt 0 file.len) (size_of file.len ∷ front) front ++ rest
before_others file xs front rest same = by (nat_lt 0 file.len)
  where
    by : (b : Bool) → cond b (size_of file.len ∷ xs) xs ≡ cond b (size_of file.len ∷ front) front ++ rest
    by true = ap (λ (l : List ℕ). size_of file.len ∷ l) same
    by false = same

sizes-cons : (file : FormFile) (files : List FormFile) → sizes (file ∷ files) ≡ cond (nat_lt 0 file.len) (size_of file.len ∷ sizes files) (sizes files)
sizes-cons file files = by (nat_lt 0 file.len) refl
  where
    by : (b : Bool) → nat_lt 0 file.len ≡ b → sizes (file ∷ files) ≡ cond b (size_of file.len ∷ sizes files) (sizes files)
    by true is = rw is refl
    by false is = rw is refl

pub sizes_at : (files : List FormFile) (i : ℕ) (file : FormFile) → i < length files → file ≡ get_or files i file → 0 < file.len → sizes files ≡ sizes (take i files) ++ size_of file.len ∷ sizes (drop (suc i) files)
sizes_at [] i file lt here some = absurd (omega arith)
sizes_at (f ∷ files) zero file lt here some =
    let yes : nat_lt 0 file.len ≡ true = lt-ltb 0 file.len some in
    ap (λ (x : FormFile). sizes (x ∷ files)) (sym here) ∙ (rw yes refl)
sizes_at (f ∷ files) (suc i) file lt here some =
    sizes-cons f files ∙ before_others f (sizes files) (sizes (take i files)) (size_of file.len ∷ sizes (drop (suc i) files)) (sizes_at files i file (omega (arith, lt)) here some)
    ∙ ap (λ (l : List ℕ). l ++ size_of file.len ∷ sizes (drop (suc i) files)) (sym (sizes-cons f (take i files)))

module _ (files : List FormFile) (i : ℕ) (file : FormFile) (lt : i < length files) (here : file ≡ get_or files i file) (some : 0 < file.len) (budget used cells wanted : ℕ)
    (used_is : used ≡ sum_by (λ size. size) (sizes (take i files))) (cells_are : cells ≡ length (sizes (take i files))) (wanted_is : wanted ≡ size_of file.len) where
  abbrev rest : List ℕ
  rest = sizes (drop (suc i) files)

  parts : sizes files ≡ sizes (take i files) ++ wanted ∷ rest
  parts = sizes_at files i file lt here some ∙ ap (λ (n : ℕ). sizes (take i files) ++ n ∷ rest) (sym wanted_is)

  pub first_full : cells ≤ 1048576 → used ≤ budget → budget < used + wanted → IsFirstFull budget (sizes files) used wanted budget
  first_full few within above = record {
    front = sizes (take i files);
    rest = rest;
    parts = parts;
    cells = subst (λ (n : ℕ). n ≤ 1048576) cells_are few;
    used_is = used_is;
    within = within;
    above = above;
    limit_is = refl;
  }

  pub out_of_cells : cells ≡ 1048576 → used + wanted ≤ budget → IsOutOfCells budget (sizes files) 1048576
  out_of_cells full within =
      let front = sizes (take i files) in
      let up : List ℕ = front ++ wanted ∷ [] in
      let whole : sizes files ≡ up ++ rest = parts ∙ sym (append_assoc front (wanted ∷ []) rest) in
      let len : length up ≡ 1048577 = length-append front (wanted ∷ []) ∙ omega (arith, cells_are, full) in
      let total = ap length whole ∙ length-append up rest in
      let taken : take 1048577 (sizes files) ≡ up = ap (take 1048577) whole ∙ take_at up rest 1048577 len in
      let sum = ap (sum_by (λ (size : ℕ). size)) taken ∙ sum_by-append (λ (size : ℕ). size) front (wanted ∷ []) in
      let one = sum_by-cons (λ (size : ℕ). size) wanted [] in
      record {
        many = omega (arith, total, len);
        within = omega (arith, sum, one, used_is, within);
        limit_is = refl;
      }
