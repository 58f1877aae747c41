-- The cells that were used once, and the free ones behind them.
use Rattle.std.proofs.Common.{◌≡◌, ℕ, zero, suc, ◌+◌, ◌-◌, ◌<◌, ◌≤◌, List, [], ◌∷◌, ◌++◌, length, set, get_or, map, sum_by, refl, sym, ap, ◌∙◌, arith, length-append, length-set, append_assoc}
use Rattle.std.specs.List.{repeat}
use Rattle.std.proofs.lemmas.List.{length-map}
use Rattle.std.proofs.lemmas.List.Sums.{sum_by-append, sum_by-cons}
use Rattle.cell_table.specs.declared.phase.Phase.{Phase}
use Rattle.cell_table.specs.declared.phase.Phase.TheVariants.{Free}
use Rattle.cell_table.specs.Cells.{cell_at}
use Rattle.cell_table.specs.Inside.{all_cells}

length-spare : {A : Type 0} (x : A) (n : ℕ) → length (repeat n (x ∷ [])) ≡ n
length-spare x zero = refl
length-spare x (suc n) = ap suc (length-spare x n)

module _ {T : Type 0} where
  abbrev spare : ℕ → List (Phase T)
  spare n = repeat n (Free ∷ [])

  cell_at-spare : (n i : ℕ) → cell_at (spare n) i ≡ Free
  cell_at-spare zero i = refl
  cell_at-spare (suc n) zero = refl
  cell_at-spare (suc n) (suc i) = cell_at-spare n i

  pub cell_at-behind : (cells : List (Phase T)) (n i : ℕ) → cell_at (cells ++ spare n) i ≡ cell_at cells i
  cell_at-behind [] n i = cell_at-spare n i
  cell_at-behind (c ∷ cells) n zero = refl
  cell_at-behind (c ∷ cells) n (suc i) = cell_at-behind cells n i

  set-behind : (cells : List (Phase T)) (n i : ℕ) (p : Phase T) → i < length cells → set (cells ++ spare n) i p ≡ set cells i p ++ spare n
  set-behind [] n i p lt = absurd (omega arith)
  set-behind (c ∷ cells) n zero p lt = refl
  set-behind (c ∷ cells) n (suc i) p lt = ap (λ l. c ∷ l) (set-behind cells n i p (omega arith))

  sum_by-spare : (f : Phase T → ℕ) → f Free ≡ 0 → (n : ℕ) → sum_by f (spare n) ≡ 0
  sum_by-spare f none zero = refl
  sum_by-spare f none (suc n) = omega (arith, sum_by-cons f Free (spare n), none, sum_by-spare f none n)

  sum_by-free : (f : Phase T → ℕ) → f Free ≡ 1 → (n : ℕ) → sum_by f (spare n) ≡ n
  sum_by-free f one zero = refl
  sum_by-free f one (suc n) = omega (arith, sum_by-cons f Free (spare n), one, sum_by-free f one n)

  map-spare : (f : Phase T → Phase T) → f Free ≡ Free → (n : ℕ) → map f (spare n) ≡ spare n
  map-spare f same zero = refl
  map-spare f same (suc n) = λ j. same j ∷ map-spare f same n j

  map-append : (f : Phase T → Phase T) (xs ys : List (Phase T)) → map f (xs ++ ys) ≡ map f xs ++ map f ys
  map-append f [] ys = refl
  map-append f (x ∷ xs) ys = ap (λ l. f x ∷ l) (map-append f xs ys)

  pub all_free : (n k : ℕ) (d : Phase T) → k < length (spare n) → get_or (spare n) k d ≡ Free
  all_free zero k d lt = absurd (omega arith)
  all_free (suc n) zero d lt = refl
  all_free (suc n) (suc k) d lt = all_free n k d (omega arith)

  -- what no free cell has shows a cell that was used
  pub in_use : (P : Phase T → Type 0) → (P Free → ⊥) → (cells : List (Phase T)) (i : ℕ) → P (cell_at cells i) → i < length cells
  in_use P none [] i holds = absurd (none holds)
  in_use P none (c ∷ cells) zero holds = omega arith
  in_use P none (c ∷ cells) (suc i) holds = omega (arith, in_use P none cells i holds)

  module _ (most : ℕ) (cells : List (Phase T)) where
    pub cell_at-all : (i : ℕ) → cell_at (all_cells most cells) i ≡ cell_at cells i
    cell_at-all i = cell_at-behind cells (most - length cells) i

    pub set-all : (i : ℕ) (p : Phase T) → i < length cells → set (all_cells most cells) i p ≡ all_cells most (set cells i p)
    set-all i p lt = set-behind cells (most - length cells) i p lt ∙ ap (λ n. set cells i p ++ spare (most - n)) (sym (length-set cells i p))

    pub sum_by-all : (f : Phase T → ℕ) → f Free ≡ 0 → sum_by f (all_cells most cells) ≡ sum_by f cells
    sum_by-all f none = omega (arith, sum_by-append f cells (spare (most - length cells)), sum_by-spare f none (most - length cells))

    pub length-all : length cells ≤ most → length (all_cells most cells) ≡ most
    length-all few = omega (arith, length-append cells (spare (most - length cells)), length-spare {A = Phase T} Free (most - length cells))

    pub free-all : (f : Phase T → ℕ) → f Free ≡ 1 → length cells ≤ most → sum_by f (all_cells most cells) ≡ sum_by f cells + (most - length cells)
    free-all f one few = omega (arith, sum_by-append f cells (spare (most - length cells)), sum_by-free f one (most - length cells))

    pub map-all : (f : Phase T → Phase T) → f Free ≡ Free → map f (all_cells most cells) ≡ all_cells most (map f cells)
    map-all f same =
        map-append f cells (spare (most - length cells)) ∙ ap (λ l. map f cells ++ l) (map-spare f same (most - length cells))
        ∙ ap (λ n. map f cells ++ spare (most - n)) (sym (length-map cells f))

    -- the first of the free cells behind is used
    pub grown-all : length cells < most → all_cells most (cells ++ Free ∷ []) ≡ all_cells most cells
    grown-all lt =
        let left : most - length cells ≡ suc (most - length (cells ++ Free ∷ [])) = omega (arith, length-append cells (Free ∷ [])) in
        append_assoc cells (Free ∷ []) (spare (most - length (cells ++ Free ∷ []))) ∙ ap (λ n. cells ++ spare n) (sym left)
