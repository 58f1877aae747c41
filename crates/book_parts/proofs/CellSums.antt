-- What the change of one cell leaves of looks into cells and of sums over them.
use Rattle.std.proofs.Common.{◌≡◌, ◌≢◌, ℕ, ◌+◌, ◌<◌, List, length, set, Bool, true, cond, sum_by, count_by, sym, ap, ◌∙◌, inl, inr, arith, get_or-set_same, get_or-set_other}
use Rattle.std.proofs.lemmas.Bool.{cases_lt, false≢true}
use Rattle.std.proofs.lemmas.List.{get_or_past}
use Rattle.std.proofs.lemmas.List.Sums.{sum_by-set}
use Rattle.cell_table.specs.declared.phase.Phase.{Phase}
use Rattle.cell_table.specs.declared.phase.Phase.TheVariants.{Free}
use Rattle.cell_table.specs.Phases.{has_id}
use Rattle.cell_table.specs.Cells.{cell_at}

-- two numbers are one, or apart
pub at_or_apart : {P : Type 0} (k i : ℕ) → (k ≡ i → P) → (k ≢ i → P) → P
at_or_apart k i same apart = elim (cases_lt k i) [
  | inl below ↦ apart (λ e. omega arith)
  | inr not_below ↦ elim (cases_lt i k) [ inl above ↦ apart (λ e. omega arith) | inr not_above ↦ same (omega arith) ]
]

-- one where the test passes
abbrev pub one_if : Bool → ℕ
one_if b = cond b 1 0

-- a cell in use is one of the list
pub in_range : {T : Type 0} (cells : List (Phase T)) (id i : ℕ) → has_id id (cell_at cells i) ≡ true → i < length cells
in_range cells id i e = elim (cases_lt i (length cells)) [
  | inl lt ↦ lt
  | inr past ↦ absurd (false≢true (sym (ap (has_id id) (get_or_past cells i Free (omega arith))) ∙ e))
]

module _ {T : Type 0} (cells : List (Phase T)) (i : ℕ) (now : Phase T) (lt : i < length cells) where
  abbrev pub changed : List (Phase T)
  changed = set cells i now

  pub cell_here : cell_at changed i ≡ now
  cell_here = get_or-set_same cells i now Free lt

  pub cell_other : (k : ℕ) → k ≢ i → cell_at changed k ≡ cell_at cells k
  cell_other k apart = get_or-set_other cells i k now Free apart

  -- what is read of the cell is as before
  pub same_look : {X : Type 0} (f : Phase T → X) → f now ≡ f (cell_at cells i) → (k : ℕ) → f (cell_at changed k) ≡ f (cell_at cells k)
  same_look f same k = at_or_apart k i
      (λ here. ap (λ n. f (cell_at changed n)) here ∙ ap f cell_here ∙ same ∙ ap (λ n. f (cell_at cells n)) (sym here))
      (λ apart. ap f (cell_other k apart))

  pub sum_changed : (f : Phase T → ℕ) → sum_by f changed + f (cell_at cells i) ≡ sum_by f cells + f now
  sum_changed f = sum_by-set f cells i now Free lt

  pub same_sum : (f : Phase T → ℕ) → f now ≡ f (cell_at cells i) → sum_by f changed ≡ sum_by f cells
  same_sum f same = omega (arith, sum_changed f, same)

  pub same_count : (test : Phase T → Bool) → test now ≡ test (cell_at cells i) → count_by test changed ≡ count_by test cells
  same_count test same = same_sum (λ c. one_if (test c)) (ap one_if same)
