-- The parts of a new book.
use Rattle.std.proofs.Common.{◌≡◌, ℕ, zero, suc, List, [], ◌∷◌, Bool, true, false, cond, All, length, count_by, sum_by, refl, sym, ap, ◌∙◌, arith}
use Rattle.std.proofs.lemmas.List.Sums.{sum_by-cons}
use Rattle.cell_table.specs.declared.phase.Phase.{Phase}
use Rattle.cell_table.specs.declared.phase.Phase.TheVariants as phases
use Rattle.cell_table.specs.Phases.{has_id, is_free, is_filling, is_live, is_retired, bytes_of, pins_of}
use Rattle.cell_table.specs.Cells.{Table, cell_at, used, pins}
use Rattle.adb_model.specs.Call.{Counts}
use Rattle.adb_model.specs.Lists.{among}
use Rattle.adb_model.specs.State.{Row, fresh}
use Rattle.adb_model.specs.Opened.{opened, opened_roots}
use Rattle.book_parts.specs.Parts.{Shared, new_parts}
use Rattle.book_parts.specs.Reflects.{Reflects}

abbrev AreFree : List (Phase Shared) → Type 0
AreFree cells = All (λ cell. cell ≡ phases.Free) cells

others_free : (cell : Phase Shared) (cells : List (Phase Shared)) → AreFree (cell ∷ cells) → AreFree cells
others_free cell cells all = λ i d lt. all (suc i) d (omega (arith, lt))

-- each cell is free
cell_free : (cells : List (Phase Shared)) → AreFree cells → (i : ℕ) → cell_at cells i ≡ phases.Free
cell_free [] all i = refl
cell_free (cell ∷ cells) all zero = all 0 cell (omega arith)
cell_free (cell ∷ cells) all (suc i) = cell_free cells (others_free cell cells all) i

no_id : (cells : List (Phase Shared)) → AreFree cells → (i id : ℕ) → has_id id (cell_at cells i) ≡ false
no_id cells all i id = ap (has_id id) (cell_free cells all i)

module _ (weight : Phase Shared → ℕ) (none : weight phases.Free ≡ 0) where
  weightless : (cells : List (Phase Shared)) → AreFree cells → sum_by weight cells ≡ 0
  weightless [] all = refl
  weightless (cell ∷ cells) all =
      let rest = weightless cells (others_free cell cells all) in
      let first : weight cell ≡ 0 = ap weight (all 0 cell (omega arith)) ∙ none in
      sum_by-cons weight cell cells ∙ omega (arith, rest, first)

abbrev weight_of_free : Phase Shared → ℕ
weight_of_free c = cond (is_free c) 1 0

all_free : (cells : List (Phase Shared)) → AreFree cells → count_by is_free cells ≡ length cells
all_free [] all = refl
all_free (cell ∷ cells) all =
    let rest = all_free cells (others_free cell cells all) in
    let first : weight_of_free cell ≡ 1 = ap weight_of_free (all 0 cell (omega arith)) in
    sum_by-cons weight_of_free cell cells ∙ omega (arith, rest, first)

-- counts of nothing
abbrev counts : ℕ → ℕ → ℕ → ℕ → ℕ → Counts
counts filling live retired bytes pinned = record { cached = 0; filling = filling; live = live; retired = retired; named = 0; rows = 0; bytes = bytes; pins = pinned }

pub reflects_new : (table : Table Shared) (id : ℕ) → length table.cells ≡ 1048576 → AreFree table.cells → Reflects (new_parts table id) (fresh table.limit id)
reflects_new table id all free = record {
  marks = λ k s. refl;
  placed = λ k s t cell offset e. absurd cc;
  held = λ k s. refl;
  expected = λ k s. refl;
  rows = λ s. refl;
  roots = refl;
  cleaned = refl;
  leases = refl;
  cells = record {
    all = all;
    free = let h = all_free table.cells free in omega (arith, h, all);
    apart = λ a b i e f. let h : false ≡ true = sym (no_id table.cells free a i) ∙ e in absurd cc;
    each = λ cell i e. let h : false ≡ true = sym (no_id table.cells free cell i) ∙ e in absurd cc;
    every = λ i t e. absurd cc;
  };
  slots = record { lives = λ s. tt; begins = λ s. tt };
  counts = ap (λ n. counts n (count_by is_live table.cells) (count_by is_retired table.cells) (used table.cells) (pins table.cells)) (weightless (λ c. cond (is_filling c) 1 0) refl table.cells free)
      ∙ ap (λ n. counts 0 n (count_by is_retired table.cells) (used table.cells) (pins table.cells)) (weightless (λ c. cond (is_live c) 1 0) refl table.cells free)
      ∙ ap (λ n. counts 0 0 n (used table.cells) (pins table.cells)) (weightless (λ c. cond (is_retired c) 1 0) refl table.cells free)
      ∙ ap (λ n. counts 0 0 0 n (pins table.cells)) (weightless bytes_of refl table.cells free)
      ∙ ap (λ n. counts 0 0 0 0 n) (weightless pins_of refl table.cells free);
  limit = refl;
  next_id = refl;
  snap = refl;
}

-- and those that are opened from no image
pub reflects_unopened : (table : Table Shared) (slot : ℕ) (more : List ℕ) → length table.cells ≡ 1048576 → AreFree table.cells
    → Reflects (record (new_parts table 1) { roots = opened_roots slot [] more; cleaned = slot }) (opened table.limit slot [] more)
reflects_unopened table slot more all free =
    let new = reflects_new table 1 all free in
    record {
      marks = λ k s. refl;
      placed = λ k s t cell offset e. absurd cc;
      held = λ k s. refl;
      expected = λ k s. refl;
      rows = λ s. unflushed (among s (opened_roots slot [] more));
      roots = refl;
      cleaned = refl;
      leases = refl;
      cells = new.cells;
      slots = new.slots;
      counts = new.counts;
      limit = refl;
      next_id = refl;
      snap = refl;
    }
  where
    none : List Row
    none = []

    unflushed : (b : Bool) → none ≡ cond b none none
    unflushed true = refl
    unflushed false = refl
