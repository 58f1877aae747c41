-- What a storage that is put into use changes of the cells.
use Rattle.std.proofs.Common.{◌≡◌, ℕ, ◌+◌, ◌<◌, ◌≤◌, List, [], ◌∷◌, length, set, true, cond, eqb, All, count_by, sum_by, refl, sym, ap, subst, ◌∙◌, inl, inr, arith, get_or-set_same, get_or-set_other, length-set}
use Rattle.std.proofs.lemmas.Bool.{cases_lt, eqb-true, true≢false}
use Rattle.std.proofs.lemmas.List.{get_or_past, set-set}
use Rattle.std.proofs.lemmas.List.Elements.{All-head, All-tail}
use Rattle.std.proofs.lemmas.List.Sums.{sum_by-cons, sum_by-set}
use Rattle.cell_table.specs.declared.phase.Phase.{Phase}
use Rattle.cell_table.specs.declared.phase.Phase.TheVariants.{Free, Filling, Live}
use Rattle.cell_table.specs.Phases.{bytes_of, has_id, is_free, published}
use Rattle.cell_table.specs.Cells.{Table, Begins, cell_at, used}
use Rattle.book_parts.specs.Parts.{Shared}

abbrev Cells : Type 0
Cells = List (Phase Shared)

-- so many cells are free, and the ids of the others are not above this one
pub record Taken (cells : Cells) (id bytes : ℕ) : Type 0 where
  pub free : count_by is_free cells + id ≡ 1048576
  pub all : length cells ≡ 1048576
  pub used : used cells ≡ bytes
  pub ids : (cell n : ℕ) → has_id n (cell_at cells cell) ≡ true → n ≤ id

-- ---- all cells are free

all_free : (cells : Cells) → All (λ cell. cell ≡ Free) cells → count_by is_free cells ≡ length cells
all_free [] all = refl
all_free (x ∷ cells) all =
    ap (λ (p : Phase Shared). count_by is_free (p ∷ cells)) (All-head (λ (c : Phase Shared). c ≡ Free) x cells all)
    ∙ sum_by-cons (λ (p : Phase Shared). cond (is_free p) 1 0) Free cells
    ∙ omega (arith, all_free cells (All-tail (λ (c : Phase Shared). c ≡ Free) x cells all))

none_used : (cells : Cells) → All (λ cell. cell ≡ Free) cells → used cells ≡ 0
none_used [] all = refl
none_used (x ∷ cells) all =
    ap (λ (p : Phase Shared). used (p ∷ cells)) (All-head (λ (c : Phase Shared). c ≡ Free) x cells all)
    ∙ sum_by-cons bytes_of Free cells
    ∙ omega (arith, none_used cells (All-tail (λ (c : Phase Shared). c ≡ Free) x cells all))

free_at : (cells : Cells) → All (λ cell. cell ≡ Free) cells → (cell : ℕ) → cell_at cells cell ≡ Free
free_at cells all cell = elim (cases_lt cell (length cells)) [
  | inl lt ↦ all cell Free lt
  | inr past ↦ get_or_past cells cell Free past
]

pub taken_none : (cells : Cells) → length cells ≡ 1048576 → All (λ cell. cell ≡ Free) cells → Taken cells 0 0
taken_none cells many all = record {
  free = omega (arith, all_free cells all, many);
  all = many;
  used = none_used cells all;
  ids = λ cell n has. absurd (true≢false (sym has ∙ ap (has_id n) (free_at cells all cell)));
}

-- ---- one cell more is taken

module _ (old filling new : Table Shared) (id bytes sum cell : ℕ) (image : Shared) (begun : Begins old filling (id + 1) bytes cell)
    (filled : new ≡ record filling { cells = set filling.cells cell (published image (cell_at filling.cells cell)) }) where
  abbrev live : Phase Shared
  live = Live (id + 1) bytes 0 image

  pub cells_filled : new ≡ record old { cells = set old.cells cell live }
  cells_filled =
      filled ∙ ap (λ (t : Table Shared). record t { cells = set t.cells cell (published image (cell_at t.cells cell)) }) begun.now
      ∙ ap (λ (p : Phase Shared). record old { cells = set (set old.cells cell (Filling (id + 1) bytes)) cell (published image p) }) (get_or-set_same old.cells cell (Filling (id + 1) bytes) Free begun.within)
      ∙ ap (λ (cs : Cells). record old { cells = cs }) (set-set old.cells cell (Filling (id + 1) bytes) live)

  pub taken_more : Taken old.cells id sum → Taken new.cells (id + 1) (sum + bytes)
  taken_more so_far =
      subst (λ (t : Table Shared). Taken t.cells (id + 1) (sum + bytes)) (sym cells_filled) (record {
        free =
            omega (arith, so_far.free, sum_by-set (λ (p : Phase Shared). cond (is_free p) 1 0) old.cells cell live Free begun.within, ap {B = ℕ} (λ (p : Phase Shared). cond (is_free p) 1 0) begun.was_free);
        all = omega (arith, so_far.all, length-set old.cells cell live);
        used =
            omega (arith, so_far.used, sum_by-set bytes_of old.cells cell live Free begun.within, ap (λ (p : Phase Shared). bytes_of p) begun.was_free);
        ids = λ at n has. elim (cases_lt at cell) [
          | inl lower ↦ omega (arith, so_far.ids at n (sym (ap (has_id n) (get_or-set_other old.cells cell at live Free (λ e. omega (arith, e, lower)))) ∙ has))
          | inr not_lower ↦ elim (cases_lt cell at) [
            | inl higher ↦ omega (arith, so_far.ids at n (sym (ap (has_id n) (get_or-set_other old.cells cell at live Free (λ e. omega (arith, e, higher)))) ∙ has))
            | inr not_higher ↦
                let same : at ≡ cell = omega (arith, not_lower, not_higher) in
                let is : eqb (id + 1) n ≡ true =
                sym (ap (λ (a : ℕ). has_id n (cell_at (set old.cells cell live) a)) same ∙ ap (has_id n) (get_or-set_same old.cells cell live Free begun.within)) ∙ has in
                omega (arith, eqb-true (id + 1) n is)
          ]
        ];
      })
