-- What steps of a shrink leave of the cells.
use Rattle.std.proofs.Common.{◌≡◌, ◌≢◌, ℕ, ◌<◌, List, length, set, true, refl, sym, ap, ◌∙◌, inl, inr, arith, get_or-set_same, get_or-set_other}
use Rattle.std.proofs.lemmas.Bool.{cases_lt, true≢false}
use Rattle.std.proofs.lemmas.List.{get_or_past, set-set, set-get_or}
use Rattle.std.proofs.lemmas.List.Sums.{sum_by-set}
use Rattle.cell_table.specs.declared.phase.Phase.{Phase}
use Rattle.cell_table.specs.declared.phase.Phase.TheVariants.{Free, Filling, Live, Retired}
use Rattle.cell_table.specs.Phases.{pins_of, is_filling, is_live, unpinned}
use Rattle.cell_table.specs.Cells.{Table, Begins, cell_at, pins}
use Rattle.book_parts.specs.Parts.{Shared}
use Rattle.book_parts.specs.Shrinks.{with_phase}

-- a cell that began to fill and is freed again
pub cells_back : (old mid new : Table Shared) (id bytes cell : ℕ) → Begins old mid id bytes cell → new ≡ record mid { cells = set mid.cells cell Free } → new ≡ old
cells_back old mid new id bytes cell began freed =
    freed ∙ ap (λ (t : Table Shared). record t { cells = set t.cells cell Free }) began.now
    ∙ ap (λ cs. record old { cells = cs })
    (set-set old.cells cell (Filling id bytes) Free
    ∙ ap (λ (f : Phase Shared). set old.cells cell f) (sym began.was_free)
    ∙ set-get_or old.cells cell Free)

-- a live cell stays so where another begins to fill
pub live_still : (old mid : Table Shared) (id bytes cell from : ℕ) → Begins old mid id bytes cell → is_live (cell_at old.cells from) ≡ true → is_live (cell_at mid.cells from) ≡ true
live_still old mid id bytes cell from began live =
    let apart : from ≢ cell = λ same. true≢false (sym live ∙ ap (λ c. is_live (cell_at old.cells c)) same ∙ ap is_live began.was_free) in
    ap (λ (t : Table Shared). is_live (cell_at t.cells from)) began.now
    ∙ ap is_live (get_or-set_other old.cells cell from (Filling id bytes) Free apart) ∙ live

-- and there are as many pins
pub pins_still : (old mid : Table Shared) (id bytes cell : ℕ) → Begins old mid id bytes cell → pins mid.cells ≡ pins old.cells
pins_still old mid id bytes cell began =
    let sums = sum_by-set pins_of old.cells cell (Filling id bytes) Free began.within in
    let was : pins_of (cell_at old.cells cell) ≡ 0 = ap pins_of began.was_free in
    ap (λ (t : Table Shared). pins t.cells) began.now ∙ omega (arith, sums, was)

-- a cell with a pin is in the table
pinned_within : (cells : List (Phase Shared)) (from : ℕ) → 0 < pins_of (cell_at cells from) → from < length cells
pinned_within cells from some = elim (cases_lt from (length cells)) [
  | inl lt ↦ lt
  | inr past ↦ let none : pins_of (cell_at cells from) ≡ 0 = ap pins_of (get_or_past cells from Free past) in absurd (omega (arith, some, none))
]

filling_unpinned : (phase : Phase Shared) → is_filling phase ≡ true → pins_of phase ≡ 0
filling_unpinned Free e = refl
filling_unpinned (Filling id bytes) e = refl
filling_unpinned (Live id bytes n value) e = absurd (cc e)
filling_unpinned (Retired id bytes n value) e = absurd (cc e)

-- a cell that fills is another than one with a pin
apart : (cells : List (Phase Shared)) (from cell : ℕ) → 0 < pins_of (cell_at cells from) → is_filling (cell_at cells cell) ≡ true → cell ≢ from
apart cells from cell some fills same =
    let none = filling_unpinned (cell_at cells cell) fills in
    let here : pins_of (cell_at cells cell) ≡ pins_of (cell_at cells from) = ap (λ c. pins_of (cell_at cells c)) same in
    omega (arith, some, none, here)

-- it fills still where the pinned one changes
pub fills_still : (change : Phase Shared → Phase Shared) (old : Table Shared) (from cell : ℕ) → 0 < pins_of (cell_at old.cells from) → is_filling (cell_at old.cells cell) ≡ true
    → cell_at (with_phase change from old).cells cell ≡ cell_at old.cells cell
fills_still change old from cell some fills =
    get_or-set_other old.cells from cell (change (cell_at old.cells from)) Free (apart old.cells from cell some fills)

live_unpinned : (phase : Phase Shared) → is_live phase ≡ true → is_live (unpinned phase) ≡ true
live_unpinned Free e = e
live_unpinned (Filling id bytes) e = e
live_unpinned (Live id bytes n value) e = refl
live_unpinned (Retired id bytes n value) e = e

-- the pinned cell is live with one pin less, too
pub unpinned_live : (old : Table Shared) (from : ℕ) → 0 < pins_of (cell_at old.cells from) → is_live (cell_at old.cells from) ≡ true → is_live (cell_at (with_phase unpinned from old).cells from) ≡ true
unpinned_live old from some live =
    ap is_live (get_or-set_same old.cells from (unpinned (cell_at old.cells from)) Free (pinned_within old.cells from some))
    ∙ live_unpinned (cell_at old.cells from) live
