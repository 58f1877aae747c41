-- A cell that began to fill and is freed again.
use Rattle.std.proofs.Common.{◌≡◌, ℕ, sym, ap, ◌∙◌, slice_set}
use Rattle.std.proofs.lemmas.List.{set-set, set-get_or}
use Rattle.cell_table.specs.declared.phase.Phase.TheVariants.{Free, Filling}
use Rattle.cell_table.specs.declared.phase.Phase.{Phase}
use Rattle.cell_table.specs.Cells.{Table, Begins}
use Rattle.book_parts.specs.Parts.{Shared}

pub cells_back : (old mid new : Table Shared) (id bytes cell : ℕ) → Begins old mid id bytes cell → new ≡ record mid { cells = slice_set mid.cells cell Free } → new ≡ old
cells_back old mid new id bytes cell began freed =
    freed ∙ ap (λ (t : Table Shared). record t { cells = slice_set t.cells cell Free }) began.now
    ∙ ap (λ cs. record old { cells = cs })
    (set-set old.cells cell (Filling id bytes) Free
    ∙ ap (λ (f : Phase Shared). slice_set old.cells cell f) (sym began.was_free)
    ∙ set-get_or old.cells cell Free)
