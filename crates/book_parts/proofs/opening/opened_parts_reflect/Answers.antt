use Rattle.std.proofs.Common.{◌≡◌, ℕ, ◌+◌, List, [], ◌∷◌, ◌++◌, length, set, refl, sym, ap, ◌∙◌, subst, arith}
use Rattle.std.proofs.lemmas.List.{set-set, length-append, length-map}
use Rattle.cell_table.specs.declared.phase.Phase.{Phase}
use Rattle.cell_table.specs.declared.phase.Phase.TheVariants as cells
use Rattle.cell_table.specs.Phases.{published}
use Rattle.cell_table.specs.Cells.{Table, cell_at}
use Rattle.vec_scan.specs.Image.{Placed}
use Rattle.vec_scan.specs.Shown.{stored}
use Rattle.adb_model.specs.State.{State}
use Rattle.adb_model.specs.Opened.{storage_of, opened}
use Rattle.book_parts.specs.Parts.{Shared}
use Rattle.book_parts.specs.Reflects.{Reflects}
use Rattle.book_parts.specs.Opening.{distinct_keys}
use Rattle.book_parts.proofs.CellChanges.{cell_here}
use Rattle.book_parts.proofs.NewParts.{reflects_unopened}
use Rattle.book_parts.proofs.NextImage.{follows}
use Rattle.book_parts.proofs.OpenedCounts.{CountsOneMore, counts_one_more, may_grow}
use Rattle.book_parts.proofs.OpenedImage.{reflects_image}
use Rattle.book_parts.proofs.OpenedStates.{HasOneMore, one_more, all_flushed}
use Rattle.book_parts.proofs.opening.opened_parts_reflect.Goals as goal

pub returns-clause-empty : goal.returns-clause-empty
returns-clause-empty c = reflects_unopened

pub returns-clause-follows : goal.returns-clause-follows
returns-clause-follows c = follows

pub returns-clause-may : goal.returns-clause-may
returns-clause-may c = λ p index table slots budget slot cell images more image may r f e.
    let counted = length-map image.value.rows (λ (x : Placed). x.row) in
    let some = f.some in
    may_grow p budget slot images more (stored image.value) e.filling image.value.id cell may r (omega (arith, some, counted)) f.above e.begun

pub returns-clause-next : goal.returns-clause-next
returns-clause-next c = λ p index table slots budget slot cell images more image may r f e.
    let x = stored image.value in
    let m : State = opened budget slot images more in
    let n : State = opened budget slot (images ++ x ∷ []) more in
    let keys = distinct_keys x.rows in
    let counted = length-map image.value.rows (λ (y : Placed). y.row) in
    let some = f.some in
    let then_may = may_grow p budget slot images more x e.filling image.value.id cell may r (omega (arith, some, counted)) f.above e.begun in
    let before = all_flushed budget slot images more (c.states_are_sound.ensures.open budget slot images more may) in
    let after = all_flushed budget slot (images ++ x ∷ []) more (c.states_are_sound.ensures.open budget slot (images ++ x ∷ []) more then_may) in
    let d = subst (λ (id : ℕ). HasOneMore m n (storage_of (id, x)) keys) (sym f.id) (one_more budget slot images more x f.above) in
    let g = subst (λ (id : ℕ). CountsOneMore m n (storage_of (id, x)) keys) (sym f.id) (counts_one_more budget slot images more x) in
    let filling : Phase Shared = cells.Filling image.value.id (length image.value.bytes) in
    let before_cells = p.cells.cells in
    let table_is : table ≡ record p.cells { cells = set before_cells cell (cells.Live image.value.id (length image.value.bytes) 0 image) } =
    e.cells
    ∙ ap (λ (t : Table Shared). record t { cells = set t.cells cell (published image (cell_at t.cells cell)) }) e.begun.now
    ∙ ap (λ (phase : Phase Shared). record p.cells { cells = set (set before_cells cell filling) cell (published image phase) }) (cell_here before_cells cell (cell_at before_cells cell) filling e.begun.within refl)
    ∙ ap (λ (phases : List (Phase Shared)). record p.cells { cells = phases }) (set-set before_cells cell filling (published image filling)) in
    subst (λ (t : Table Shared). Reflects (record p { index = index; cells = t; map = slots; roots = n.roots; next_id = length images + 2 }) n) (sym table_is)
    (reflects_image p m n cell image index slots r before after d g e.places e.index e.begun.within e.begun.was_free e.slots refl refl refl refl (length images + 2)
    (omega (arith, length-append images (x ∷ []))))
