use Rattle.std.proofs.Common.{ℕ, List, Some, sym, ◌∙◌, subst}
use Rattle.adb_model.specs.State.{State}
use Rattle.adb_model.specs.Call as machine
use Rattle.adb_model.specs.History.{state_after}
use Rattle.book_parts.specs.Parts.{Parts}
use Rattle.book_parts.specs.Cells.{IsImageOf}
use Rattle.book_parts.specs.Shrinks.{IsOpenCopy, ShrinkInstalls, storage_of}
use Rattle.book_parts.specs.Stands.{Stands, After}
use Rattle.book.specs.Inside.{seen}
use Rattle.book.proofs.book.Book.shrink_end.Goals as goal

pub end-is_installed-requires-clause-open : goal.end-is_installed-requires-clause-open
end-is_installed-requires-clause-open c =
    let r = c.requires.open in
    c.shrink_end_stands.ensures.may (seen c.self.inside) r.0 r.1 c.args.job (subst (λ (p : Parts). Stands p r.0 r.1) (sym c.self.view_is) r.2) r.3

-- ---- in time

-- what the call leaves, from each history for which the book stood
ended : (c : goal.After-drop-filled) (m0 : State) (h : List machine.Event) (pass : ℕ) → Stands (seen c.self.inside) m0 h → IsOpenCopy c.args.job (state_after m0 h)
    → After (record (seen c.self.inside) { index = c.end-is_installed.new.index; cells = c.end-is_installed.new.cells; map = c.end-is_installed.new.map }) m0 h pass
    (machine.ShrinkEnd c.args.job.slot) (Some machine.Done)
ended c m0 h pass st job_open =
    let p = seen c.self.inside in
    let job = c.args.job in
    let sealed = c.args.filled.sealed in
    let places = c.args.filled.places.items in
    let fills = c.requires.filled in
    let new = c.end-is_installed.new in
    let may = c.shrink_end_stands.ensures.may p m0 h job st job_open in
    let image : IsImageOf (storage_of job) sealed.value = record {
      slot = fills.slot_is;
      id = fills.id_is;
      rows = c.filled_rows_are_the_same.ensures.same job.slot job.id job.rows sealed.value places fills may.2.differ;
    } in
    let there = sym (c.end-is_installed.ensures.current may.0 may.1 may.2) ∙ c.if-is_installed.true in
    let installs = subst (λ (ps : List ℕ). ShrinkInstalls job may.0 may.1 sealed ps p.index new.index p.cells new.cells p.map new.map)
    c.deref.ensures.value (c.end-is_installed.ensures.installed may.0 may.1 may.2 c.if-is_installed.true) in
    c.shrink_end_stands.ensures.done p m0 h pass job may.0 may.1 sealed places new.index new.cells new.map st job_open may.2 there image fills.at_places installs

pub invariant_of-self : goal.invariant_of-self
invariant_of-self c =
    let r = c.requires.open in
    record { start = r.0; history = _; stands = ended c r.0 r.1 1 (subst (λ (p : Parts). Stands p r.0 r.1) (sym c.self.view_is) r.2) r.3 }

pub returns-then-is_installed : goal.returns-then-is_installed
returns-then-is_installed c = λ m0 h pass st job_open. ended c m0 h pass (subst (λ (p : Parts). Stands p m0 h) (sym c.self.view_is) st) job_open

-- ---- too late

too_late : (c : goal.After-drop-filled-2) (m0 : State) (h : List machine.Event) (pass : ℕ) → Stands (seen c.self.inside) m0 h → IsOpenCopy c.args.job (state_after m0 h)
    → After (record (seen c.self.inside) { index = c.end-is_installed.new.index; cells = c.end-is_installed.new.cells; map = c.end-is_installed.new.map }) m0 h pass
    (machine.ShrinkEnd c.args.job.slot) (Some (machine.Superseded c.args.job.slot c.args.job.old))
too_late c m0 h pass st job_open =
    let p = seen c.self.inside in
    let job = c.args.job in
    let new = c.end-is_installed.new in
    let may = c.shrink_end_stands.ensures.may p m0 h job st job_open in
    let gone = sym (c.end-is_installed.ensures.current may.0 may.1 may.2) ∙ c.if-is_installed.false in
    let left = c.end-is_installed.ensures.superseded may.0 may.1 may.2 c.if-is_installed.false in
    c.shrink_end_stands.ensures.superseded p m0 h pass job may.0 may.1 new.index new.cells new.map st job_open may.2 gone left.0 left.1

pub invariant_of-self-2 : goal.invariant_of-self-2
invariant_of-self-2 c =
    let r = c.requires.open in
    record { start = r.0; history = _; stands = too_late c r.0 r.1 1 (subst (λ (p : Parts). Stands p r.0 r.1) (sym c.self.view_is) r.2) r.3 }

pub returns : goal.returns
returns c = λ m0 h pass st job_open.
    let told = too_late c m0 h pass (subst (λ (p : Parts). Stands p m0 h) (sym c.self.view_is) st) job_open in
    subst (λ (slot : ℕ). After (record (seen c.self.inside) { index = c.end-is_installed.new.index; cells = c.end-is_installed.new.cells; map = c.end-is_installed.new.map }) m0 h pass
    (machine.ShrinkEnd c.args.job.slot) (Some (machine.Superseded slot c.old-old.result))) (sym c.slot-slot.ensures)
    (subst (λ (old : ℕ). After (record (seen c.self.inside) { index = c.end-is_installed.new.index; cells = c.end-is_installed.new.cells; map = c.end-is_installed.new.map }) m0 h pass
    (machine.ShrinkEnd c.args.job.slot) (Some (machine.Superseded c.args.job.slot old))) (sym c.old-old.ensures) told)
