use Rattle.std.proofs.Common.{ℕ, ◌++◌, ◌∷◌, [], List, Some, sym, subst}
use Rattle.adb_model.specs.State.{State}
use Rattle.adb_model.specs.Call as machine
use Rattle.adb_model.specs.History.{state_after}
use Rattle.book_parts.specs.Parts.{Parts}
use Rattle.book_parts.specs.Cells.{IsImageOf}
use Rattle.book_parts.specs.Flushes.{FlushEnds}
use Rattle.book_parts.specs.Stands.{Stands, After}
use Rattle.flush_plan.specs.Jobs.{storage_of, IsOpenJob}
use Rattle.book.specs.Inside.{seen}
use Rattle.book.proofs.book.Book.flush_end.Goals as goal

-- what the call leaves, from each history for which the book stood
ended : (c : goal.After-drop-filled) (m0 : State) (h : List machine.Event) (pass : ℕ) → Stands (seen c.self.inside) m0 h → IsOpenJob c.args.job (state_after m0 h)
    → After (record (seen c.self.inside) { index = c.end.new.index; cache = c.end.new.cache; cells = c.end.new.cells; map = c.end.new.map }) m0 h pass
    (machine.FlushEnd c.args.job.slot) (Some machine.Done)
ended c m0 h pass st job_open =
    let p = seen c.self.inside in
    let job = c.args.job in
    let sealed = c.args.filled.sealed in
    let places = c.args.filled.places.items in
    let fills = c.requires.filled in
    let may = c.flush_end_stands.ensures.may p m0 h job.slot (storage_of job) st job_open in
    let image : IsImageOf (storage_of job) sealed.value = record {
      slot = fills.slot_is;
      id = fills.id_is;
      rows = c.filled_rows_are_the_same.ensures.same job.slot job.id job.rows sealed.value places fills may.1.differ;
    } in
    let ends = subst (λ (ps : List ℕ). FlushEnds job.slot may.0 job.rows sealed ps p.cache c.end.new.cache p.index c.end.new.index p.cells c.end.new.cells p.map c.end.new.map)
    c.deref.ensures.value (c.end.ensures.parts may.0 may.1) in
    c.flush_end_stands.ensures.done p m0 h pass job.slot may.0 (storage_of job) sealed places c.end.new.cache c.end.new.index c.end.new.cells c.end.new.map st job_open may.1 image fills.at_places ends

pub invariant_of-self : goal.invariant_of-self
invariant_of-self c =
    let r = c.requires.open in
    let st = subst (λ (p : Parts). Stands p r.0 r.1) (sym c.self.view_is) r.2 in
    record {
      start = r.0;
      history = r.1 ++ record { pass = 1; call = machine.FlushEnd c.args.job.slot; reply = machine.Done } ∷ [];
      stands = ended c r.0 r.1 1 st r.3;
    }

pub returns : goal.returns
returns c = λ m0 h pass st job_open. ended c m0 h pass (subst (λ (p : Parts). Stands p m0 h) (sym c.self.view_is) st) job_open
