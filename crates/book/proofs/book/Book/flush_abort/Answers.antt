use Rattle.std.proofs.Common.{ℕ, ◌++◌, ◌∷◌, [], List, Some, sym, subst}
use Rattle.adb_model.specs.State.{State}
use Rattle.adb_model.specs.Call as machine
use Rattle.adb_model.specs.History.{state_after}
use Rattle.book_parts.specs.Parts.{Parts}
use Rattle.book_parts.specs.Stands.{Stands, After}
use Rattle.flush_plan.specs.Jobs.{storage_of, IsOpenJob}
use Rattle.book.specs.Inside.{seen}
use Rattle.book.proofs.book.Book.flush_abort.Goals as goal

-- what the call leaves, from each history for which the book stood
given_up : (c : goal.After-abort) (m0 : State) (h : List machine.Event) (pass : ℕ) → Stands (seen c.self.inside) m0 h → IsOpenJob c.args.job (state_after m0 h)
    → After (record (seen c.self.inside) { index = c.abort.new.index; cells = c.abort.new.cells; map = c.abort.new.map }) m0 h pass
    (machine.FlushAbort c.args.job.slot) (Some machine.Done)
given_up c m0 h pass st job_open =
    let p = seen c.self.inside in
    let job = c.args.job in
    let may = c.flush_end_stands.ensures.may p m0 h job.slot (storage_of job) st job_open in
    c.flush_end_stands.ensures.dropped p m0 h pass job.slot may.0 (storage_of job) c.abort.new.index c.abort.new.cells c.abort.new.map st job_open may.1 (c.abort.ensures.parts may.0 may.1)

pub invariant_of-self : goal.invariant_of-self
invariant_of-self c =
    let r = c.requires in
    let st = subst (λ (p : Parts). Stands p r.0 r.1) (sym c.self.view_is) r.2 in
    record {
      start = r.0;
      history = r.1 ++ record { pass = 1; call = machine.FlushAbort c.args.job.slot; reply = machine.Done } ∷ [];
      stands = given_up c r.0 r.1 1 st r.3;
    }

pub returns : goal.returns
returns c = λ m0 h pass st job_open. given_up c m0 h pass (subst (λ (p : Parts). Stands p m0 h) (sym c.self.view_is) st) job_open
