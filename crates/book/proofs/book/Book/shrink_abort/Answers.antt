use Rattle.std.proofs.Common.{ℕ, List, Some, sym, subst}
use Rattle.adb_model.specs.State.{State}
use Rattle.adb_model.specs.Call as machine
use Rattle.adb_model.specs.History.{state_after}
use Rattle.book_parts.specs.Parts.{Parts}
use Rattle.book_parts.specs.Shrinks.{IsOpenCopy}
use Rattle.book_parts.specs.Stands.{Stands, After}
use Rattle.book.specs.Inside.{seen}
use Rattle.book.proofs.book.Book.shrink_abort.Goals as goal

pub abort-requires : goal.abort-requires
abort-requires c =
    let r = c.requires in
    c.shrink_end_stands.ensures.may (seen c.self.inside) r.0 r.1 c.args.job (subst (λ (p : Parts). Stands p r.0 r.1) (sym c.self.view_is) r.2) r.3

-- what the call leaves, from each history for which the book stood
given_up : (c : goal.After-abort) (m0 : State) (h : List machine.Event) (pass : ℕ) → Stands (seen c.self.inside) m0 h → IsOpenCopy c.args.job (state_after m0 h)
    → After (record (seen c.self.inside) { cells = c.abort.new.cells; map = c.abort.new.map }) m0 h pass (machine.ShrinkAbort c.args.job.slot) (Some machine.Done)
given_up c m0 h pass st job_open =
    let p = seen c.self.inside in
    let job = c.args.job in
    let may = c.shrink_end_stands.ensures.may p m0 h job st job_open in
    c.shrink_end_stands.ensures.dropped p m0 h pass job may.0 may.1 c.abort.new.cells c.abort.new.map st job_open may.2 (c.abort.ensures.parts may.0 may.1 may.2)

pub invariant_of-self : goal.invariant_of-self
invariant_of-self c =
    let r = c.requires in
    let st = subst (λ (p : Parts). Stands p r.0 r.1) (sym c.self.view_is) r.2 in
    record { start = r.0; history = _; stands = given_up c r.0 r.1 1 st r.3 }

pub returns : goal.returns
returns c = λ m0 h pass st job_open. given_up c m0 h pass (subst (λ (p : Parts). Stands p m0 h) (sym c.self.view_is) st) job_open
