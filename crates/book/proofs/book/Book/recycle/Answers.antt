use Rattle.std.proofs.Common.{ℕ, List, Some, sym, subst}
use Rattle.adb_model.specs.State.{State}
use Rattle.adb_model.specs.Call as machine
use Rattle.book_parts.specs.Parts.{Parts}
use Rattle.book_parts.specs.Stands.{Stands, After}
use Rattle.book.specs.Inside.{seen}
use Rattle.book.proofs.book.Book.recycle.Goals as goal

-- what the call leaves, from each history for which the book stood
freed : (c : goal.After-recycle) (m0 : State) (h : List machine.Event) (pass : ℕ) → Stands (seen c.self.inside) m0 h
    → After (record (seen c.self.inside) { cells = c.recycle.new.self }) m0 h pass machine.Recycle (Some (machine.Recycled c.recycle.result))
freed c m0 h pass st =
    let p = seen c.self.inside in
    let cells = c.recycle.new.self in
    subst (λ (n : ℕ). After (record p { cells = cells }) m0 h pass machine.Recycle (Some (machine.Recycled n))) (sym c.recycle.ensures.freed)
    (c.recycle_stands.ensures p m0 h pass cells st c.recycle.ensures.cells)

pub invariant_of-self : goal.invariant_of-self
invariant_of-self c = let i = c.self.invariant in record { start = i.start; history = _; stands = freed c i.start i.history 1 i.stands }

pub returns : goal.returns
returns c = λ m0 h pass st. freed c m0 h pass (subst (λ (p : Parts). Stands p m0 h) (sym c.self.view_is) st)
