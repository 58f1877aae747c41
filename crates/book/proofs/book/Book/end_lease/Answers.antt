use Rattle.std.proofs.Common.{List, Some, sym, ◌∙◌, subst}
use Rattle.adb_model.specs.State as machine_state
use Rattle.adb_model.specs.State.{State}
use Rattle.adb_model.specs.Leases.{is_lease}
use Rattle.adb_model.specs.Call as machine
use Rattle.adb_model.specs.Call.{Refused}
use Rattle.book_parts.specs.Parts.{Parts}
use Rattle.book_parts.specs.Stands.{Stands, After}
use Rattle.book.specs.Inside.{seen}
use Rattle.book.specs.Leasing.{leases_of}
use Rattle.book.proofs.Leases.{without_none}
use Rattle.book.proofs.book.Book.end_lease.Goals as goal

refused : (c : goal.Then-not-take) (m0 : State) (h : List machine.Event) → Stands (seen c.self.inside) m0 h
    → After (record (seen c.self.inside) { leases = leases_of c.take.new.leases.items }) m0 h c.args.pass (machine.EndLease c.args.max_root) (Some (Refused (machine.NotLeased c.args.max_root)))
refused c m0 h st =
    let none = sym c.take.ensures.there ∙ c.if-not-take.true in
    subst (λ (leases : List machine_state.Lease). After (record (seen c.self.inside) { leases = leases }) m0 h c.args.pass (machine.EndLease c.args.max_root) (Some (Refused (machine.NotLeased c.args.max_root))))
    (sym (c.take.ensures.left ∙ without_none (is_lease c.args.pass c.args.max_root) (leases_of c.self.inside.leases.items) none))
    (c.lease_stands.ensures.none (seen c.self.inside) m0 h c.args.pass c.args.max_root st none)

ended : (c : goal.Else-not-take) (m0 : State) (h : List machine.Event) → Stands (seen c.self.inside) m0 h
    → After (record (seen c.self.inside) { leases = leases_of c.take.new.leases.items }) m0 h c.args.pass (machine.EndLease c.args.max_root) (Some machine.Done)
ended c m0 h st =
    subst (λ (leases : List machine_state.Lease). After (record (seen c.self.inside) { leases = leases }) m0 h c.args.pass (machine.EndLease c.args.max_root) (Some machine.Done))
    (sym c.take.ensures.left)
    (c.lease_stands.ensures.ended (seen c.self.inside) m0 h c.args.pass c.args.max_root st c.requires (sym c.take.ensures.there ∙ c.if-not-take.false))

pub invariant_of-self : goal.invariant_of-self
invariant_of-self c = let i = c.self.invariant in record { start = i.start; history = _; stands = refused c i.start i.history i.stands }

pub returns-then-not-take : goal.returns-then-not-take
returns-then-not-take c = λ m0 h st. refused c m0 h (subst (λ (p : Parts). Stands p m0 h) (sym c.self.view_is) st)

pub invariant_of-self-2 : goal.invariant_of-self-2
invariant_of-self-2 c = let i = c.self.invariant in record { start = i.start; history = _; stands = ended c i.start i.history i.stands }

pub returns : goal.returns
returns c = λ m0 h st. ended c m0 h (subst (λ (p : Parts). Stands p m0 h) (sym c.self.view_is) st)
