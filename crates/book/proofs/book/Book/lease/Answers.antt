use Rattle.std.proofs.Common.{List, [], ◌∷◌, ◌++◌, sym, subst, arith}
use Rattle.adb_model.specs.State as machine_state
use Rattle.adb_model.specs.State.{State}
use Rattle.adb_model.specs.Call as machine
use Rattle.book_parts.specs.Parts.{Parts}
use Rattle.book_parts.specs.Stands.{Stands}
use Rattle.book.specs.Inside.{seen}
use Rattle.book.proofs.book.Book.lease.Goals as goal

pub invariant_of-self-2 : goal.invariant_of-self-2
invariant_of-self-2 c =
    let i = c.self.invariant in
    let history = i.history ++ record { pass = c.args.pass; call = machine.Lease c.args.max_root; reply = machine.Done } ∷ [] in
    record {
      start = i.start;
      history = history;
      stands = subst (λ (leases : List machine_state.Lease). Stands (record (seen c.self.inside) { leases = leases }) i.start history) (sym c.in_ok-put.ensures.ok)
          (c.lease_stands.ensures.done (seen c.self.inside) i.start i.history c.args.pass c.args.max_root i.stands c.requires (omega arith));
    }

pub returns : goal.returns
returns c = λ m0 h st.
    let history = h ++ record { pass = c.args.pass; call = machine.Lease c.args.max_root; reply = machine.Done } ∷ [] in
    subst (λ (leases : List machine_state.Lease). Stands (record (seen c.self.inside) { leases = leases }) m0 history) (sym c.in_ok-put.ensures.ok)
    (c.lease_stands.ensures.done (seen c.self.inside) m0 h c.args.pass c.args.max_root (subst (λ (p : Parts). Stands p m0 h) (sym c.self.view_is) st) c.requires (omega arith))
