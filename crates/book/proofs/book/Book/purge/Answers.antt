use Rattle.std.proofs.Common.{[], ◌∷◌, ◌++◌, sym, ap, ◌∙◌, subst}
use Rattle.adb_model.specs.Lists.{among}
use Rattle.adb_model.specs.Call as machine
use Rattle.book_parts.specs.Parts.{Parts}
use Rattle.book_parts.specs.Stands.{Stands}
use Rattle.book.specs.Inside.{seen}
use Rattle.book.proofs.book.Book.purge.Goals as goal

pub returns-then-contains : goal.returns-then-contains
returns-then-contains c = λ m0 h pass st.
    c.purge_stands.ensures.refused c.args.self.now m0 h pass c.args.slot st (ap (λ (p : Parts). among c.args.slot p.roots) (sym c.self.view_is) ∙ sym c.if-contains.ensures)

pub leave-requires-clause-agree : goal.leave-requires-clause-agree
leave-requires-clause-agree c =
    let i = c.self.invariant in
    c.purge_stands.ensures.agree (seen c.self.inside) i.start i.history c.args.slot i.stands (sym c.if-contains.ensures)

pub leave-requires-clause-differ : goal.leave-requires-clause-differ
leave-requires-clause-differ c =
    let i = c.self.invariant in
    c.purge_stands.ensures.differ (seen c.self.inside) i.start i.history c.args.slot i.stands

pub invariant_of-self : goal.invariant_of-self
invariant_of-self c =
    let i = c.self.invariant in
    record {
      start = i.start;
      history = i.history ++ record { pass = 1; call = machine.Purge c.args.slot; reply = machine.Purged c.leave.result } ∷ [];
      stands = c.purge_stands.ensures.done (seen c.self.inside) c.leave.new.index c.leave.new.cache i.start i.history 1 c.args.slot c.leave.result i.stands (sym c.if-contains.ensures) c.leave.ensures;
    }

pub returns : goal.returns
returns c = λ m0 h pass st.
    c.purge_stands.ensures.done (seen c.self.inside) c.leave.new.index c.leave.new.cache m0 h pass c.args.slot c.leave.result
    (subst (λ (p : Parts). Stands p m0 h) (sym c.self.view_is) st) (sym c.if-contains.ensures) c.leave.ensures
