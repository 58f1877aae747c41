use Rattle.std.proofs.Common.{ℕ, List, [], ◌∷◌, ◌++◌, sym, ap, ◌∙◌, subst}
use Rattle.adb_model.specs.Call as machine
use Rattle.book_parts.specs.Parts.{Parts}
use Rattle.book_parts.specs.Stands.{Stands}
use Rattle.book_parts.specs.Changes.{rooted_by}
use Rattle.book.specs.Inside.{seen}
use Rattle.book.proofs.Slots.{above_newest}
use Rattle.book.proofs.book.Book.root.Goals as goal

pub returns-in-Some : goal.returns-in-Some
returns-in-Some c = λ m0 h pass st.
    c.root_stands.ensures.refused c.args.self.now m0 h pass c.args.slot c.in-Some.newest st
    (ap (λ (p : Parts). rooted_by p.roots c.args.slot) (sym c.self.view_is) ∙ sym c.in-Some.ensures)

pub add-requires : goal.add-requires
add-requires c = above_newest c.self.inside.roots c.args.slot (sym c.in_default.ensures)

pub invariant_of-self-2 : goal.invariant_of-self-2
invariant_of-self-2 c =
    let i = c.self.invariant in
    let history = i.history ++ record { pass = 1; call = machine.Root c.args.slot; reply = machine.Done } ∷ [] in
    record {
      start = i.start;
      history = history;
      stands = subst (λ (roots : List ℕ). Stands (record (seen c.self.inside) { roots = roots }) i.start history) (sym c.in_ok-add.ensures.ok)
          (c.root_stands.ensures.done (seen c.self.inside) i.start i.history 1 c.args.slot i.stands (sym c.in_default.ensures));
    }

pub returns : goal.returns
returns c = λ m0 h pass st.
    let history = h ++ record { pass = pass; call = machine.Root c.args.slot; reply = machine.Done } ∷ [] in
    subst (λ (roots : List ℕ). Stands (record (seen c.self.inside) { roots = roots }) m0 history) (sym c.in_ok-add.ensures.ok)
    (c.root_stands.ensures.done (seen c.self.inside) m0 h pass c.args.slot (subst (λ (p : Parts). Stands p m0 h) (sym c.self.view_is) st) (sym c.in_default.ensures))
