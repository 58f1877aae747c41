use Rattle.std.proofs.Common.{[], ◌∷◌, ◌++◌, Err, sym, ap, ◌∙◌, subst}
use Rattle.std.proofs.lemmas.Result.{err_from_is_err_and}
use Rattle.adb_model.specs.Call as machine
use Rattle.book_parts.specs.Parts.{Parts}
use Rattle.book_parts.specs.Stands.{Stands}
use Rattle.book_parts.specs.Changes.{rooted_by}
use Rattle.book.specs.Inside.{seen}
use Rattle.book.specs.Replies.{store_reply}
use Rattle.book.proofs.book.Book.store.Goals as goal

pub returns-in-Some : goal.returns-in-Some
returns-in-Some c = λ m0 h pass st.
    c.store_stands.ensures.refused c.args.self.now m0 h pass c.args.slot c.args.key.0 c.args.account.value c.in-Some.newest st
    (ap (λ (p : Parts). rooted_by p.roots c.args.slot) (sym c.self.view_is) ∙ sym c.in-Some.ensures)

pub enter-requires : goal.enter-requires
enter-requires c =
    let i = c.self.invariant in
    c.store_stands.ensures.cached (seen c.self.inside) i.start i.history c.args.slot i.stands (sym c.in_default.ensures)

pub invariant_of-self-2 : goal.invariant_of-self-2
invariant_of-self-2 c =
    let i = c.self.invariant in
    record {
      start = i.start;
      history = i.history ++ record { pass = 1; call = machine.Store c.args.slot c.args.key.0 c.args.account.value; reply = machine.Done } ∷ [];
      stands = c.store_stands.ensures.done (seen c.self.inside) c.enter.new.index c.enter.new.cache i.start i.history 1 c.args.slot c.args.key.0 c.args.account.value i.stands (sym c.in_default.ensures) c.in_ok-enter.ensures.ok;
    }

pub returns : goal.returns
returns c = λ m0 h pass st.
    c.store_stands.ensures.done (seen c.self.inside) c.enter.new.index c.enter.new.cache m0 h pass c.args.slot c.args.key.0 c.args.account.value
    (subst (λ (p : Parts). Stands p m0 h) (sym c.self.view_is) st) (sym c.in_default.ensures) c.in_ok-enter.ensures.ok

pub returns-in_err-enter : goal.returns-in_err-enter
returns-in_err-enter c = λ m0 h pass st.
    let given = err_from_is_err_and c.from_residual.result c.from_residual.ensures.1 in
    let reply = ap store_reply (given.1 ∙ ap Err given.2) in
    let undone = c.store_stands.ensures.undone (seen c.self.inside) c.enter.new.index c.enter.new.cache m0 h
    (subst (λ (p : Parts). Stands p m0 h) (sym c.self.view_is) st) c.in_err-enter.ensures.index c.in_err-enter.ensures.cache in
    rw reply undone
