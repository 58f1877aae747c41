use Rattle.std.proofs.Common.{sym, subst, option_map}
use Rattle.adb_model.specs.History.{state_after}
use Rattle.book_parts.specs.Parts.{Parts}
use Rattle.book_parts.specs.Stands.{Stands}
use Rattle.book_parts.specs.Keys.{IsNextKey}
use Rattle.book.specs.Inside.{seen}
use Rattle.book.proofs.book.Book.key_after.Goals as goal

pub returns : goal.returns
returns c = λ m0 h st.
    let after = option_map (λ k. k.now.0) c.args.after in
    subst (IsNextKey (state_after m0 h) after) (sym c.key_after.ensures.first)
    (c.next_key_stands.ensures (seen c.self.inside) m0 h after (subst (λ (p : Parts). Stands p m0 h) (sym c.self.view_is) st) c.key_after.ensures.rise)
