use Rattle.std.proofs.Common.{ℕ, List, Some, option_map, sym, subst}
use Rattle.adb_model.specs.State.{State}
use Rattle.adb_model.specs.Call as machine
use Rattle.adb_model.specs.History.{state_after}
use Rattle.book_parts.specs.Parts.{Parts}
use Rattle.book_parts.specs.Stands.{Stands, After}
use Rattle.clean_plan.specs.Leaving.{StandWith}
use Rattle.book.specs.Inside.{seen}
use Rattle.book.specs.Replies.{reclaim_reply}
use Rattle.book.proofs.book.Book.reclaim.Goals as goal

pub reclaim-requires-clause-parts : goal.reclaim-requires-clause-parts
reclaim-requires-clause-parts c =
    let p = seen c.self.inside in
    let i = c.self.invariant in
    (p, state_after i.start i.history, record { midway = c.reclaim_stands.ensures.midway p i.start i.history i.stands; parts = i.stands.parts })

-- what the call leaves, from each history for which the book stood
reclaimed : (c : goal.After-reclaim) (m0 : State) (h : List machine.Event) (pass : ℕ) → Stands (seen c.self.inside) m0 h
    → After (record (seen c.self.inside) { index = c.reclaim.new.index; cells = c.reclaim.new.cells; map = c.reclaim.new.map }) m0 h pass
    (machine.Reclaim (option_map (λ k. k.now.0) c.args.after) c.args.most) (Some (reclaim_reply (option_map (λ k. k.0) c.reclaim.result)))
reclaimed c m0 h pass st =
    let p = seen c.self.inside in
    let m = state_after m0 h in
    let stand : StandWith p p.index p.cells p.map m = record { midway = c.reclaim_stands.ensures.midway p m0 h st; parts = st.parts } in
    let new = record p { index = c.reclaim.new.index; cells = c.reclaim.new.cells; map = c.reclaim.new.map } in
    c.reclaim_stands.ensures.done p new m0 h pass c.args.most (option_map (λ k. k.now.0) c.args.after) (option_map (λ k. k.0) c.reclaim.result) st
    (c.reclaim.ensures.last p m stand) (c.reclaim.ensures.parts p m stand).parts

pub invariant_of-self : goal.invariant_of-self
invariant_of-self c = let i = c.self.invariant in record { start = i.start; history = _; stands = reclaimed c i.start i.history 1 i.stands }

pub returns-clause-stands : goal.returns-clause-stands
returns-clause-stands c = λ m0 h pass st. reclaimed c m0 h pass (subst (λ (p : Parts). Stands p m0 h) (sym c.self.view_is) st)
