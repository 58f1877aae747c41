use Rattle.std.proofs.Common.{subst}
use Rattle.turn_lock.specs.Passes.{Joins}
use Rattle.turn_lock.specs.Steps.{state_of}
use Rattle.turn_lock.proofs.Calls.{joins_of}
use Rattle.turn_lock.proofs.turn.Turn.join.Goals as goal

pub returns-clause-joins : goal.returns-clause-joins
returns-clause-joins g c =
    let v = c.pass.inside.seat in
    let w = c.other.inside.seat in
    let n = c.tell.new.seat in
    subst (λ p. Joins g.V.Standing.bears p c.args.other (state_of n.table_id n.me.0)) c.pass.view_is
    (subst (λ o. Joins g.V.Standing.bears (state_of v.table_id v.me.0) o (state_of n.table_id n.me.0)) c.other.view_is (joins_of g.V.Standing.bears v.table_id w.table_id n.table_id v.me.0 w.me.0 c.unite.new.seat.me n.me c.unite.ensures.both c.tell.ensures.told))
