use Rattle.std.proofs.Common.{rules}
use Rattle.turn_lock.proofs.Calls.{split_new}
use Rattle.turn_lock.proofs.turn.Turn.split.Goals as goal

pub returns-clause-new : goal.returns-clause-new
returns-clause-new g c =
    let old = c.pass.inside.seat in
    let new = c.cut-other.result in
    (search rules, split_new g.V.Standing.bears old.table_id new.table_id old.me c.tell.new.seat.me new.me c.args.share c.pass.invariant.0.live (search rules) c.tell.ensures.told c.cut-other.ensures.new)
