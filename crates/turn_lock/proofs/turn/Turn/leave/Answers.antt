use Rattle.std.proofs.Common.{ap}
use Rattle.turn_lock.proofs.Calls.{left_mine}
use Rattle.turn_lock.proofs.turn.Turn.leave.Goals as goal

pub returns-clause-mine : goal.returns-clause-mine
returns-clause-mine g c =
    let old = c.hold.inside.seat in
    let new = c.pass_on.new.seat in
    left_mine g.V.Standing.bears old.table_id new.table_id old.me new.me _ _ (ap (λ h. h.pass) c.hold.view_is) c.pass_on.ensures.passed c.requires.own
