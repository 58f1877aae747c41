use Rattle.std.proofs.Common.{rules}
use Rattle.turn_lock.proofs.Splitting.{joins}
use Rattle.turn_lock.proofs.steps.unite.Goals as goal

pub join_seat-requires : goal.join_seat-requires
join_seat-requires g c =
    let r = c.requires.rests.0 in
    let o = c.requires.rests.1 in
    (c.requires.table.0, c.requires.table.1, o.bare, search rules, joins _ _ _ _ _ _ _ r.live r.free r.idle o.live o.free o.idle)
