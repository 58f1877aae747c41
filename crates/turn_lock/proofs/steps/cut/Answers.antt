use Rattle.std.proofs.Common.{rules, sym, subst, ◌<◌, ℕ}
use Rattle.turn_lock.proofs.Splitting.{splits}
use Rattle.turn_lock.proofs.steps.cut.Goals as goal

pub split_seat-requires : goal.split_seat-requires
split_seat-requires g c =
    let r = c.requires.rests in
    (c.requires.table.0, search rules, splits _ _ _ _ _ _ r.live r.free r.idle r.whole (subst (λ (k : ℕ). k < c.args.seat.now.me.0.stock.1) (sym c.requires.share.0) c.requires.share.1))
