use Rattle.std.proofs.Common.{◌≡◌}
use Rattle.turn_lock.specs.Steps.{Rests, SameNumbers}
use Rattle.turn_lock.proofs.waits.spin.Given as goal

abbrev pub invariant-loop-look : goal.invariant-loop-look
invariant-loop-look g l = (l.seat.table_id ≡ l.initial.seat.table_id) × Rests l.seat.me × SameNumbers l.initial.seat.me.0 l.seat.me.0 × (l.seat.me.0.seen ≡ l.initial.seat.me.0.seen)
