use Rattle.std.proofs.Common.{◌≡◌}
use Rattle.turn_lock.specs.Steps.{Rests, SameNumbers}
use Rattle.turn_lock.proofs.waits.wait_free.Given as goal

abbrev pub invariant-loop : goal.invariant-loop
invariant-loop g l = (l.seat.table_id ≡ l.initial.seat.table_id) × Rests l.seat.me × SameNumbers l.initial.seat.me.0 l.seat.me.0 × (l.seat.me.0.seen ≡ l.initial.seat.me.0.seen)
