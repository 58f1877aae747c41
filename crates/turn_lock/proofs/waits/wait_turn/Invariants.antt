use Rattle.std.proofs.Common.{◌≡◌}
use Rattle.turn_lock.specs.Steps.{Queues, SameNumbers}
use Rattle.turn_lock.proofs.waits.wait_turn.Given as goal

abbrev pub invariant-loop : goal.invariant-loop
invariant-loop g l =
    (goal.iterator-loop g).can_next l.iterator' × (goal.iterator-loop g).is_finite l.iterator'
    × (l.seat.table_id ≡ l.initial.seat.table_id) × Queues l.seat.me l.ticket × SameNumbers l.initial.seat.me.0 l.seat.me.0 × (l.seat.me.0.seen ≡ l.initial.seat.me.0.seen)
