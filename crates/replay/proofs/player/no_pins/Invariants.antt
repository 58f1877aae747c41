use Rattle.std.proofs.Common.{◌-◌}
use Rattle.replay.proofs.NoPins.{FirstHaveNone}
use Rattle.replay.proofs.player.no_pins.Given as goal

-- the lanes so far have no pins
abbrev pub invariant-loop-lane : goal.invariant-loop-lane
invariant-loop-lane l = FirstHaveNone (l.lane - 1) l.pins.items
