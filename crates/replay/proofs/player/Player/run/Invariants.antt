use Rattle.std.proofs.Common.{List, map, take}
use Rattle.adb_model.specs.State.{State}
use Rattle.adb_model.specs.Call.{Event}
use Rattle.replay.specs.Standing.{PlayerStands, HasMade, asked}
use Rattle.replay.proofs.player.Player.run.Given as goal

-- the calls so far were made
abbrev pub invariant-loop-lane : goal.invariant-loop-lane
invariant-loop-lane g l =
    (start : State) (history : List Event) → PlayerStands l.fn.self start history → HasMade l.self start history (map asked (take l.lane-index l.calls)) l.replies.items
