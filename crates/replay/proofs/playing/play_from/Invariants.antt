use Rattle.std.proofs.Common.{◌≡◌, ℕ, List, Option, Some, length}
use Rattle.accounts_index.specs.Index.{crowded_after}
use Rattle.adb_model.specs.State.{State}
use Rattle.adb_model.specs.Call.{Event}
use Rattle.adb_model.specs.Plays.{next_call}
use Rattle.adb_model.specs.Seen.{reply_of}
use Rattle.script.specs.Said.{order_played, line_played}
use Rattle.script.specs.Seen.{line_seen, order_seen}
use Rattle.replay.specs.Standing.{PlayerStands}
use Rattle.replay.proofs.LineCalls.{PlayedSoFar}
use Rattle.replay.proofs.NextCalls.{calls_left}
use Rattle.replay.proofs.playing.play_from.Given as goal

-- some of the line's calls were made
abbrev pub invariant-loop-call : goal.invariant-loop-call
invariant-loop-call g l = record {
  played : (start : State) (history : List Event) → PlayerStands l.fn.player start history
      → PlayedSoFar l.player start history (g.K.Sink.taken l.fn.sink) (g.K.Sink.taken l.sink) (line_played (line_seen l.line)) (Some (reply_of l.reply));
  kept : g.K.Sink.faults l.sink ≡ g.K.Sink.faults l.fn.sink;
}

-- fewer calls are left each time
abbrev pub decreases-loop-call : goal.decreases-loop-call
decreases-loop-call g l = calls_left (λ after. length (crowded_after l.player.book.index after)) (next_call (order_played (order_seen l.line.order)) (Some (reply_of l.reply)))
