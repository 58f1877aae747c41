use Rattle.std.proofs.Common.{◌≡◌, ℕ, List, [], Option, map, take}
use Rattle.std.specs.Prelude.{IsTrue}
use Rattle.dir_io.specs.Files.{Files}
use Rattle.script.specs.Seen.{line_seen}
use Rattle.replay.specs.Playing.{HasPlayed}
use Rattle.replay.proofs.lines.play_lines.Given as goal

-- the lines so far were played
abbrev pub invariant-loop-line : goal.invariant-loop-line
invariant-loop-line g l = record {
  played : (files : Option Files) (before : Option (List ℕ)) (budget : Option ℕ) (opened : Option (List ℕ))
      → HasPlayed l.fn.player files (g.D.Dir.files l.fn.dir) before (g.K.Sink.taken l.fn.sink) (record { budget = budget; opened = opened; lines = [] })
      → HasPlayed l.player files (g.D.Dir.files l.dir) before (g.K.Sink.taken l.sink) (record { budget = budget; opened = opened; lines = map line_seen (take l.line-index l.lines) });
  sink_kept : g.K.Sink.faults l.sink ≡ g.K.Sink.faults l.fn.sink;
  dir_kept : g.D.Dir.faults l.dir ≡ g.D.Dir.faults l.fn.dir;
  synced : IsTrue (g.D.Dir.synced l.fn.dir) → IsTrue (g.D.Dir.synced l.dir);
}
