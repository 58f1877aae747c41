use Rattle.std.proofs.Common.{◌≡◌, ℕ, List, map, Option, sym, subst, ◌∙◌, arith}
use Rattle.script.specs.Seen.{line_seen, script_seen}
use Rattle.script.specs.declared.line.Line as code
use Rattle.replay.specs.Ending.{HaltsLines, EndsBy}
use Rattle.replay.specs.Playing.{HasPlayed}
use Rattle.replay.specs.Journaled.{PlayedAll}
use Rattle.replay.proofs.Ends.{by_end, lines_halted, not_done}
use Rattle.replay.proofs.running.play_script.Goals as goal

pub returns-in-Ok-clause-ends : goal.returns-in-Ok-clause-ends
returns-in-Ok-clause-ends g c files before has =
    let said = script_seen c.args.script.now in
    let counts = c.in-Ok.ensures.counts in
    by_end files (g.D.Dir.files c.play_lines.new.dir) before (g.K.Sink.taken c.play_lines.new.sink) (g.K.Sink.faults c.args.sink.now) (g.K.Sink.faults c.play_lines.new.sink)
    (g.D.Dir.faults c.args.dir.now) (g.D.Dir.faults c.play_lines.new.dir) said
    (subst (λ (ls : List code.Line). PlayedAll files (g.D.Dir.files c.play_lines.new.dir) before (g.K.Sink.taken c.play_lines.new.sink) (record { budget = said.budget; opened = said.opened; lines = map line_seen ls })) c.deref.ensures.value
    (c.in-Ok.ensures.ok files before said.budget said.opened has).done)
    counts.done.0 counts.done.1

pub returns-in-Err-clause-ends : goal.returns-in-Err-clause-ends
returns-in-Err-clause-ends g c files before has =
    let said = script_seen c.args.script.now in
    let counts = c.in-Err.ensures.counts in
    let halt = c.in-Err.halt in
    let f = g.D.Dir.files c.play_lines.new.dir in
    let b = g.K.Sink.taken c.play_lines.new.sink in
    let why = subst (λ (ls : List code.Line). HaltsLines files f before b (record { budget = said.budget; opened = said.opened; lines = map line_seen ls }) halt) c.deref.ensures.value (c.in-Err.ensures.err files before said.budget said.opened has) in
    let ends = lines_halted files f before b (g.K.Sink.taken c.end_halted.new.sink) (g.K.Sink.faults c.args.sink.now) (g.K.Sink.faults c.play_lines.new.sink) (g.K.Sink.faults c.end_halted.new.sink)
    (g.D.Dir.faults c.args.dir.now) (g.D.Dir.faults c.play_lines.new.dir) said counts.sink_later c.end_halted.ensures.later counts.dir_later halt why counts.halted c.end_halted.ensures.ends in
    subst (λ (n : ℕ). EndsBy files f before (g.K.Sink.taken c.end_halted.new.sink) (g.K.Sink.faults c.args.sink.now) (g.K.Sink.faults c.end_halted.new.sink) (g.D.Dir.faults c.args.dir.now) (g.D.Dir.faults c.play_lines.new.dir) said n)
    (sym c.end_halted.ensures.status) ends

pub returns-in-Err-clause-synced : goal.returns-in-Err-clause-synced
returns-in-Err-clause-synced g c zero = absurd (not_done c.in-Err.halt (sym c.end_halted.ensures.status ∙ zero))
