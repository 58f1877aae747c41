use Rattle.std.proofs.Common.{◌≡◌, ℕ, List, map, Option, sym, subst, ◌∙◌, arith}
use Rattle.std.specs.Str.Lines.{lines}
use Rattle.script.specs.Grammar.{spoken}
use Rattle.script.specs.Seen.{script_seen}
use Rattle.replay.specs.Ending.{EndsBy}
use Rattle.replay.proofs.Ends.{header_halted, not_done}
use Rattle.replay.proofs.Scripts.{are_playable}
use Rattle.replay.proofs.running.run_to_end.Goals as goal

pub play_script-status-requires : goal.play_script-status-requires
play_script-status-requires g c =
    let said = script_seen c.args.script.now in
    are_playable (spoken (lines c.requires.0)) said.budget said.opened c.args.script.now.lines.items c.requires.1

pub returns-in-Err-clause-ends : goal.returns-in-Err-clause-ends
returns-in-Err-clause-ends g c =
    let said = script_seen c.args.script.now in
    let counts = c.in-Err.ensures.counts in
    let halt = c.in-Err.halt in
    let f = g.D.Dir.files c.args.dir.now in
    let h = g.D.Dir.files c.begin_script.new.dir in
    let a = g.K.Sink.taken c.args.sink.now in
    let ends = header_halted f h a (g.K.Sink.taken c.begin_script.new.sink) (g.K.Sink.taken c.end_halted.new.sink) (g.K.Sink.faults c.args.sink.now) (g.K.Sink.faults c.begin_script.new.sink) (g.K.Sink.faults c.end_halted.new.sink)
    (g.D.Dir.faults c.args.dir.now) (g.D.Dir.faults c.begin_script.new.dir) said counts.sink_later c.end_halted.ensures.later counts.dir_later halt c.in-Err.ensures.err counts.halted c.end_halted.ensures.ends in
    subst (λ (n : ℕ). EndsBy f h a (g.K.Sink.taken c.end_halted.new.sink) (g.K.Sink.faults c.args.sink.now) (g.K.Sink.faults c.end_halted.new.sink) (g.D.Dir.faults c.args.dir.now) (g.D.Dir.faults c.begin_script.new.dir) said n)
    (sym c.end_halted.ensures.status) ends

pub returns-clause-ends : goal.returns-clause-ends
returns-clause-ends g c =
    let said = script_seen c.args.script.now in
    let counts = c.in-Ok.ensures.counts in
    let f = g.D.Dir.files c.args.dir.now in
    let h = g.D.Dir.files c.play_script-status.new.dir in
    let a = g.K.Sink.taken c.args.sink.now in
    let d = g.K.Sink.taken c.play_script-status.new.sink in
    let k' = g.K.Sink.faults c.play_script-status.new.sink in
    let d' = g.D.Dir.faults c.play_script-status.new.dir in
    subst (λ (n : ℕ). EndsBy f h a d n k' (g.D.Dir.faults c.args.dir.now) d' said c.play_script-status.result) counts.done.0
    (subst (λ (n : ℕ). EndsBy f h a d (g.K.Sink.faults c.begin_script.new.sink) k' n d' said c.play_script-status.result) counts.done.1
    (c.play_script-status.ensures.ends f a c.in-Ok.ensures.ok))

pub returns-in-Err-clause-synced : goal.returns-in-Err-clause-synced
returns-in-Err-clause-synced g c zero = absurd (not_done c.in-Err.halt (sym c.end_halted.ensures.status ∙ zero))

pub returns-clause-synced : goal.returns-clause-synced
returns-clause-synced g c zero was = c.play_script-status.ensures.synced zero (c.in-Ok.ensures.synced ∙ was)
