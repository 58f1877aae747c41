use Rattle.std.proofs.Common.{List, map, take, refl, subst, ◌∙◌, arith}
use Rattle.std.proofs.lemmas.Result.{err_from_is_err_and}
use Rattle.std.proofs.lemmas.List.{take_all}
use Rattle.script.specs.Said.{Line}
use Rattle.script.specs.Seen.{line_seen}
use Rattle.replay.specs.Playing.{HasPlayed}
use Rattle.replay.proofs.Scripts.{are_named}
use Rattle.replay.proofs.ScriptLines.{line_played, line_halted}
use Rattle.replay.proofs.Snapshots.{SnapshotLaws}
use Rattle.replay.proofs.lines.play_lines.Goals as goal

pub loop-line-init : goal.loop-line-init
loop-line-init g c = record { played = λ files before budget opened has. has; sink_kept = refl; dir_kept = refl; synced = λ was. was }

pub returns-in_err-play_line-clause-err : goal.returns-in_err-play_line-clause-err
returns-in_err-play_line-clause-err g c files before budget opened has =
    let law = c.snapshots_stand_apart.ensures in
    let laws : SnapshotLaws = record { kept = law.kept; one_name = law.one_name; there = law.there } in
    let here = c.loop-line.invariant.played files before budget opened has in
    let p = err_from_is_err_and c.from_residual.result c.from_residual.ensures.1 in
    rw (p.1, p.2)
    (line_halted laws files (g.D.Dir.files c.loop-line.dir) (g.D.Dir.files c.play_line.new.dir) before (g.K.Sink.taken c.loop-line.sink) (g.K.Sink.taken c.play_line.new.sink) budget opened
    c.args.lines.now c.loop-line.line-index c.line-item.result c.loop-line-test.true c.line-item.is (are_named c.args.lines.now c.requires) c.loop-line.player here
    c.in_err-play_line.field-0.0 (c.in_err-play_line.ensures.err _ _ here.stands))

pub loop-line-preserved : goal.loop-line-preserved
loop-line-preserved g c = record {
  played = λ files before budget opened has.
      let law = c.snapshots_stand_apart.ensures in
      let laws : SnapshotLaws = record { kept = law.kept; one_name = law.one_name; there = law.there } in
      let here = c.loop-line.invariant.played files before budget opened has in
      line_played laws files (g.D.Dir.files c.loop-line.dir) (g.D.Dir.files c.play_line.new.dir) before (g.K.Sink.taken c.loop-line.sink) (g.K.Sink.taken c.play_line.new.sink) budget opened
      c.args.lines.now c.loop-line.line-index c.line-item.result c.loop-line-test.true c.line-item.is (are_named c.args.lines.now c.requires) c.loop-line.player here
      c.play_line.new.player (c.in_ok-play_line.ensures.ok _ _ here.stands);
  sink_kept = c.in_ok-play_line.ensures.counts.done.0 ∙ c.loop-line.invariant.sink_kept;
  dir_kept = c.in_ok-play_line.ensures.counts.done.1 ∙ c.loop-line.invariant.dir_kept;
  synced = λ was. c.in_ok-play_line.ensures.synced (c.loop-line.invariant.synced was);
}

pub returns-clause-ok : goal.returns-clause-ok
returns-clause-ok g c files before budget opened has =
    subst (λ (ls : List _). HasPlayed c.loop-line.player files (g.D.Dir.files c.loop-line.dir) before (g.K.Sink.taken c.loop-line.sink) (record { budget = budget; opened = opened; lines = map line_seen ls })) (take_all c.loop-line.line-index c.args.lines.now (omega arith))
    (c.loop-line.invariant.played files before budget opened has)
