use Rattle.std.proofs.Common.{◌≡◌, ℕ, List, Option, Some, None, refl, sym, ap, ◌∙◌, subst}
use Rattle.std.specs.Option.{option_map}
use Rattle.std.specs.Prelude.{OnOk, IfErr}
use Rattle.std.proofs.lemmas.Result.{err_from_is_err_and}
use Rattle.script.specs.Said.{Line}
use Rattle.script.specs.Seen.{line_seen, order_seen}
use Rattle.replay.specs.Playing.{SavedLine, HaltsLine, quiet, untouched}
use Rattle.replay.proofs.Begun.{asked_line, none_asked}
use Rattle.replay.proofs.lines.play_line.Goals as goal

pub returns-in-Some-clause-ok : goal.returns-in-Some-clause-ok
returns-in-Some-clause-ok g c start h st =
    let name = c.in-Some.name.now in
    let same = asked_line (line_seen c.args.line.now) c.in-Some.slot name (sym c.snapshot_asked.ensures ∙ ap (option_map (λ s. (s.0, s.1.now))) c.in-Some.is) in
    subst (λ (l : Line). OnOk c.play_snap.result (SavedLine c.play_snap.new.player start h (g.K.Sink.taken c.args.sink.now) (g.K.Sink.taken c.play_snap.new.sink) (g.D.Dir.files c.args.dir.now) (g.D.Dir.files c.play_snap.new.dir) l)) (sym same)
    (c.play_snap.ensures.ok start h st)

pub returns-in-Some-clause-err : goal.returns-in-Some-clause-err
returns-in-Some-clause-err g c start h st =
    let name = c.in-Some.name.now in
    let same = asked_line (line_seen c.args.line.now) c.in-Some.slot name (sym c.snapshot_asked.ensures ∙ ap (option_map (λ s. (s.0, s.1.now))) c.in-Some.is) in
    subst (λ (l : Line). IfErr c.play_snap.result (HaltsLine start h (g.K.Sink.taken c.args.sink.now) (g.K.Sink.taken c.play_snap.new.sink) (g.D.Dir.files c.args.dir.now) (g.D.Dir.files c.play_snap.new.dir) l)) (sym same)
    (c.play_snap.ensures.err start h st)

pub play_events-requires-clause-no_snapshot : goal.play_events-requires-clause-no_snapshot
play_events-requires-clause-no_snapshot g c = sym c.snapshot_asked.ensures ∙ ap (option_map (λ s. (s.0, s.1.now))) c.in-None.is

pub returns-in_err-play_events-in-None-clause-err : goal.returns-in_err-play_events-in-None-clause-err
returns-in_err-play_events-in-None-clause-err g c start h st =
    let p = err_from_is_err_and c.from_residual.result c.from_residual.ensures.1 in
    rw (p.1, p.2) (record { cut = c.in_err-play_events-in-None.ensures.err start h st; left = untouched refl })

pub returns-in_ok-play_events-in-None-clause-ok : goal.returns-in_ok-play_events-in-None-clause-ok
returns-in_ok-play_events-in-None-clause-ok g c start h st =
    let none = sym c.snapshot_asked.ensures ∙ ap (option_map (λ s. (s.0, s.1.now))) c.in-None.is in
    record {
      played = c.in_ok-play_events-in-None.ensures.ok start h st;
      left = quiet (λ slot name begins. none_asked (line_seen c.args.line.now) _ slot name none begins) refl;
    }
