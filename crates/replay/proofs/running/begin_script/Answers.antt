use Rattle.std.proofs.Common.{◌≡◌, ℕ, List, [], Option, Some, None, sym, ap, ◌∙◌, subst}
use Rattle.std.specs.Option.{option_map}
use Rattle.std.specs.Prelude.{IfOk, IfErr, string_bytes}
use Rattle.std.proofs.lemmas.Result.{err_from_is_err_and}
use Rattle.adb_model.specs.State.{fresh}
use Rattle.dir_io.specs.Files.{Files}
use Rattle.script.specs.Said.{budget_line}
use Rattle.script.specs.Seen.{script_seen}
use Rattle.replay.specs.Standing.{PlayerStands}
use Rattle.replay.specs.Ending.{HaltsHeader}
use Rattle.replay.specs.Playing.{HasPlayed, HasOpened, HaltsOpened, without_lines}
use Rattle.replay.proofs.Headers.{if_ok, if_err, at_once, fresh_header, opened_header, header_halts}
use Rattle.replay.proofs.Streams.{appends_as}
use Rattle.replay.proofs.running.begin_script.Goals as goal

pub returns-in_err-fresh_player-in-None-clause-err : goal.returns-in_err-fresh_player-in-None-clause-err
returns-in_err-fresh_player-in-None-clause-err g c =
    let a = g.K.Sink.taken c.args.sink.now in
    let b = g.K.Sink.taken c.write_whole.new.sink in
    let said = script_seen c.args.script.now in
    let p = err_from_is_err_and c.from_residual-in_err-fresh_player-in-None.result c.from_residual-in_err-fresh_player-in-None.ensures.1 in
    rw (p.1, p.2) (at_once (g.D.Dir.files c.args.dir.now) a b said (appends_as a b c.in_ok-line.line.now (budget_line said.budget) c.in_ok-line.ensures c.in_ok-write_whole.ensures.ok))

pub returns-in_ok-fresh_player-in-None-clause-ok : goal.returns-in_ok-fresh_player-in-None-clause-ok
returns-in_ok-fresh_player-in-None-clause-ok g c =
    let a = g.K.Sink.taken c.args.sink.now in
    let b = g.K.Sink.taken c.write_whole.new.sink in
    let said = script_seen c.args.script.now in
    let player = c.in_ok-fresh_player-in-None.field-0 in
    fresh_header (g.D.Dir.files c.args.dir.now) a b said player (ap (option_map string_bytes) c.in-None.is)
    (appends_as a b c.in_ok-line.line.now (budget_line said.budget) c.in_ok-line.ensures c.in_ok-write_whole.ensures.ok)
    (subst (λ (n : ℕ). PlayerStands player (fresh n 1) []) c.byte_budget.ensures c.in_ok-fresh_player-in-None.ensures)

pub returns-in-Some-clause-ok : goal.returns-in-Some-clause-ok
returns-in-Some-clause-ok g c =
    let a = g.K.Sink.taken c.args.sink.now in
    let b = g.K.Sink.taken c.write_whole.new.sink in
    let d = g.K.Sink.taken c.opened_player.new.sink in
    let f = g.D.Dir.files c.args.dir.now in
    let said = script_seen c.args.script.now in
    let name = string_bytes c.in-Some.name in
    let written = appends_as a b c.in_ok-line.line.now (budget_line said.budget) c.in_ok-line.ensures c.in_ok-write_whole.ensures.ok in
    subst (λ (h : Option Files). IfOk c.opened_player.result (λ player. HasPlayed player f h a d (without_lines said))) (sym c.opened_player.ensures.files)
    (if_ok c.opened_player.result c.opened_player.ensures.ok
    (λ player h. opened_header f a b d said name (ap (option_map string_bytes) c.in-Some.is) written player
    (subst (λ (n : ℕ). HasOpened player f b d name n) c.byte_budget-in-Some.ensures
    (subst (λ (n : List ℕ). HasOpened player f b d n c.byte_budget-in-Some.result) c.deref.ensures h))))

pub returns-in-Some-clause-err : goal.returns-in-Some-clause-err
returns-in-Some-clause-err g c =
    let a = g.K.Sink.taken c.args.sink.now in
    let b = g.K.Sink.taken c.write_whole.new.sink in
    let d = g.K.Sink.taken c.opened_player.new.sink in
    let f = g.D.Dir.files c.args.dir.now in
    let said = script_seen c.args.script.now in
    let name = string_bytes c.in-Some.name in
    let written = appends_as a b c.in_ok-line.line.now (budget_line said.budget) c.in_ok-line.ensures c.in_ok-write_whole.ensures.ok in
    subst (λ (h : Option Files). IfErr c.opened_player.result (HaltsHeader f h a d said)) (sym c.opened_player.ensures.files)
    (if_err c.opened_player.result c.opened_player.ensures.err
    (λ halt h. header_halts f a b d said name (ap (option_map string_bytes) c.in-Some.is) written halt
    (subst (λ (n : ℕ). HaltsOpened f b d name n halt) c.byte_budget-in-Some.ensures
    (subst (λ (n : List ℕ). HaltsOpened f b d n c.byte_budget-in-Some.result halt) c.deref.ensures h))))
