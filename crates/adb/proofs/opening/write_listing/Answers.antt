use Rattle.std.proofs.Common.{[], ap, refl}
use Rattle.adb_model.specs.View.{View}
use Rattle.adb_model.specs.Opened.{opened}
use Rattle.script.specs.Said.{default_budget}
use Rattle.adb.proofs.Listings.{line_taken, all_taken, front_taken}
use Rattle.adb.proofs.opening.write_listing.Goals as goal

pub returns-in_default-clause-err : goal.returns-in_default-clause-err
returns-in_default-clause-err g c images more st =
    let b = g.K.Sink.taken c.write_whole.new.sink in
    line_taken (opened default_budget c.args.slot images more) c.args.name.now c.args.slot c.args.slot refl
    (g.K.Sink.taken c.args.sink.now) b b c.in_ok-line.line.now c.in_ok-line.ensures c.in_ok-write_whole.ensures.ok

pub returns-clause-ok : goal.returns-clause-ok
returns-clause-ok g c images more st =
    let m = opened default_budget c.args.slot images more in
    let at = ap (λ (v : View). v.max_root) c.in-Ok.ensures.ok in
    let slot = c.in-Ok.view.max_root in
    all_taken m c.args.name.now c.args.slot slot at (g.K.Sink.taken c.args.sink.now) (g.K.Sink.taken c.write_whole.new.sink) (g.K.Sink.taken c.write_answers.new.sink)
    c.in_ok-line.line.now c.in_ok-line.ensures c.in_ok-write_whole.ensures.ok c.write_answers.result
    (c.write_answers.ensures.ok m [] st)

pub returns-clause-err : goal.returns-clause-err
returns-clause-err g c images more st =
    let m = opened default_budget c.args.slot images more in
    let at = ap (λ (v : View). v.max_root) c.in-Ok.ensures.ok in
    let slot = c.in-Ok.view.max_root in
    front_taken m c.args.name.now c.args.slot slot at (g.K.Sink.taken c.args.sink.now) (g.K.Sink.taken c.write_whole.new.sink) (g.K.Sink.taken c.write_answers.new.sink)
    c.in_ok-line.line.now c.in_ok-line.ensures c.in_ok-write_whole.ensures.ok c.write_answers.result
    (c.write_answers.ensures.err m [] st)
