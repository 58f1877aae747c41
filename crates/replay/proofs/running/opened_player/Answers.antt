use Rattle.std.proofs.Common.{List, [], ℕ, subst, inr}
use Rattle.std.proofs.lemmas.Result.{err_from_is_err_and}
use Rattle.stream_io.specs.Stream.{AppendsFront}
use Rattle.adb_model.specs.Opened.{opened}
use Rattle.script.specs.Said.{open_line}
use Rattle.replay.proofs.Headers.{opened_quiet}
use Rattle.replay.proofs.Streams.{appends_as}
use Rattle.replay.proofs.running.opened_player.Goals as goal

pub returns-in_err-write_whole-clause-err : goal.returns-in_err-write_whole-clause-err
returns-in_err-write_whole-clause-err g c =
    let o = c.in-Ok.ensures.opened in
    let p = err_from_is_err_and c.from_residual-in_err-write_whole.result c.from_residual-in_err-write_whole.ensures.1 in
    rw (p.1, p.2)
    (inr (record {
      opened = record { slot = c.in-Ok.opened.1; images = o.images; more = o.more };
      from = o.holds;
      front = subst (λ (t : List ℕ). AppendsFront (g.K.Sink.taken c.args.sink.now) (g.K.Sink.taken c.write_whole.new.sink) t) c.in_ok-line.ensures c.in_err-write_whole.ensures.err;
    }))

pub returns-clause-ok : goal.returns-clause-ok
returns-clause-ok g c =
    let o = c.in-Ok.ensures.opened in
    let slot = c.in-Ok.opened.1 in
    record {
      opened = record { slot = slot; images = o.images; more = o.more };
      from = o.holds;
      stands = c.in_ok-player.ensures (opened c.args.budget slot o.images o.more) [] o.stands (opened_quiet c.args.budget slot o.images o.more);
      line = appends_as (g.K.Sink.taken c.args.sink.now) (g.K.Sink.taken c.write_whole.new.sink) c.in_ok-line.line.now (open_line c.args.name.now slot) c.in_ok-line.ensures c.in_ok-write_whole.ensures.ok;
    }
