use Rattle.std.proofs.Common.{ℕ, sym, subst}
use Rattle.adb.specs.Run.{HasCauses}
use Rattle.adb.proofs.running.replay.Goals as goal

pub returns-in-Ok-clause-causes : goal.returns-in-Ok-clause-causes
returns-in-Ok-clause-causes g c =
    let s = g.S.Source.faults c.args.source.now in
    subst (λ (n : ℕ). HasCauses s n (g.D.Dir.faults c.args.dir.now) (g.D.Dir.faults c.play.new.dir) (g.K.Sink.faults c.args.sink.now) (g.K.Sink.faults c.play.new.sink) c.play.result)
    (sym c.in-Ok.ensures.kept) (c.play.ensures.causes s)
