use Rattle.adb.proofs.running.run_unflushed.Goals as goal

pub returns-in-Some-clause-causes : goal.returns-in-Some-clause-causes
returns-in-Some-clause-causes g c = c.open.ensures.causes (g.S.Source.faults c.args.source.now)
