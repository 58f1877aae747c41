use Rattle.std.proofs.Common.{length}
use Rattle.std.proofs.lemmas.Result.{err_from_is_err_and}
use Rattle.field_codec.specs.Reading.{pair_end}
use Rattle.field_codec.proofs.Skipping.{skipping_more, skipping_stops, skipping_all}
use Rattle.field_codec.proofs.read.skip_pairs.Goals as goal

pub returns-in_err-at-clause-exact : goal.returns-in_err-at-clause-exact
returns-in_err-at-clause-exact c =
    let p = err_from_is_err_and c.from_residual.result c.from_residual.ensures.1 in
    rw (p.1, p.2) (skipping_stops (pair_end c.args.bytes.now) (length c.args.bytes.now) c.args.count c.loop.counter c.args.start c.loop.at c.in_err-at.field-0.0 c.loop-test.true c.loop.invariant c.in_err-at.ensures.exact)

pub loop-preserved : goal.loop-preserved
loop-preserved c =
    skipping_more (pair_end c.args.bytes.now) (length c.args.bytes.now) c.args.count c.loop.counter c.args.start c.loop.at c.in_ok-at.at c.loop-test.true c.loop.invariant c.in_ok-at.ensures.exact c.in_ok-at.ensures.inside

pub returns-clause-exact : goal.returns-clause-exact
returns-clause-exact c = skipping_all (pair_end c.args.bytes.now) (length c.args.bytes.now) c.args.count c.loop.counter c.args.start c.loop.at c.loop-test.false c.loop.invariant
