use Rattle.std.proofs.Common.{List, take, subst, arith}
use Rattle.accounts_index.specs.Index.{Index}
use Rattle.adb_model.specs.State.{Row}
use Rattle.book_parts.specs.Flushes.{Expects, Unexpects}
use Rattle.append_vec.specs.Filled.{rows_of}
use Rattle.flush_plan.proofs.Keys.{has_first, whole}
use Rattle.flush_plan.proofs.Steps.{expects_none, expects_more, expected_back}
use Rattle.flush_plan.proofs.rows.expect_rows.Goals as goal

pub loop-at-init : goal.loop-at-init
loop-at-init c = expects_none c.args.slot c.args.index.now

pub loop-at-preserved : goal.loop-at-preserved
loop-at-preserved c =
    expects_more c.args.slot c.args.accounts.now c.loop-at.at c.index-accounts-at.result c.loop-at-test.true c.index-accounts-at.is
    c.args.index.now c.loop-at.index c.expect.new.self c.loop-at.invariant c.in_default.ensures.ok

pub returns-in-Err-clause-err : goal.returns-in-Err-clause-err
returns-in-Err-clause-err c =
    let rows = rows_of (take c.loop-at.at c.args.accounts.now) in
    expected_back c.args.slot rows c.args.index.now c.loop-at.index c.unexpect_rows.new.index
    (λ k there. c.requires k (has_first c.args.accounts.now c.loop-at.at k there)) c.loop-at.invariant
    (subst (λ (i : Index). Unexpects c.args.slot rows i c.unexpect_rows.new.index) c.in-Err.ensures.err c.unexpect_rows.ensures)

pub returns-clause-ok : goal.returns-clause-ok
returns-clause-ok c =
    let all = whole c.args.accounts.now c.loop-at.at (omega (arith, c.loop-at-test.false, c.loop-at.auto.at-end)) in
    subst (λ (rows : List Row). Expects c.args.slot rows c.args.index.now c.loop-at.index) all c.loop-at.invariant
