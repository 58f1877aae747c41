use Rattle.std.proofs.Common.{Ok, Err, refl, arith}
use Rattle.std.proofs.lemmas.Grind.{common_steps}
use Rattle.std.specs.Prelude.{Result, OnErr}
use Rattle.flush_plan.specs.States.{having, with_next}
use Rattle.flush_plan.proofs.beginning.begin.Goals as goal

on_err : {A E P : Type 0} (r : Result A E) → P → OnErr r P
on_err (Ok a) x = tt
on_err (Err e) x = x

pub returns-in_err-expect_rows-clause-kept : goal.returns-in_err-expect_rows-clause-kept
returns-in_err-expect_rows-clause-kept c = λ p m r.
    on_err c.from_residual-in_err-expect_rows.result
    (c.begun_flush_reflects.ensures.kept (with_next (having p c.args.cache.now c.args.index.now c.args.cells.now c.args.map.now) c.args.id) m c.expect_rows.new.index c.args.map.now r
    c.in_err-expect_rows.ensures.err (record { lives = λ s. refl; begins = λ s. refl; alive = refl; total = refl }))

pub returns-in-Ok-clause-ok : goal.returns-in-Ok-clause-ok
returns-in-Ok-clause-ok c = grind (arith, common_steps)

pub returns-in-Ok-clause-begun : goal.returns-in-Ok-clause-begun
returns-in-Ok-clause-begun c = λ p m h r cached none.
    let begins = returns-in-Ok-clause-ok c in
    c.begun_flush_reflects.ensures.done (with_next (having p c.args.cache.now c.args.index.now c.args.cells.now c.args.map.now) c.args.id) m c.args.slot begins.0
    c.expect_rows.new.index c.begin_storage.new.cells c.begin_storage.new.map h r cached none begins.1
