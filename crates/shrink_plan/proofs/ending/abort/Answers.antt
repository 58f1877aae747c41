use Rattle.std.proofs.Common.{rules}
use Rattle.shrink_plan.specs.States.{having}
use Rattle.shrink_plan.proofs.ending.abort.Goals as goal

pub returns-clause-parts : goal.returns-clause-parts
returns-clause-parts c = search rules

pub returns-clause-state : goal.returns-clause-state
returns-clause-state c = λ p m h r o.
    let q = having p p.index c.args.cells.now c.args.map.now in
    let may = c.open_shrink_reflects.ensures.cells q m c.args.job h r o in
    c.dropped_shrink_reflects.ensures q m c.args.job may.0 may.1 c.abandon.new.self c.abandon-2.new.self h r o may.2 (returns-clause-parts c may.0 may.1 may.2)
