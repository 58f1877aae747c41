use Rattle.std.proofs.Common.{rules}
use Rattle.flush_plan.specs.Jobs.{storage_of}
use Rattle.flush_plan.specs.States.{having}
use Rattle.flush_plan.proofs.ending.end.Goals as goal

pub returns-clause-parts : goal.returns-clause-parts
returns-clause-parts c = search rules

pub returns-clause-state : goal.returns-clause-state
returns-clause-state c = λ p m h o r job_open of_image.
    let q = having p c.args.cache.now c.args.index.now c.args.cells.now c.args.map.now in
    let t = storage_of c.args.job in
    let may = c.open_flush_reflects.ensures.cell q m c.args.job.slot t h o r job_open in
    c.ended_flush_reflects.ensures.done q m c.args.job.slot may.0 t c.args.sealed c.args.places.now c.drop_slot.new.self c.rehome_rows.new.index c.publish.new.self c.publish-2.new.self
    h r job_open may.1 of_image c.requires.placed (returns-clause-parts c may.0 may.1)
