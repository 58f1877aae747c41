use Rattle.std.proofs.Common.{option_map}
use Rattle.storage_map.specs.Slots.{live_at, begun_at, Becomes}
use Rattle.open_plan.specs.Parts.{fewer}
use Rattle.open_plan.proofs.adding.lose_rows.Given as goal

abbrev pub invariant-loop : goal.invariant-loop
invariant-loop l = Becomes l.fn.map l.map l.slot (option_map (fewer l.counter) (live_at l.fn.map l.slot)) (begun_at l.fn.map l.slot)
