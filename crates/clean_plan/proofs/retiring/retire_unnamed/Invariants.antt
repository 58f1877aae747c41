use Rattle.std.proofs.Common.{◌≡◌, count_by}
use Rattle.cell_table.specs.Phases.{is_live}
use Rattle.adb_model.specs.State.{State}
use Rattle.adb_model.specs.Reclaim as machine
use Rattle.book_parts.specs.Parts.{Parts}
use Rattle.clean_plan.specs.Leaving.{StandWith}
use Rattle.clean_plan.proofs.retiring.retire_unnamed.Given as goal

abbrev pub invariant-loop-slot : goal.invariant-loop-slot
invariant-loop-slot l =
    (p : Parts) (m : State) → StandWith p l.fn.index l.fn.cells l.fn.map m
    → (n : State) × StandWith p l.index l.cells l.map n × (machine.retire_unnamed n ≡ machine.retire_unnamed m)

abbrev pub decreases-loop-slot : goal.decreases-loop-slot
decreases-loop-slot l = count_by is_live l.cells.cells
