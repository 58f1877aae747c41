use Rattle.adb_model.specs.State.{State}
use Rattle.adb_model.specs.Reclaimable.{is_spent}
use Rattle.adb_model.specs.Reclaim.{drop_spent}
use Rattle.book_parts.specs.Parts.{Parts}
use Rattle.clean_plan.specs.Leaving.{rooted, StandAs}
use Rattle.clean_plan.proofs.Taking.{Taken}
use Rattle.clean_plan.proofs.spent.drop_spent.Given as goal

abbrev pub invariant-loop-key : goal.invariant-loop-key
invariant-loop-key l =
    (p : Parts) (m : State) → StandAs (rooted p p.roots l.cleaned) l.fn.index l.fn.map m
    → (n : State) × StandAs (rooted p p.roots l.cleaned) l.index l.map n × Taken is_spent drop_spent l.keys l.key-index m n
