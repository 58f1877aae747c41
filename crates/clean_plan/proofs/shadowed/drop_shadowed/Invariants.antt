use Rattle.adb_model.specs.State.{State}
use Rattle.adb_model.specs.Reclaimable.{is_shadowed}
use Rattle.adb_model.specs.Reclaim.{drop_shadowed}
use Rattle.book_parts.specs.Parts.{Parts}
use Rattle.clean_plan.specs.Leaving.{rooted, StandAs}
use Rattle.clean_plan.proofs.Taking.{Taken}
use Rattle.clean_plan.proofs.shadowed.drop_shadowed.Given as goal

abbrev pub invariant-loop-key : goal.invariant-loop-key
invariant-loop-key l =
    (p : Parts) (m : State) → StandAs (rooted p l.roots l.cleaned) l.fn.index l.fn.map m
    → (n : State) × StandAs (rooted p l.roots l.cleaned) l.index l.map n × Taken is_shadowed drop_shadowed l.keys l.key-index m n
