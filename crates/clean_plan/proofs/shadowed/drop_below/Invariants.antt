use Rattle.std.proofs.Common.{◌≡◌, ℕ, ◌-◌, ◌<◌, false, Some}
use Rattle.accounts_index.specs.Index.{kept}
use Rattle.adb_model.specs.State.{State}
use Rattle.book_parts.specs.Parts.{Parts}
use Rattle.book_parts.specs.Reclaims.{is_stored_at, IsNewestShadow}
use Rattle.clean_plan.specs.Leaving.{StandAs}
use Rattle.clean_plan.proofs.Dropping.{Going}
use Rattle.clean_plan.proofs.shadowed.drop_below.Given as goal

abbrev pub invariant-loop-from : goal.invariant-loop-from
invariant-loop-from l = record {
  going : (p : Parts) (m : State) → StandAs p l.fn.index l.fn.map m → IsNewestShadow p.roots p.cleaned (kept l.fn.index l.key.0).versions (Some l.root)
      → (n : State) × Going p l.key.0 l.root l.index l.map m n;
  before : (s : ℕ) → s < l.from → is_stored_at (kept l.index l.key.0).versions s ≡ false;
}

abbrev pub decreases-loop-from : goal.decreases-loop-from
decreases-loop-from l = l.root - l.from
