use Rattle.std.proofs.Common.{◌≤◌, length}
use Rattle.std.specs.List.{AllWithin}
use Rattle.clean_plan.proofs.Searches.{NoneBefore}
use Rattle.clean_plan.proofs.lists.stored_from.Given as goal

abbrev pub invariant-loop-place : goal.invariant-loop-place
invariant-loop-place l = record {
  above : AllWithin (λ v. l.from ≤ v.slot) l.versions l.place (length l.versions);
  none : NoneBefore l.versions l.from l.place;
}
