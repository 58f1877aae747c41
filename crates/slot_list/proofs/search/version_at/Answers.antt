use Rattle.std.proofs.Common.{sym}
use Rattle.slot_list.proofs.Places.{find_at, find_gap}
use Rattle.slot_list.proofs.search.version_at.Goals as goal

pub returns-in-Ok : goal.returns-in-Ok
returns-in-Ok c = sym (find_at (λ v. v.slot) c.args.versions.now c.args.slot c.in-Ok.place c.in-Ok.ensures.found _)

pub returns-in-Err : goal.returns-in-Err
returns-in-Err c = sym (find_gap (λ v. v.slot) c.args.versions.now c.args.slot _ c.in-Err.ensures.absent)
