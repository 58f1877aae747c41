use Rattle.std.proofs.Common.{◌≡◌, take}
use Rattle.append_vec.specs.Filled.{rows_of}
use Rattle.shrink_plan.specs.Places.{rows_at}
use Rattle.shrink_plan.proofs.job.read_accounts.Given as goal

abbrev pub invariant-loop-offset : goal.invariant-loop-offset
invariant-loop-offset l = rows_of l.accounts.items ≡ take l.offset-index (rows_at l.image l.offsets)
