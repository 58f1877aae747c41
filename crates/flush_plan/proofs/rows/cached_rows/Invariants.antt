use Rattle.std.proofs.Common.{◌≡◌, take}
use Rattle.write_cache.specs.Rows.{rows}
use Rattle.append_vec.specs.Filled.{rows_of}
use Rattle.flush_plan.proofs.rows.cached_rows.Given as goal

abbrev pub invariant-loop-at : goal.invariant-loop-at
invariant-loop-at l = rows_of l.accounts.items ≡ take l.at (rows l.cache l.slot)
