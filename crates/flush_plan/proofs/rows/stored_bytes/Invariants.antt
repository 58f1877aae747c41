use Rattle.std.proofs.Common.{◌≡◌, take, ◌≤◌, ◌*◌, ◌^◌, ◌-◌}
use Rattle.adb_model.specs.Storages.{bytes_of}
use Rattle.write_cache.specs.Rows.{rows}
use Rattle.flush_plan.proofs.rows.stored_bytes.Given as goal

abbrev pub invariant-loop-at : goal.invariant-loop-at
invariant-loop-at l = (l.bytes ≡ bytes_of (take l.at (rows l.cache l.slot))) × (l.bytes ≤ l.at * (2 ^ 64 - 1))
