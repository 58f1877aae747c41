-- One step of the machine: the next state, and the reply.
use Rattle.std.specs.Prelude.{ℕ}
use Rattle.adb_model.specs.State.{State}
use Rattle.adb_model.specs.Call as call
use Rattle.adb_model.specs.Call.{Call, Reply}
use Rattle.adb_model.specs.Callers.{store_step, root_step, purge_step, load_step, unpin_step}
use Rattle.adb_model.specs.Leases.{lease_step, end_lease_step, raise_step}
use Rattle.adb_model.specs.Flush.{flush_begin_step, flush_end_step, flush_abort_step}
use Rattle.adb_model.specs.Reclaim.{reclaim_step}
use Rattle.adb_model.specs.Shrink.{shrink_begin_step, shrink_end_step, shrink_abort_step}
use Rattle.adb_model.specs.Snap.{snap_begin_step, snap_end_step, recycle_step}
use Rattle.adb_model.specs.Stats.{stats_step}

-- what a call of a pass does to a state, and what it is told
abbrev pub step : State → ℕ → Call → State × Reply
step m pass (call.Store slot key account) = store_step m slot key account
step m pass (call.Root slot) = root_step m slot
step m pass (call.Purge slot) = purge_step m slot
step m pass (call.Load view key) = load_step m pass view key
step m pass (call.Unpin id) = unpin_step m pass id
step m pass (call.Lease max_root) = lease_step m pass max_root
step m pass (call.EndLease max_root) = end_lease_step m pass max_root
step m pass (call.FlushBegin slot) = flush_begin_step m slot
step m pass (call.FlushEnd slot) = flush_end_step m slot
step m pass (call.FlushAbort slot) = flush_abort_step m slot
step m pass (call.Raise upto) = raise_step m upto
step m pass (call.Reclaim after most) = reclaim_step m after most
step m pass (call.ShrinkBegin slot) = shrink_begin_step m slot
step m pass (call.ShrinkEnd slot) = shrink_end_step m slot
step m pass (call.ShrinkAbort slot) = shrink_abort_step m slot
step m pass (call.SnapBegin slot) = snap_begin_step m slot
step m pass (call.SnapEnd slot) = snap_end_step m slot
step m pass call.Recycle = recycle_step m
step m pass call.Stats = stats_step m
