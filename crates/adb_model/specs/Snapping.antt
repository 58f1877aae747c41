-- Words of the laws of snapshots.
use Rattle.std.specs.Prelude.{Bool, true, false, ℕ, List, Some}
use Rattle.adb_model.specs.State.{State}
use Rattle.adb_model.specs.Call as call
use Rattle.adb_model.specs.Call.{Call}

-- a snapshot of the slot is open, which holds the storages with these ids
abbrev pub snapped : State → ℕ → List ℕ → State
snapped m slot ids = record m { snap = Some (record { slot = slot; ids = ids }) }

-- the call neither begins nor ends a snapshot, so the one that is open stays
abbrev pub snaps_stay : Call → Bool
snaps_stay (call.Store slot key account) = true
snaps_stay (call.Root slot) = true
snaps_stay (call.Purge slot) = true
snaps_stay (call.Load view key) = true
snaps_stay (call.Unpin id) = true
snaps_stay (call.Lease max_root) = true
snaps_stay (call.EndLease max_root) = true
snaps_stay (call.FlushBegin slot) = true
snaps_stay (call.FlushEnd slot) = true
snaps_stay (call.FlushAbort slot) = true
snaps_stay (call.Raise upto) = true
snaps_stay (call.Reclaim after most) = true
snaps_stay (call.ShrinkBegin slot) = true
snaps_stay (call.ShrinkEnd slot) = true
snaps_stay (call.ShrinkAbort slot) = true
snaps_stay (call.SnapBegin slot) = false
snaps_stay (call.SnapEnd slot) = false
snaps_stay call.Recycle = true
snaps_stay call.Stats = true
