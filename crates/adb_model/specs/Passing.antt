-- Which calls leave the pins, and which the storages, as they are.
use Rattle.std.specs.Prelude.{Bool, true, false}
use Rattle.adb_model.specs.Call as call
use Rattle.adb_model.specs.Call.{Call}

-- the call is neither a load nor an unpin, so the pins stay
abbrev pub pins_stay : Call → Bool
pins_stay (call.Store slot key account) = true
pins_stay (call.Root slot) = true
pins_stay (call.Purge slot) = true
pins_stay (call.Load view key) = false
pins_stay (call.Unpin id) = false
pins_stay (call.Lease max_root) = true
pins_stay (call.EndLease max_root) = true
pins_stay (call.FlushBegin slot) = true
pins_stay (call.FlushEnd slot) = true
pins_stay (call.FlushAbort slot) = true
pins_stay (call.Raise upto) = true
pins_stay (call.Reclaim after most) = true
pins_stay (call.ShrinkBegin slot) = true
pins_stay (call.ShrinkEnd slot) = true
pins_stay (call.ShrinkAbort slot) = true
pins_stay (call.SnapBegin slot) = true
pins_stay (call.SnapEnd slot) = true
pins_stay call.Recycle = true
pins_stay call.Stats = true

-- the call is none that begins, ends or gives up a flush or a shrink, reclaims or recycles, so the storages and the shrinks stay
abbrev pub storages_stay : Call → Bool
storages_stay (call.Store slot key account) = true
storages_stay (call.Root slot) = true
storages_stay (call.Purge slot) = true
storages_stay (call.Load view key) = true
storages_stay (call.Unpin id) = true
storages_stay (call.Lease max_root) = true
storages_stay (call.EndLease max_root) = true
storages_stay (call.FlushBegin slot) = false
storages_stay (call.FlushEnd slot) = false
storages_stay (call.FlushAbort slot) = false
storages_stay (call.Raise upto) = true
storages_stay (call.Reclaim after most) = false
storages_stay (call.ShrinkBegin slot) = false
storages_stay (call.ShrinkEnd slot) = false
storages_stay (call.ShrinkAbort slot) = false
storages_stay (call.SnapBegin slot) = true
storages_stay (call.SnapEnd slot) = true
storages_stay call.Recycle = false
storages_stay call.Stats = true
