-- The machine's reply for what a call answered; for want of memory there is none.
use Rattle.std.specs.Prelude.{ℕ, List, length, Option, Some, None, option_map, Result, Ok, Err}
use Rattle.std.specs.Option.{option_map_or}
use Rattle.vec_scan.specs.Seal.{row_there}
use Rattle.adb_model.specs.Call as machine
use Rattle.adb_model.specs.Call.{Reply, Done, Refused, Purged, NotFound, Raised, Reclaimed, NothingLeft, ShrinkBegun, Superseded}
use Rattle.flush_plan.specs.Jobs.{Job}
use Rattle.book_parts.specs.Shrinks.{Copy}
use Rattle.book_parts.specs.Snaps.{Snapshot}
use Rattle.book.specs.declared.refusals.FlushRefusal.{FlushRefusal}
use Rattle.book.specs.declared.refusals.FlushRefusal.TheVariants as flushes
use Rattle.book.specs.declared.refusals.StoreRefusal.{StoreRefusal}
use Rattle.book.specs.declared.refusals.StoreRefusal.TheVariants as stores
use Rattle.book.specs.declared.refusals.RootRefusal.{RootRefusal}
use Rattle.book.specs.declared.refusals.RootRefusal.TheVariants as roots
use Rattle.book.specs.declared.refusals.Rooted.{Rooted}
use Rattle.book.specs.declared.refusals.LoadRefusal.{LoadRefusal}
use Rattle.book.specs.declared.refusals.LoadRefusal.TheVariants as loads
use Rattle.book.specs.declared.refusals.NotPinned.{NotPinned}
use Rattle.book.specs.declared.refusals.LeaseRefusal.{LeaseRefusal}
use Rattle.book.specs.declared.refusals.LeaseRefusal.TheVariants as leases
use Rattle.book.specs.declared.refusals.NotLeased.{NotLeased}
use Rattle.book.specs.declared.refusals.RaiseRefusal.{RaiseRefusal}
use Rattle.book.specs.declared.refusals.RaiseRefusal.TheVariants as raises
use Rattle.book.specs.declared.refusals.ShrinkRefusal.{ShrinkRefusal}
use Rattle.book.specs.declared.refusals.ShrinkRefusal.TheVariants as shrinks
use Rattle.book.specs.declared.refusals.ShrinkDone.{ShrinkDone}
use Rattle.book.specs.declared.refusals.ShrinkDone.TheVariants as ends
use Rattle.book.specs.declared.refusals.SnapRefusal.{SnapRefusal}
use Rattle.book.specs.declared.refusals.SnapRefusal.TheVariants as snaps
use Rattle.book.specs.declared.loading.Found.{Found}
use Rattle.book.specs.declared.loading.FoundAt.{FoundAt}
use Rattle.book.specs.declared.loading.FoundAt.TheVariants.{Cached, Stored}

-- to a store
abbrev pub store_reply : {U : Type 0} → Result U StoreRefusal → Option Reply
store_reply (Ok u) = Some Done
store_reply (Err (stores.SlotRooted slot newest)) = Some (Refused (machine.SlotRooted slot newest))
store_reply (Err stores.NoMemory) = None

-- to a slot that was to become a root
abbrev pub root_reply : {U : Type 0} → Result U RootRefusal → Option Reply
root_reply (Ok u) = Some Done
root_reply (Err (roots.RootOrder slot newest)) = Some (Refused (machine.RootOrder slot newest))
root_reply (Err roots.NoMemory) = None

-- to a purge, which wants no memory
abbrev pub purge_reply : Result ℕ Rooted → Reply
purge_reply (Ok keys) = Purged keys
purge_reply (Err rooted) = Refused (machine.Rooted rooted.slot)

-- to a load that found a version: where it stands, and its account, which in a storage is that of the row at the offset
abbrev pub found_at : ℕ → FoundAt → Option Reply
found_at slot (Cached account) = Some (machine.Found slot machine.Cached account.value)
found_at slot (Stored id sealed offset) = option_map (λ r. machine.Found slot (machine.InStorage id) r.account) (row_there sealed.value.rows offset)

-- to a load
abbrev pub load_reply : Result (Option Found) LoadRefusal → Option Reply
load_reply (Ok None) = Some NotFound
load_reply (Ok (Some found)) = found_at found.slot found.at
load_reply (Err (loads.ViewTooOld max_root cleaned)) = Some (Refused (machine.ViewTooOld max_root cleaned))
load_reply (Err (loads.TooManyPins most)) = Some (Refused (machine.TooManyPins most))
load_reply (Err loads.NoMemory) = None

-- to a pass that lets go of a storage, which wants no memory
abbrev pub unpin_reply : {U : Type 0} → Result U NotPinned → Reply
unpin_reply (Ok u) = Done
unpin_reply (Err refusal) = Refused (machine.NotPinned refusal.id)

-- to a lease
abbrev pub lease_reply : {U : Type 0} → Result U LeaseRefusal → Option Reply
lease_reply (Ok u) = Some Done
lease_reply (Err (leases.ViewTooOld max_root cleaned)) = Some (Refused (machine.ViewTooOld max_root cleaned))
lease_reply (Err leases.NoMemory) = None

-- to a pass that lets go of views, which wants no memory
abbrev pub end_lease_reply : {U : Type 0} → Result U NotLeased → Reply
end_lease_reply (Ok u) = Done
end_lease_reply (Err refusal) = Refused (machine.NotLeased refusal.max_root)

-- to a raise, which wants no memory
abbrev pub raise_reply : Result ℕ RaiseRefusal → Reply
raise_reply (Ok cleaned) = Raised cleaned
raise_reply (Err (raises.PastRoot upto newest)) = Refused (machine.PastRoot upto newest)
raise_reply (Err (raises.Leased upto least)) = Refused (machine.Leased upto least)

-- to a reclaim, which wants no memory: the last key taken, or that there was none
abbrev pub reclaim_reply : Option (List ℕ) → Reply
reclaim_reply key = option_map_or Reclaimed key NothingLeft

-- to a flush that was to begin
abbrev pub flush_reply : Result Job FlushRefusal → Option Reply
flush_reply (Ok job) = Some (machine.FlushBegun job.id job.bytes)
flush_reply (Err (flushes.NotRooted slot)) = Some (Refused (machine.NotRooted slot))
flush_reply (Err (flushes.NothingCached slot)) = Some (Refused (machine.NothingCached slot))
flush_reply (Err (flushes.Flushing slot id)) = Some (Refused (machine.Flushing slot id))
flush_reply (Err (flushes.Full used wanted limit)) = Some (Refused (machine.Full used wanted limit))
flush_reply (Err (flushes.NoCell limit)) = Some (Refused (machine.NoCell limit))
flush_reply (Err flushes.IdsSpent) = Some (Refused machine.IdsSpent)
flush_reply (Err flushes.NoMemory) = None

-- to a shrink that was to begin
abbrev pub shrink_reply : Result Copy ShrinkRefusal → Option Reply
shrink_reply (Ok copy) = Some (ShrinkBegun copy.old copy.id copy.bytes)
shrink_reply (Err (shrinks.NoStorage slot)) = Some (Refused (machine.NoStorage slot))
shrink_reply (Err (shrinks.Shrinking slot id)) = Some (Refused (machine.Shrinking slot id))
shrink_reply (Err (shrinks.NothingDead slot)) = Some (Refused (machine.NothingDead slot))
shrink_reply (Err (shrinks.Full used wanted limit)) = Some (Refused (machine.Full used wanted limit))
shrink_reply (Err (shrinks.NoCell limit)) = Some (Refused (machine.NoCell limit))
shrink_reply (Err shrinks.IdsSpent) = Some (Refused machine.IdsSpent)
shrink_reply (Err shrinks.NoMemory) = None

-- to a shrink that ended
abbrev pub shrink_end_reply : ShrinkDone → Reply
shrink_end_reply ends.Installed = Done
shrink_end_reply (ends.Superseded slot old) = Superseded slot old

-- to a snapshot that was to begin
abbrev pub snap_reply : Result Snapshot SnapRefusal → Option Reply
snap_reply (Ok job) = Some (machine.SnapBegun (length job.storages))
snap_reply (Err (snaps.SnapOpen slot)) = Some (Refused (machine.SnapOpen slot))
snap_reply (Err (snaps.NotRoot slot)) = Some (Refused (machine.NotRoot slot))
snap_reply (Err (snaps.SnapTooOld slot cleaned)) = Some (Refused (machine.SnapTooOld slot cleaned))
snap_reply (Err (snaps.Unflushed slot)) = Some (Refused (machine.Unflushed slot))
snap_reply (Err snaps.NoMemory) = None
