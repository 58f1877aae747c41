-- Snapshots, and storages that leave.
use Rattle.std.specs.Prelude.{ℕ, ◌-◌, ◌==◌, nat_lt, nat_le, ◌&&◌, ◌||◌, not, if◌then◌else◌, List, [], ◌∷◌, length, map, filter, filter_map, find, Option, Some, None, option_map, option_and_then}
use Rattle.std.specs.Ordering.{nat_cmp}
use Rattle.adb_model.specs.Lists.{among, rising}
use Rattle.adb_model.specs.State.{Storage, Snap, State}
use Rattle.adb_model.specs.Storages.{is_retired, live_storage, is_pinned}
use Rattle.adb_model.specs.Call.{SnapOpen, NotRoot, SnapTooOld, Unflushed, NotSnapping, Refusal, Reply, Done, SnapBegun, Recycled}
use Rattle.adb_model.specs.Outcome.{unless, when_found, refused_if, first_of}
use Rattle.adb_model.specs.Flush.{has_cached_key}

-- the Live storages of the slots up to one, by rising slot
abbrev pub live_upto : State → ℕ → List Storage
live_upto m slot = filter_map (live_storage m) (filter (λ s. nat_le s slot) (rising nat_cmp (map (λ t. t.slot) m.storages)))

-- their ids
abbrev pub live_ids : State → ℕ → List ℕ
live_ids m slot = map (λ t. t.id) (live_upto m slot)

-- the least root up to the slot that has a cached key
abbrev pub first_unflushed : State → ℕ → Option ℕ
first_unflushed m slot = find (λ r. nat_le r slot && has_cached_key m r) m.roots

-- one is open, it is no root or too old, or a root up to it is not flushed
abbrev pub snap_begin_refusals : State → ℕ → List (Option Refusal)
snap_begin_refusals m slot =
    option_map (λ n. SnapOpen n.slot) m.snap
    ∷ refused_if (not (among slot m.roots)) (NotRoot slot)
    ∷ refused_if (nat_lt slot m.cleaned) (SnapTooOld slot m.cleaned)
    ∷ option_map Unflushed (first_unflushed m slot)
    ∷ []

-- the snapshot holds the Live storages of the slots up to its own
abbrev pub with_snap : State → ℕ → State
with_snap m slot = record m { snap = Some (record { slot = slot; ids = live_ids m slot }) }

-- a snapshot begins; the reply counts its storages
abbrev pub snap_begin_step : State → ℕ → State × Reply
snap_begin_step m slot = unless (first_of (snap_begin_refusals m slot)) m (with_snap m slot, SnapBegun (length (live_ids m slot)))

-- the open snapshot, where it is of the slot
abbrev pub open_snap : State → ℕ → Option Snap
open_snap m slot = option_and_then (λ n. if n.slot == slot then Some n else None) m.snap

-- no snapshot is open
abbrev pub without_snap : State → State
without_snap m = record m { snap = None }

-- the slot's snapshot is over
abbrev pub snap_end_step : State → ℕ → State × Reply
snap_end_step m slot = when_found (open_snap m slot) (NotSnapping slot) m (λ n. (without_snap m, Done))

-- every Retired storage that is not pinned leaves
abbrev pub recycled : State → State
recycled m = record m { storages = filter (λ t. not (is_retired t) || is_pinned m t.id) m.storages }

-- the reply counts the storages that left
abbrev pub recycle_step : State → State × Reply
recycle_step m = (recycled m, Recycled (length m.storages - length (recycled m).storages))
