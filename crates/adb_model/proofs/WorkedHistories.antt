-- Small histories that show what the calls mean, each with every reply.
use Rattle.std.proofs.Common.{◌≡◌, ℕ, true, false, List, [], ◌∷◌, ◌++◌, Some, None, refl, replicate}
use Rattle.adb_model.specs.Account.{Account, account_of}
use Rattle.adb_model.specs.View.{View, view_of}
use Rattle.adb_model.specs.State.{fresh}
use Rattle.adb_model.specs.Call.{Store, Root, Purge, Load, Unpin, Lease, EndLease, FlushBegin, FlushEnd, Raise, Reclaim, ShrinkBegin, ShrinkEnd, SnapBegin, SnapEnd, Recycle, Stats}
use Rattle.adb_model.specs.Call.{Cached, InStorage, SlotRooted, RootOrder, Rooted, ViewTooOld, TooManyPins, NotPinned, NotLeased, NotRooted, NothingCached, Flushing, NotFlushing, Full, IdsSpent, PastRoot, Leased, NoStorage, Shrinking, NothingDead, NotShrinking, SnapOpen, NotRoot, SnapTooOld, Unflushed, NotSnapping}
use Rattle.adb_model.specs.Call.{Call, Reply, Done, Refused, Purged, NotFound, Found, FlushBegun, Raised, Reclaimed, NothingLeft, ShrinkBegun, Superseded, SnapBegun, Recycled, Counted, Event}
use Rattle.adb_model.specs.History.{run}
use Rattle.adb_model.proofs.PlayedValues.{counts, told, calls_of, replies_of}

-- the key whose first byte is this one
abbrev key : ℕ → List ℕ
key first = first ∷ replicate 31 0

-- an account without data
abbrev holding : ℕ → Account
holding lamports = account_of lamports (replicate 32 0) false 0 []

-- all roots, and the roots up to one
abbrev all_roots : View
all_roots = view_of [] 18446744073709551615

abbrev upto : ℕ → View
upto root = view_of [] root

-- a fork of one slot, with all roots
abbrev fork : ℕ → View
fork slot = view_of (slot ∷ []) 18446744073709551615

-- the first pass asks, and is told
abbrev one : Call → Reply → Event
one call reply = told 1 call reply

-- in a new state with this budget and this first id, the calls get these replies
abbrev Play : ℕ → ℕ → List Event → Type 0
Play budget id events = (run (fresh budget id) (calls_of events)).1 ≡ replies_of events

abbrev wide : ℕ
wide = 4294967296

a_fork_sees_its_own_slots_and_roots : Play wide 1 (
    one (Store 4 (key 1) (holding 40)) Done
    ∷ one (Store 7 (key 1) (holding 70)) Done
    ∷ one (Load all_roots (key 1)) NotFound
    ∷ one (Load (fork 4) (key 1)) (Found 4 Cached (holding 40))
    ∷ one (Root 7) Done
    ∷ one (Load (fork 4) (key 1)) (Found 7 Cached (holding 70))
    ∷ one (Load (view_of (4 ∷ []) 6) (key 1)) (Found 4 Cached (holding 40))
    ∷ [])
a_fork_sees_its_own_slots_and_roots = refl

the_last_store_of_a_slot_counts_and_tombs_hide : Play wide 1 (
    one (Store 5 (key 2) (holding 1)) Done
    ∷ one (Store 5 (key 2) (holding 2)) Done
    ∷ one (Load (fork 5) (key 2)) (Found 5 Cached (holding 2))
    ∷ one (Store 5 (key 2) (account_of 0 (170 ∷ replicate 31 0) true 9 (255 ∷ []))) Done
    ∷ one (Load (fork 5) (key 2)) NotFound
    ∷ [])
the_last_store_of_a_slot_counts_and_tombs_hide = refl

slots_up_to_the_newest_root_are_closed : Play wide 1 (
    one (Root 7) Done
    ∷ one (Root 7) (Refused (RootOrder 7 7))
    ∷ one (Store 7 (key 1) (holding 1)) (Refused (SlotRooted 7 7))
    ∷ one (Store 6 (key 1) (holding 1)) (Refused (SlotRooted 6 7))
    ∷ one (Store 8 (key 1) (holding 1)) Done
    ∷ [])
slots_up_to_the_newest_root_are_closed = refl

a_purged_slot_takes_stores_again : Play wide 1 (
    one (Store 5 (key 1) (holding 9)) Done
    ∷ one (Purge 5) (Purged 1)
    ∷ one (Load (fork 5) (key 1)) NotFound
    ∷ one (Purge 5) (Purged 0)
    ∷ one (Store 5 (key 1) (holding 3)) Done
    ∷ one (Load (fork 5) (key 1)) (Found 5 Cached (holding 3))
    ∷ one (Root 5) Done
    ∷ one (Purge 5) (Refused (Rooted 5))
    ∷ [])
a_purged_slot_takes_stores_again = refl

a_root_is_flushed_once : Play wide 1 (
    one (Store 5 (key 1) (holding 1)) Done
    ∷ one (FlushBegin 5) (Refused (NotRooted 5))
    ∷ one (Root 4) Done
    ∷ one (FlushBegin 4) (Refused (NothingCached 4))
    ∷ one (Root 5) Done
    ∷ one (FlushBegin 5) (FlushBegun 1 136)
    ∷ one (FlushBegin 5) (Refused (Flushing 5 1))
    ∷ one (FlushEnd 5) Done
    ∷ one (FlushBegin 5) (Refused (NothingCached 5))
    ∷ one (FlushEnd 5) (Refused (NotFlushing 5))
    ∷ [])
a_root_is_flushed_once = refl

leases_hold_back_what_is_cleaned : Play wide 1 (
    one (Store 8 (key 1) (holding 1)) Done
    ∷ one (Root 8) Done
    ∷ one (Lease 7) Done
    ∷ one (Raise 8) (Refused (Leased 8 7))
    ∷ one (EndLease 7) Done
    ∷ one (Raise 9) (Refused (PastRoot 9 (Some 8)))
    ∷ one (Raise 8) (Raised 8)
    ∷ one (Load (upto 7) (key 1)) (Refused (ViewTooOld 7 8))
    ∷ one (Load (upto 8) (key 1)) (Found 8 Cached (holding 1))
    ∷ one (Lease 7) (Refused (ViewTooOld 7 8))
    ∷ one (EndLease 7) (Refused (NotLeased 7))
    ∷ one (Raise 3) (Raised 8)
    ∷ [])
leases_hold_back_what_is_cleaned = refl

nothing_is_cleaned_without_a_root : Play wide 1 (one (Raise 0) (Refused (PastRoot 0 None)) ∷ [])
nothing_is_cleaned_without_a_root = refl

-- the events of a clean that drops something of one key
abbrev cleaned : ℕ → List ℕ → List Event
cleaned slot taken = one (Raise slot) (Raised slot) ∷ one (Reclaim None 256) (Reclaimed taken) ∷ one (Reclaim (Some taken) 256) NothingLeft ∷ []

a_tomb_stays_while_a_row_is_held_below : Play wide 1 (
    (one (Store 2 (key 1) (holding 10)) Done
    ∷ one (Store 2 (key 2) (holding 20)) Done
    ∷ one (Root 2) Done
    ∷ one (FlushBegin 2) (FlushBegun 1 272)
    ∷ one (FlushEnd 2) Done
    ∷ one (Store 6 (key 1) (holding 0)) Done
    ∷ one (Root 6) Done
    ∷ one (FlushBegin 6) (FlushBegun 2 136)
    ∷ one (FlushEnd 6) Done
    ∷ [])
    ++ cleaned 6 (key 1)
    ++ (one Stats (Counted (counts 0 0 2 0 2 3 408 0))
    ∷ one (ShrinkBegin 2) (ShrinkBegun 1 3 136)
    ∷ one (ShrinkEnd 2) Done
    ∷ [])
    ++ cleaned 6 (key 1)
    ++ (one Stats (Counted (counts 0 0 1 2 1 1 544 0))
    ∷ one Recycle (Recycled 2)
    ∷ one Stats (Counted (counts 0 0 1 0 1 1 136 0))
    ∷ []))
a_tomb_stays_while_a_row_is_held_below = refl

a_tomb_stays_while_a_dead_fork_is_cached_below : Play wide 1 (
    (one (Store 4 (key 1) (holding 40)) Done
    ∷ one (Store 5 (key 1) (holding 0)) Done
    ∷ one (Root 5) Done
    ∷ one (FlushBegin 5) (FlushBegun 1 136)
    ∷ one (FlushEnd 5) Done
    ∷ [])
    ++ cleaned 5 (key 1)
    ++ (one (Load (fork 4) (key 1)) NotFound
    ∷ one Stats (Counted (counts 1 0 1 0 1 1 136 0))
    ∷ one (Purge 4) (Purged 1)
    ∷ [])
    ++ cleaned 5 (key 1)
    ++ (one Stats (Counted (counts 0 0 0 1 0 0 136 0)) ∷ []))
a_tomb_stays_while_a_dead_fork_is_cached_below = refl

a_shrink_can_come_too_late : Play wide 1 (
    (one (Store 2 (key 1) (holding 10)) Done
    ∷ one (Store 2 (key 2) (holding 20)) Done
    ∷ one (Store 2 (key 3) (holding 30)) Done
    ∷ one (Root 2) Done
    ∷ one (FlushBegin 2) (FlushBegun 1 408)
    ∷ one (FlushEnd 2) Done
    ∷ one (Store 4 (key 1) (holding 11)) Done
    ∷ one (Root 4) Done
    ∷ one (FlushBegin 4) (FlushBegun 2 136)
    ∷ one (FlushEnd 4) Done
    ∷ [])
    ++ cleaned 4 (key 1)
    ++ (one (ShrinkBegin 2) (ShrinkBegun 1 3 272)
    ∷ one (ShrinkBegin 2) (Refused (Shrinking 2 3))
    ∷ one (Store 6 (key 2) (holding 21)) Done
    ∷ one (Store 6 (key 3) (holding 0)) Done
    ∷ one (Root 6) Done
    ∷ one (FlushBegin 6) (FlushBegun 4 272)
    ∷ one (FlushEnd 6) Done
    ∷ [])
    ++ cleaned 6 (key 3)
    ++ (one Recycle (Recycled 0)
    ∷ one Stats (Counted (counts 0 1 2 1 2 3 1088 1))
    ∷ one (ShrinkEnd 2) (Superseded 2 1)
    ∷ one Recycle (Recycled 1)
    ∷ one (Load (upto 6) (key 3)) NotFound
    ∷ one (ShrinkEnd 2) (Refused (NotShrinking 2))
    ∷ one (ShrinkBegin 2) (Refused (NoStorage 2))
    ∷ one (ShrinkBegin 4) (Refused (NothingDead 4))
    ∷ []))
a_shrink_can_come_too_late = refl

pinned_storages_keep_their_bytes : Play 408 1 (
    (one (Store 2 (key 1) (holding 1)) Done
    ∷ one (Root 2) Done
    ∷ one (FlushBegin 2) (FlushBegun 1 136)
    ∷ one (FlushEnd 2) Done
    ∷ one (Load all_roots (key 1)) (Found 2 (InStorage 1) (holding 1))
    ∷ one (Store 3 (key 1) (holding 2)) Done
    ∷ one (Root 3) Done
    ∷ one (FlushBegin 3) (FlushBegun 2 136)
    ∷ one (FlushEnd 3) Done
    ∷ [])
    ++ cleaned 3 (key 1)
    ++ (one Recycle (Recycled 0)
    ∷ one (Store 4 (key 2) (account_of 5 (replicate 32 0) false 0 (170 ∷ []))) Done
    ∷ one (Root 4) Done
    ∷ one (FlushBegin 4) (Refused (Full 272 144 408))
    ∷ one (Unpin 1) Done
    ∷ one Recycle (Recycled 1)
    ∷ one (FlushBegin 4) (FlushBegun 3 144)
    ∷ one (FlushEnd 4) Done
    ∷ one (Unpin 1) (Refused (NotPinned 1))
    ∷ []))
pinned_storages_keep_their_bytes = refl

a_budget_is_met_to_the_byte : Play 136 1 (one (Store 2 (key 1) (holding 1)) Done ∷ one (Root 2) Done ∷ one (FlushBegin 2) (FlushBegun 1 136) ∷ [])
a_budget_is_met_to_the_byte = refl

a_budget_is_not_passed : Play 135 1 (one (Store 2 (key 1) (holding 1)) Done ∷ one (Root 2) Done ∷ one (FlushBegin 2) (Refused (Full 0 136 135)) ∷ [])
a_budget_is_not_passed = refl

snapshots_are_of_clean_and_flushed_roots : Play wide 1 (
    one (Store 8 (key 1) (holding 1)) Done
    ∷ one (Root 5) Done
    ∷ one (Root 8) Done
    ∷ one (SnapBegin 8) (Refused (Unflushed 8))
    ∷ one (Raise 8) (Raised 8)
    ∷ one (SnapBegin 5) (Refused (SnapTooOld 5 8))
    ∷ one (SnapBegin 6) (Refused (NotRoot 6))
    ∷ one (FlushBegin 8) (FlushBegun 1 136)
    ∷ one (FlushEnd 8) Done
    ∷ one (SnapBegin 8) (SnapBegun 1)
    ∷ one (SnapBegin 8) (Refused (SnapOpen 8))
    ∷ one (SnapEnd 5) (Refused (NotSnapping 5))
    ∷ one (SnapEnd 8) Done
    ∷ [])
snapshots_are_of_clean_and_flushed_roots = refl

a_pass_has_so_many_pins : Play wide 1 (
    (one (Store 2 (key 1) (holding 1)) Done ∷ one (Root 2) Done ∷ one (FlushBegin 2) (FlushBegun 1 136) ∷ one (FlushEnd 2) Done ∷ [])
    ++ replicate 64 (one (Load all_roots (key 1)) (Found 2 (InStorage 1) (holding 1)))
    ++ (one (Load all_roots (key 1)) (Refused (TooManyPins 64))
    ∷ told 2 (Load all_roots (key 1)) (Found 2 (InStorage 1) (holding 1))
    ∷ told 2 (Unpin 1) Done
    ∷ []))
a_pass_has_so_many_pins = refl

ids_are_spent_at_last : Play 1000 18446744073709551614 (
    one (Store 1 (key 1) (holding 1)) Done
    ∷ one (Store 2 (key 1) (holding 1)) Done
    ∷ one (Root 1) Done
    ∷ one (Root 2) Done
    ∷ one (FlushBegin 1) (FlushBegun 18446744073709551614 136)
    ∷ one (FlushBegin 2) (Refused IdsSpent)
    ∷ [])
ids_are_spent_at_last = refl
