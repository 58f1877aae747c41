-- Histories from a new state, drawn at random, with the replies and the last states that another implementation of the machine gives.
use Rattle.std.proofs.Common.{◌≡◌, List, [], ◌∷◌, Some, None, refl}
use Rattle.adb_model.specs.Account.{tomb}
use Rattle.adb_model.specs.View.{view_of}
use Rattle.adb_model.specs.State.{Filling, Live, Retired, State, fresh}
use Rattle.adb_model.specs.Call as call
use Rattle.adb_model.specs.Call.{Call, Reply, Event}
use Rattle.adb_model.specs.History.{run}
use Rattle.adb_model.proofs.PlayedValues.{counts, stored, row, storage, pair, pin, lease, shrink, snap, told, calls_of, replies_of, key_0, account_0, key_1, account_1, key_2, key_3, account_2, key_4, account_3, account_4, account_5, account_6, account_7, account_8, key_5, account_9, account_10, account_11, account_12, account_13, account_14, account_15, account_16, account_17, account_18, account_19, account_20, account_21, account_22, account_23, account_24}

abbrev events_0 : List Event
events_0 =
    (told 1 (call.Load (view_of [] 0) key_0) call.NotFound ∷ told 1 (call.Root 3) call.Done ∷ told 2 call.Recycle (call.Recycled 0)
    ∷ told 2 (call.SnapBegin 3) (call.SnapBegun 0) ∷ told 1 (call.SnapBegin 3) (call.Refused (call.SnapOpen 3))
    ∷ told 1 (call.Raise 5) (call.Refused (call.PastRoot 5 (Some 3))) ∷ told 1 (call.Lease 5) call.Done ∷ told 2 (call.Raise 3) (call.Raised 3)
    ∷ told 2 (call.Reclaim None 256) call.NothingLeft ∷ told 2 call.Recycle (call.Recycled 0) ∷ told 1 (call.Store 4 key_0 account_0) call.Done
    ∷ told 1 (call.Purge 4) (call.Purged 1) ∷ told 1 (call.Store 4 key_1 tomb) call.Done ∷ told 1 (call.EndLease 5) call.Done
    ∷ told 2 call.Stats (call.Counted (counts 1 0 0 0 0 0 0 0)) ∷ told 1 call.Recycle (call.Recycled 0) ∷ told 2 (call.SnapEnd 3) call.Done
    ∷ told 1 (call.Store 4 key_0 account_1) call.Done ∷ told 2 (call.Raise 3) (call.Raised 3) ∷ told 2 (call.Reclaim None 256) call.NothingLeft
    ∷ told 2 (call.Load (view_of (4 ∷ []) 3) key_0) (call.Found 4 call.Cached account_1) ∷ told 1 (call.Root 4) call.Done
    ∷ told 1 (call.FlushBegin 4) (call.FlushBegun 1 272) ∷ told 1 (call.FlushEnd 4) call.Done ∷ told 1 (call.Store 6 key_2 tomb) call.Done
    ∷ told 1 call.Stats (call.Counted (counts 1 0 1 0 2 2 272 0)) ∷ told 2 (call.FlushBegin 5) (call.Refused (call.NotRooted 5))
    ∷ told 2 (call.Raise 3) (call.Raised 3) ∷ told 2 (call.Root 0) (call.Refused (call.RootOrder 0 4)) ∷ told 2 call.Recycle (call.Recycled 0)
    ∷ told 1 (call.Root 6) call.Done ∷ told 1 (call.FlushBegin 6) (call.FlushBegun 2 136) ∷ told 1 (call.FlushEnd 6) call.Done
    ∷ told 2 (call.Store 9 key_3 tomb) call.Done ∷ told 1 (call.FlushBegin 6) (call.Refused (call.NothingCached 6))
    ∷ told 1 (call.Load (view_of [] 18446744073709551615) key_0) (call.Found 4 (call.InStorage 1) account_1) ∷ told 1 (call.Unpin 1) call.Done
    ∷ told 2 (call.Raise 5) (call.Raised 5) ∷ told 2 (call.Store 7 key_1 tomb) call.Done ∷ told 2 (call.Lease 5) call.Done
    ∷ told 2 (call.ShrinkBegin 5) (call.Refused (call.NoStorage 5)) ∷ told 2 (call.Raise 3) (call.Raised 5)
    ∷ told 2 (call.Reclaim None 256) (call.Reclaimed key_2) ∷ told 2 (call.Reclaim (Some key_2) 256) call.NothingLeft
    ∷ told 2 (call.Purge 9) (call.Purged 1) ∷ told 1 (call.Root 7) call.Done ∷ told 2 call.Recycle (call.Recycled 0)
    ∷ told 2 (call.Store 9 key_1 account_2) call.Done ∷ told 1 (call.Reclaim None 1) (call.Reclaimed key_1)
    ∷ told 2 (call.Load (view_of [] 18446744073709551615) key_0) (call.Found 4 (call.InStorage 1) account_1) ∷ told 2 (call.Unpin 1) call.Done
    ∷ told 1 (call.FlushBegin 7) (call.FlushBegun 3 136) ∷ told 2 (call.ShrinkBegin 4) (call.ShrinkBegun 1 4 136) ∷ told 1 (call.Root 8) call.Done
    ∷ told 1 (call.FlushBegin 8) (call.Refused (call.NothingCached 8)) ∷ told 1 (call.Raise 8) (call.Refused (call.Leased 8 5))
    ∷ told 2 (call.FlushEnd 7) call.Done ∷ told 2 (call.ShrinkBegin 4) (call.Refused (call.Shrinking 4 4))
    ∷ told 1 (call.SnapBegin 7) (call.SnapBegun 3) ∷ told 1 (call.Root 9) call.Done ∷ told 1 (call.FlushBegin 9) (call.FlushBegun 5 136)
    ∷ told 1 (call.FlushEnd 9) call.Done ∷ told 1 (call.Raise 9) (call.Refused (call.Leased 9 5)) ∷ [])

abbrev last_0 : State
last_0 = record {
  stores = (stored 4 key_1 tomb ∷ stored 4 key_0 account_1 ∷ stored 6 key_2 tomb ∷ stored 7 key_1 tomb ∷ stored 9 key_1 account_2 ∷ []);
  roots = (3 ∷ 4 ∷ 6 ∷ 7 ∷ 8 ∷ 9 ∷ []);
  cleaned = 5;
  leases = (lease 2 5 ∷ []);
  flushed = (4 ∷ 6 ∷ 7 ∷ 9 ∷ []);
  storages =
      (storage 1 4 (row key_1 tomb ∷ row key_0 account_1 ∷ []) 272 Live ∷ storage 2 6 (row key_2 tomb ∷ []) 136 Live
      ∷ storage 3 7 (row key_1 tomb ∷ []) 136 Live ∷ storage 4 4 (row key_0 account_1 ∷ []) 136 Filling
      ∷ storage 5 9 (row key_1 account_2 ∷ []) 136 Live ∷ []);
  named = (pair 4 key_0 ∷ pair 6 key_2 ∷ pair 7 key_1 ∷ pair 9 key_1 ∷ []);
  pins = [];
  shrinks = (shrink 4 1 4 ∷ []);
  snap = Some (snap 7 (1 ∷ 2 ∷ 3 ∷ []));
  next_id = 6;
  budget = 4294967296;
}

history_0 : run (fresh 4294967296 1) (calls_of events_0) ≡ (last_0, replies_of events_0)
history_0 = refl

abbrev events_1 : List Event
events_1 =
    (told 2 (call.FlushBegin 1) (call.Refused (call.NotRooted 1)) ∷ told 2 (call.Store 3 key_4 account_3) call.Done
    ∷ told 2 (call.Load (view_of (3 ∷ []) 0) key_2) call.NotFound ∷ told 2 (call.Root 3) call.Done ∷ told 1 (call.Store 5 key_4 account_0) call.Done
    ∷ told 2 (call.Lease 1) call.Done ∷ told 2 (call.Store 5 key_4 tomb) call.Done ∷ told 2 (call.FlushBegin 0) (call.Refused (call.NotRooted 0))
    ∷ told 2 (call.Store 5 key_2 account_4) call.Done ∷ told 2 (call.Store 5 key_3 tomb) call.Done
    ∷ told 1 (call.Store 3 key_3 account_3) (call.Refused (call.SlotRooted 3 3))
    ∷ told 2 (call.FlushBegin 3) (call.FlushBegun 18446744073709551613 136) ∷ told 2 (call.FlushEnd 3) call.Done ∷ told 2 (call.EndLease 1) call.Done
    ∷ told 1 (call.Load (view_of (3 ∷ 4 ∷ []) 18446744073709551615) key_2) call.NotFound
    ∷ told 2 (call.ShrinkBegin 3) (call.Refused (call.NothingDead 3)) ∷ told 1 call.Recycle (call.Recycled 0)
    ∷ told 2 (call.Store 5 key_4 account_5) call.Done ∷ told 2 (call.Store 5 key_2 account_6) call.Done
    ∷ told 1 (call.Load (view_of [] 1) key_2) call.NotFound ∷ told 2 (call.Load (view_of [] 0) key_3) call.NotFound
    ∷ told 2 call.Stats (call.Counted (counts 3 0 1 0 1 1 136 0)) ∷ told 2 (call.Store 4 key_3 tomb) call.Done ∷ told 1 (call.Purge 4) (call.Purged 1)
    ∷ told 1 (call.Store 5 key_2 account_0) call.Done ∷ told 2 (call.ShrinkAbort 3) (call.Refused (call.NotShrinking 3))
    ∷ told 2 (call.Store 5 key_4 account_0) call.Done ∷ told 2 (call.FlushBegin 3) (call.Refused (call.NothingCached 3))
    ∷ told 1 (call.Root 5) call.Done ∷ told 2 (call.Reclaim None 1) (call.Reclaimed key_4)
    ∷ told 2 (call.EndLease 5) (call.Refused (call.NotLeased 5))
    ∷ told 1 (call.Load (view_of (3 ∷ 5 ∷ []) 5) key_2) (call.Found 5 call.Cached account_0) ∷ told 1 (call.Root 7) call.Done
    ∷ told 2 (call.Raise 5) (call.Raised 5) ∷ told 2 (call.Reclaim None 256) (call.Reclaimed key_4)
    ∷ told 2 (call.Reclaim (Some key_4) 256) call.NothingLeft ∷ told 2 (call.Reclaim None 2) call.NothingLeft
    ∷ told 2 (call.Store 10 key_2 tomb) call.Done ∷ told 2 (call.Root 10) call.Done ∷ told 2 (call.FlushBegin 3) (call.Refused (call.NothingCached 3))
    ∷ told 1 (call.Root 11) call.Done ∷ told 1 (call.FlushBegin 11) (call.Refused (call.NothingCached 11)) ∷ told 1 (call.Raise 11) (call.Raised 11)
    ∷ told 1 (call.Reclaim None 256) (call.Reclaimed key_2) ∷ told 1 (call.Reclaim (Some key_2) 256) call.NothingLeft
    ∷ told 2 (call.FlushBegin 10) (call.FlushBegun 18446744073709551614 136)
    ∷ told 1 (call.Load (view_of (3 ∷ 11 ∷ []) 10) key_4) (call.Refused (call.ViewTooOld 10 11)) ∷ told 2 (call.Store 12 key_4 account_0) call.Done
    ∷ told 2 (call.FlushBegin 5) (call.Refused call.IdsSpent) ∷ told 2 (call.Reclaim None 1) (call.Reclaimed key_2)
    ∷ told 2 (call.Store 12 key_3 tomb) call.Done ∷ told 2 (call.Raise 10) (call.Raised 11) ∷ told 2 (call.Reclaim None 256) (call.Reclaimed key_4)
    ∷ told 2 (call.Reclaim (Some key_4) 256) call.NothingLeft ∷ told 1 (call.FlushEnd 10) call.Done
    ∷ told 2 (call.FlushBegin 5) (call.Refused call.IdsSpent) ∷ told 1 (call.Store 12 key_2 account_3) call.Done
    ∷ told 2 (call.SnapBegin 11) (call.Refused (call.Unflushed 5)) ∷ told 1 (call.FlushEnd 5) (call.Refused (call.NotFlushing 5))
    ∷ told 2 (call.Load (view_of (11 ∷ []) 10) key_2) (call.Refused (call.ViewTooOld 10 11)) ∷ [])

abbrev last_1 : State
last_1 = record {
  stores =
      (stored 3 key_4 account_3 ∷ stored 5 key_4 account_0 ∷ stored 5 key_4 tomb ∷ stored 5 key_2 account_4 ∷ stored 5 key_3 tomb
      ∷ stored 5 key_4 account_5 ∷ stored 5 key_2 account_6 ∷ stored 5 key_2 account_0 ∷ stored 5 key_4 account_0 ∷ stored 10 key_2 tomb
      ∷ stored 12 key_4 account_0 ∷ stored 12 key_3 tomb ∷ stored 12 key_2 account_3 ∷ []);
  roots = (3 ∷ 5 ∷ 7 ∷ 10 ∷ 11 ∷ []);
  cleaned = 11;
  leases = [];
  flushed = (3 ∷ 10 ∷ []);
  storages =
      (storage 18446744073709551613 3 (row key_4 account_3 ∷ []) 136 Retired ∷ storage 18446744073709551614 10 (row key_2 tomb ∷ []) 136 Live ∷ []);
  named = (pair 10 key_2 ∷ []);
  pins = [];
  shrinks = [];
  snap = None;
  next_id = 18446744073709551615;
  budget = 4294967296;
}

history_1 : run (fresh 4294967296 18446744073709551613) (calls_of events_1) ≡ (last_1, replies_of events_1)
history_1 = refl

abbrev events_2 : List Event
events_2 =
    (told 2 (call.Store 1 key_0 tomb) call.Done ∷ told 1 (call.Store 1 key_3 account_0) call.Done ∷ told 2 (call.Root 1) call.Done
    ∷ told 2 (call.Raise 1) (call.Raised 1) ∷ told 2 (call.Reclaim None 256) call.NothingLeft ∷ told 2 (call.Root 5) call.Done
    ∷ told 2 (call.FlushBegin 1) (call.FlushBegun 1 272) ∷ told 2 (call.FlushEnd 1) call.Done ∷ told 1 (call.Root 7) call.Done
    ∷ told 1 (call.Store 7 key_1 account_7) (call.Refused (call.SlotRooted 7 7)) ∷ told 1 (call.Root 8) call.Done
    ∷ told 1 (call.Purge 7) (call.Refused (call.Rooted 7)) ∷ told 2 (call.Store 9 key_1 account_8) call.Done
    ∷ told 2 (call.Load (view_of (8 ∷ []) 18446744073709551615) key_2) call.NotFound ∷ told 2 (call.Store 9 key_3 account_5) call.Done
    ∷ told 2 (call.ShrinkBegin 12) (call.Refused (call.NoStorage 12)) ∷ told 2 (call.Store 9 key_5 account_9) call.Done
    ∷ told 1 (call.Raise 7) (call.Raised 7) ∷ told 2 (call.Root 11) call.Done ∷ told 2 (call.Reclaim None 256) (call.Reclaimed key_0)
    ∷ told 2 (call.ShrinkBegin 1) (call.ShrinkBegun 1 2 136) ∷ told 2 (call.ShrinkBegin 1) (call.Refused (call.Shrinking 1 2))
    ∷ told 1 (call.ShrinkEnd 1) call.Done ∷ told 2 (call.Load (view_of (1 ∷ 7 ∷ []) 10) key_3) (call.Found 1 (call.InStorage 2) account_0)
    ∷ told 2 (call.Unpin 2) call.Done ∷ told 1 (call.Reclaim None 2) (call.Reclaimed key_3) ∷ told 2 (call.Store 14 key_0 account_5) call.Done
    ∷ told 2 (call.Raise 11) (call.Raised 11) ∷ told 2 (call.Reclaim None 256) (call.Reclaimed key_3)
    ∷ told 2 (call.Reclaim (Some key_3) 256) call.NothingLeft ∷ told 1 (call.Purge 9) (call.Purged 3)
    ∷ told 2 (call.SnapEnd 13) (call.Refused (call.NotSnapping 13)) ∷ told 2 call.Stats (call.Counted (counts 1 0 1 1 1 1 408 0))
    ∷ told 1 (call.SnapBegin 11) (call.SnapBegun 1) ∷ told 1 (call.SnapEnd 11) call.Done ∷ told 2 (call.Store 14 key_0 account_10) call.Done
    ∷ told 1 (call.Store 14 key_3 account_2) call.Done ∷ told 1 (call.Load (view_of [] 10) key_2) (call.Refused (call.ViewTooOld 10 11))
    ∷ told 1 (call.Load (view_of (5 ∷ []) 11) key_0) call.NotFound ∷ told 1 (call.Root 14) call.Done ∷ told 1 (call.Lease 14) call.Done
    ∷ told 1 (call.Store 17 key_2 account_5) call.Done ∷ told 2 (call.Store 10 key_3 account_11) (call.Refused (call.SlotRooted 10 14))
    ∷ told 2 (call.Root 17) call.Done ∷ told 1 (call.Store 19 key_5 account_9) call.Done ∷ told 1 (call.Root 19) call.Done
    ∷ told 2 (call.Lease 17) call.Done ∷ told 2 (call.Store 23 key_2 account_11) call.Done ∷ told 1 (call.Raise 14) (call.Raised 14)
    ∷ told 1 (call.Reclaim None 256) (call.Reclaimed key_2) ∷ told 1 (call.Reclaim (Some key_2) 256) call.NothingLeft
    ∷ told 1 (call.FlushBegin 19) (call.FlushBegun 3 136) ∷ told 1 (call.FlushEnd 19) call.Done ∷ told 2 call.Recycle (call.Recycled 2)
    ∷ told 1 (call.Unpin 7) (call.Refused (call.NotPinned 7)) ∷ told 1 (call.FlushBegin 17) (call.FlushBegun 4 136)
    ∷ told 2 (call.Store 20 key_1 account_0) call.Done ∷ told 2 call.Recycle (call.Recycled 0)
    ∷ told 2 (call.FlushBegin 17) (call.Refused (call.Flushing 17 4)) ∷ told 2 (call.FlushBegin 14) (call.FlushBegun 5 272)
    ∷ told 2 (call.FlushEnd 14) call.Done ∷ [])

abbrev last_2 : State
last_2 = record {
  stores =
      (stored 1 key_0 tomb ∷ stored 1 key_3 account_0 ∷ stored 14 key_0 account_5 ∷ stored 14 key_0 account_10 ∷ stored 14 key_3 account_2
      ∷ stored 17 key_2 account_5 ∷ stored 19 key_5 account_9 ∷ stored 23 key_2 account_11 ∷ stored 20 key_1 account_0 ∷ []);
  roots = (1 ∷ 5 ∷ 7 ∷ 8 ∷ 11 ∷ 14 ∷ 17 ∷ 19 ∷ []);
  cleaned = 14;
  leases = (lease 1 14 ∷ lease 2 17 ∷ []);
  flushed = (1 ∷ 19 ∷ 14 ∷ []);
  storages =
      (storage 3 19 (row key_5 account_9 ∷ []) 136 Live ∷ storage 4 17 (row key_2 account_5 ∷ []) 136 Filling
      ∷ storage 5 14 (row key_0 account_10 ∷ row key_3 account_2 ∷ []) 272 Live ∷ []);
  named = (pair 19 key_5 ∷ pair 14 key_0 ∷ pair 14 key_3 ∷ []);
  pins = [];
  shrinks = [];
  snap = None;
  next_id = 6;
  budget = 4294967296;
}

history_2 : run (fresh 4294967296 1) (calls_of events_2) ≡ (last_2, replies_of events_2)
history_2 = refl

abbrev events_3 : List Event
events_3 =
    (told 2 (call.Root 3) call.Done ∷ told 1 (call.Load (view_of (3 ∷ []) 18446744073709551615) key_0) call.NotFound
    ∷ told 1 (call.FlushEnd 7) (call.Refused (call.NotFlushing 7)) ∷ told 1 (call.Load (view_of (3 ∷ []) 0) key_0) call.NotFound
    ∷ told 1 (call.Store 4 key_5 account_11) call.Done ∷ told 2 (call.Store 4 key_2 account_0) call.Done
    ∷ told 2 (call.SnapBegin 3) (call.SnapBegun 0) ∷ told 2 (call.SnapEnd 3) call.Done ∷ told 2 (call.Store 4 key_5 account_12) call.Done
    ∷ told 1 call.Recycle (call.Recycled 0) ∷ told 1 (call.Raise 3) (call.Raised 3) ∷ told 1 (call.Reclaim None 256) call.NothingLeft
    ∷ told 2 (call.Store 5 key_0 account_11) call.Done ∷ told 1 (call.Store 5 key_0 account_13) call.Done
    ∷ told 1 (call.Store 4 key_5 account_11) call.Done ∷ told 2 (call.Store 3 key_0 tomb) (call.Refused (call.SlotRooted 3 3))
    ∷ told 1 (call.Root 2) (call.Refused (call.RootOrder 2 3)) ∷ told 2 call.Recycle (call.Recycled 0)
    ∷ told 1 (call.Store 5 key_5 account_0) call.Done ∷ told 2 (call.Root 4) call.Done
    ∷ told 2 (call.Load (view_of (4 ∷ 5 ∷ []) 3) key_2) (call.Found 4 call.Cached account_0)
    ∷ told 2 (call.FlushBegin 4) (call.FlushBegun 18446744073709551613 272) ∷ told 2 (call.FlushEnd 4) call.Done
    ∷ told 1 (call.Store 5 key_5 tomb) call.Done ∷ told 1 (call.Root 5) call.Done ∷ told 1 (call.FlushBegin 5) (call.Refused (call.Full 272 272 300))
    ∷ told 1 (call.Raise 5) (call.Raised 5) ∷ told 1 (call.Reclaim None 256) (call.Reclaimed key_5)
    ∷ told 1 (call.Reclaim (Some key_5) 256) call.NothingLeft ∷ told 2 (call.Store 6 key_0 account_3) call.Done
    ∷ told 1 (call.FlushBegin 5) (call.Refused (call.Full 272 272 300)) ∷ told 2 (call.Purge 9) (call.Purged 0)
    ∷ told 2 (call.ShrinkBegin 4) (call.Refused (call.Full 272 136 300))
    ∷ told 1 (call.Load (view_of [] 6) key_2) (call.Found 4 (call.InStorage 18446744073709551613) account_0)
    ∷ told 1 (call.Unpin 18446744073709551613) call.Done ∷ told 2 (call.FlushEnd 8) (call.Refused (call.NotFlushing 8))
    ∷ told 2 (call.Raise 4) (call.Raised 5) ∷ told 2 (call.Reclaim None 256) (call.Reclaimed key_0)
    ∷ told 2 (call.Reclaim (Some key_0) 256) call.NothingLeft ∷ told 2 call.Recycle (call.Recycled 0)
    ∷ told 1 (call.Load (view_of (4 ∷ []) 18446744073709551615) key_2) (call.Found 4 (call.InStorage 18446744073709551613) account_0)
    ∷ told 1 (call.Unpin 18446744073709551613) call.Done ∷ told 1 (call.FlushAbort 1) (call.Refused (call.NotFlushing 1))
    ∷ told 1 (call.Reclaim None 1) (call.Reclaimed key_0) ∷ told 2 (call.SnapBegin 2) (call.Refused (call.NotRoot 2))
    ∷ told 2 (call.Reclaim (Some key_5) 1) call.NothingLeft ∷ told 2 (call.Store 6 key_0 account_5) call.Done
    ∷ told 1 (call.Store 6 key_0 account_3) call.Done ∷ told 2 (call.FlushBegin 5) (call.Refused (call.Full 272 272 300))
    ∷ told 2 (call.ShrinkBegin 4) (call.Refused (call.Full 272 136 300)) ∷ told 2 (call.Root 6) call.Done ∷ told 2 (call.Raise 5) (call.Raised 5)
    ∷ told 2 (call.Reclaim None 256) (call.Reclaimed key_0) ∷ told 2 (call.Reclaim (Some key_0) 256) call.NothingLeft
    ∷ told 1 (call.ShrinkBegin 4) (call.Refused (call.Full 272 136 300)) ∷ told 2 (call.FlushBegin 6) (call.Refused (call.Full 272 136 300))
    ∷ told 2 (call.FlushBegin 6) (call.Refused (call.Full 272 136 300)) ∷ told 2 (call.Load (view_of [] 6) key_5) call.NotFound
    ∷ told 2 (call.Store 8 key_5 account_4) call.Done ∷ told 2 (call.FlushBegin 0) (call.Refused (call.NotRooted 0)) ∷ [])

abbrev last_3 : State
last_3 = record {
  stores =
      (stored 4 key_5 account_11 ∷ stored 4 key_2 account_0 ∷ stored 4 key_5 account_12 ∷ stored 5 key_0 account_11 ∷ stored 5 key_0 account_13
      ∷ stored 4 key_5 account_11 ∷ stored 5 key_5 account_0 ∷ stored 5 key_5 tomb ∷ stored 6 key_0 account_3 ∷ stored 6 key_0 account_5
      ∷ stored 6 key_0 account_3 ∷ stored 8 key_5 account_4 ∷ []);
  roots = (3 ∷ 4 ∷ 5 ∷ 6 ∷ []);
  cleaned = 5;
  leases = [];
  flushed = (4 ∷ []);
  storages = (storage 18446744073709551613 4 (row key_5 account_11 ∷ row key_2 account_0 ∷ []) 272 Live ∷ []);
  named = (pair 4 key_2 ∷ []);
  pins = [];
  shrinks = [];
  snap = None;
  next_id = 18446744073709551614;
  budget = 300;
}

history_3 : run (fresh 300 18446744073709551613) (calls_of events_3) ≡ (last_3, replies_of events_3)
history_3 = refl

abbrev events_4 : List Event
events_4 =
    (told 1 (call.Store 1 key_5 account_9) call.Done ∷ told 1 (call.FlushEnd 2) (call.Refused (call.NotFlushing 2))
    ∷ told 2 (call.FlushEnd 0) (call.Refused (call.NotFlushing 0)) ∷ told 1 (call.Lease 0) call.Done ∷ told 1 (call.Purge 0) (call.Purged 0)
    ∷ told 1 (call.Reclaim None 3) call.NothingLeft ∷ told 2 (call.Purge 1) (call.Purged 1) ∷ told 2 (call.Reclaim None 3) call.NothingLeft
    ∷ told 1 (call.Unpin 4) (call.Refused (call.NotPinned 4)) ∷ told 1 (call.Store 1 key_5 tomb) call.Done
    ∷ told 1 (call.Unpin 5) (call.Refused (call.NotPinned 5)) ∷ told 2 (call.Store 1 key_5 tomb) call.Done
    ∷ told 2 (call.Store 0 key_2 account_11) call.Done ∷ told 1 (call.EndLease 0) call.Done ∷ told 1 (call.Store 1 key_0 account_11) call.Done
    ∷ told 2 (call.Store 1 key_5 account_14) call.Done ∷ told 2 (call.Store 1 key_0 account_15) call.Done ∷ told 2 (call.Root 1) call.Done
    ∷ told 1 (call.ShrinkEnd 0) (call.Refused (call.NotShrinking 0)) ∷ told 2 (call.Store 2 key_0 tomb) call.Done
    ∷ told 2 (call.Raise 1) (call.Raised 1) ∷ told 2 (call.Reclaim None 256) (call.Reclaimed key_0)
    ∷ told 2 (call.Reclaim (Some key_0) 256) call.NothingLeft ∷ told 2 (call.Root 2) call.Done
    ∷ told 2 (call.FlushBegin 1) (call.FlushBegun 18446744073709551613 272) ∷ told 2 (call.Root 4) call.Done
    ∷ told 2 (call.ShrinkAbort 3) (call.Refused (call.NotShrinking 3)) ∷ told 2 (call.Load (view_of (4 ∷ []) 1) key_1) call.NotFound
    ∷ told 2 (call.Raise 1) (call.Raised 1) ∷ told 2 (call.FlushBegin 2) (call.FlushBegun 18446744073709551614 136)
    ∷ told 2 (call.FlushEnd 2) call.Done ∷ told 2 (call.Load (view_of [] 18446744073709551615) key_2) call.NotFound
    ∷ told 1 call.Stats (call.Counted (counts 3 1 1 0 1 1 408 0)) ∷ told 1 (call.FlushEnd 1) call.Done ∷ told 2 (call.SnapBegin 4) (call.SnapBegun 2)
    ∷ told 2 (call.Store 6 key_5 tomb) call.Done
    ∷ told 1 (call.Load (view_of (1 ∷ []) 18446744073709551615) key_5) (call.Found 1 (call.InStorage 18446744073709551613) account_14)
    ∷ told 1 (call.Unpin 18446744073709551613) call.Done ∷ told 2 (call.Raise 4) (call.Raised 4)
    ∷ told 2 (call.Reclaim None 256) (call.Reclaimed key_5) ∷ told 2 (call.Reclaim (Some key_5) 256) call.NothingLeft
    ∷ told 1 (call.ShrinkBegin 1) (call.Refused call.IdsSpent) ∷ told 2 (call.ShrinkBegin 1) (call.Refused call.IdsSpent)
    ∷ told 1 call.Stats (call.Counted (counts 2 0 2 0 2 3 408 2)) ∷ told 1 (call.Root 0) (call.Refused (call.RootOrder 0 4))
    ∷ told 2 (call.Reclaim None 2) (call.Reclaimed key_5) ∷ told 2 (call.Root 6) call.Done ∷ told 1 (call.Store 10 key_0 account_3) call.Done
    ∷ told 2 (call.Store 10 key_1 tomb) call.Done ∷ told 1 (call.FlushBegin 6) (call.Refused call.IdsSpent)
    ∷ told 1 (call.FlushBegin 6) (call.Refused call.IdsSpent) ∷ told 1 (call.Lease 3) (call.Refused (call.ViewTooOld 3 4))
    ∷ told 2 (call.Root 10) call.Done ∷ told 1 (call.Load (view_of [] 3) key_0) (call.Refused (call.ViewTooOld 3 4))
    ∷ told 2 (call.ShrinkBegin 1) (call.Refused call.IdsSpent) ∷ told 1 (call.Raise 10) (call.Raised 10)
    ∷ told 1 (call.Reclaim None 256) (call.Reclaimed key_5) ∷ told 1 (call.Reclaim (Some key_5) 256) call.NothingLeft
    ∷ told 1 (call.Reclaim None 1) call.NothingLeft ∷ told 1 (call.FlushBegin 10) (call.Refused call.IdsSpent) ∷ [])

abbrev last_4 : State
last_4 = record {
  stores =
      (stored 1 key_5 tomb ∷ stored 1 key_5 tomb ∷ stored 0 key_2 account_11 ∷ stored 1 key_0 account_11 ∷ stored 1 key_5 account_14
      ∷ stored 1 key_0 account_15 ∷ stored 2 key_0 tomb ∷ stored 6 key_5 tomb ∷ stored 10 key_0 account_3 ∷ stored 10 key_1 tomb ∷ []);
  roots = (1 ∷ 2 ∷ 4 ∷ 6 ∷ 10 ∷ []);
  cleaned = 10;
  leases = [];
  flushed = (2 ∷ 1 ∷ []);
  storages =
      (storage 18446744073709551613 1 (row key_5 account_14 ∷ row key_0 account_15 ∷ []) 272 Retired
      ∷ storage 18446744073709551614 2 (row key_0 tomb ∷ []) 136 Retired ∷ []);
  named = [];
  pins = [];
  shrinks = [];
  snap = Some (snap 4 (18446744073709551613 ∷ 18446744073709551614 ∷ []));
  next_id = 18446744073709551615;
  budget = 1000;
}

history_4 : run (fresh 1000 18446744073709551613) (calls_of events_4) ≡ (last_4, replies_of events_4)
history_4 = refl

abbrev events_5 : List Event
events_5 =
    (told 1 (call.Reclaim None 1) call.NothingLeft ∷ told 1 (call.Root 1) call.Done ∷ told 2 (call.Store 4 key_1 account_5) call.Done
    ∷ told 2 (call.Raise 1) (call.Raised 1) ∷ told 2 (call.Raise 1) (call.Raised 1) ∷ told 2 (call.Reclaim None 256) call.NothingLeft
    ∷ told 2 (call.Root 4) call.Done ∷ told 2 (call.FlushBegin 4) (call.FlushBegun 18446744073709551613 136)
    ∷ told 1 (call.Store 7 key_1 tomb) call.Done ∷ told 1 (call.Store 5 key_3 tomb) call.Done ∷ told 1 (call.Store 7 key_0 account_16) call.Done
    ∷ told 1 (call.Store 5 key_5 account_0) call.Done ∷ told 2 (call.Root 5) call.Done ∷ told 2 (call.SnapBegin 1) (call.SnapBegun 0)
    ∷ told 2 (call.SnapEnd 1) call.Done ∷ told 1 (call.Store 7 key_1 account_17) call.Done ∷ told 2 (call.Raise 4) (call.Raised 4)
    ∷ told 1 (call.Store 7 key_0 account_15) call.Done ∷ told 2 (call.Store 8 key_0 account_18) call.Done
    ∷ told 2 (call.FlushBegin 5) (call.FlushBegun 18446744073709551614 272) ∷ told 1 (call.Store 7 key_2 account_11) call.Done
    ∷ told 1 (call.SnapBegin 4) (call.Refused (call.Unflushed 4)) ∷ told 1 (call.Reclaim (Some key_0) 1) (call.Reclaimed key_1)
    ∷ told 1 (call.Load (view_of (1 ∷ 5 ∷ 7 ∷ []) 5) key_3) call.NotFound ∷ told 2 (call.FlushAbort 4) call.Done ∷ told 2 (call.FlushEnd 5) call.Done
    ∷ told 1 (call.Root 0) (call.Refused (call.RootOrder 0 5)) ∷ told 2 (call.FlushBegin 4) (call.Refused call.IdsSpent)
    ∷ told 1 (call.Store 9 key_1 account_11) call.Done ∷ told 2 (call.FlushBegin 4) (call.Refused call.IdsSpent)
    ∷ told 2 (call.FlushBegin 4) (call.Refused call.IdsSpent) ∷ told 1 (call.Store 8 key_5 tomb) call.Done
    ∷ told 1 (call.Load (view_of (4 ∷ 5 ∷ []) 18446744073709551615) key_3) call.NotFound ∷ told 2 (call.Store 6 key_0 account_0) call.Done
    ∷ told 1 (call.Store 8 key_5 account_19) call.Done ∷ told 1 (call.Reclaim (Some key_1) 3) (call.Reclaimed key_5)
    ∷ told 2 (call.Load (view_of [] 4) key_2) call.NotFound ∷ told 2 (call.Lease 5) call.Done
    ∷ told 1 (call.Load (view_of (5 ∷ 8 ∷ 9 ∷ []) 5) key_0) (call.Found 8 call.Cached account_18) ∷ told 1 (call.Store 8 key_5 account_0) call.Done
    ∷ told 1 (call.Raise 5) (call.Raised 5) ∷ told 2 (call.Store 0 key_0 account_11) (call.Refused (call.SlotRooted 0 5))
    ∷ told 2 (call.Store 7 key_1 account_3) call.Done ∷ told 2 (call.Load (view_of (4 ∷ 6 ∷ []) 1) key_0) (call.Refused (call.ViewTooOld 1 5))
    ∷ told 1 (call.SnapBegin 1) (call.Refused (call.SnapTooOld 1 5)) ∷ told 1 (call.Load (view_of (6 ∷ []) 6) key_2) call.NotFound
    ∷ told 1 (call.Root 2) (call.Refused (call.RootOrder 2 5)) ∷ told 2 (call.Raise 4) (call.Raised 5)
    ∷ told 1 (call.Store 7 key_3 account_0) call.Done ∷ told 2 call.Stats (call.Counted (counts 9 0 1 0 2 2 272 0))
    ∷ told 2 (call.Load (view_of (7 ∷ 9 ∷ []) 18446744073709551615) key_1) (call.Found 9 call.Cached account_11)
    ∷ told 2 (call.Store 7 key_1 account_13) call.Done ∷ told 1 (call.SnapBegin 3) (call.Refused (call.NotRoot 3))
    ∷ told 2 (call.Store 9 key_0 account_3) call.Done ∷ told 2 (call.Store 9 key_2 account_0) call.Done
    ∷ told 2 call.Stats (call.Counted (counts 11 0 1 0 2 2 272 0)) ∷ told 2 (call.Raise 5) (call.Raised 5)
    ∷ told 2 (call.FlushBegin 4) (call.Refused call.IdsSpent) ∷ told 2 (call.FlushBegin 0) (call.Refused (call.NotRooted 0))
    ∷ told 2 (call.FlushBegin 4) (call.Refused call.IdsSpent) ∷ [])

abbrev last_5 : State
last_5 = record {
  stores =
      (stored 4 key_1 account_5 ∷ stored 7 key_1 tomb ∷ stored 5 key_3 tomb ∷ stored 7 key_0 account_16 ∷ stored 5 key_5 account_0
      ∷ stored 7 key_1 account_17 ∷ stored 7 key_0 account_15 ∷ stored 8 key_0 account_18 ∷ stored 7 key_2 account_11 ∷ stored 9 key_1 account_11
      ∷ stored 8 key_5 tomb ∷ stored 6 key_0 account_0 ∷ stored 8 key_5 account_19 ∷ stored 8 key_5 account_0 ∷ stored 7 key_1 account_3
      ∷ stored 7 key_3 account_0 ∷ stored 7 key_1 account_13 ∷ stored 9 key_0 account_3 ∷ stored 9 key_2 account_0 ∷ []);
  roots = (1 ∷ 4 ∷ 5 ∷ []);
  cleaned = 5;
  leases = (lease 2 5 ∷ []);
  flushed = (5 ∷ []);
  storages = (storage 18446744073709551614 5 (row key_3 tomb ∷ row key_5 account_0 ∷ []) 272 Live ∷ []);
  named = (pair 5 key_3 ∷ pair 5 key_5 ∷ []);
  pins = [];
  shrinks = [];
  snap = None;
  next_id = 18446744073709551615;
  budget = 4294967296;
}

history_5 : run (fresh 4294967296 18446744073709551613) (calls_of events_5) ≡ (last_5, replies_of events_5)
history_5 = refl

abbrev events_6 : List Event
events_6 =
    (told 1 (call.Store 3 key_1 tomb) call.Done ∷ told 2 call.Stats (call.Counted (counts 1 0 0 0 0 0 0 0))
    ∷ told 2 (call.FlushBegin 0) (call.Refused (call.NotRooted 0)) ∷ told 1 (call.Store 3 key_2 tomb) call.Done ∷ told 1 (call.Root 1) call.Done
    ∷ told 1 (call.FlushBegin 1) (call.Refused (call.NothingCached 1)) ∷ told 1 (call.Raise 1) (call.Raised 1)
    ∷ told 1 (call.Reclaim None 256) call.NothingLeft ∷ told 1 (call.Load (view_of (1 ∷ 3 ∷ []) 18446744073709551615) key_2) call.NotFound
    ∷ told 1 (call.Store 4 key_1 tomb) call.Done ∷ told 1 (call.Root 3) call.Done ∷ told 2 (call.Store 4 key_1 tomb) call.Done
    ∷ told 1 (call.Raise 3) (call.Raised 3) ∷ told 1 (call.Reclaim None 256) (call.Reclaimed key_1)
    ∷ told 1 (call.Reclaim (Some key_1) 256) call.NothingLeft ∷ told 1 (call.Purge 4) (call.Purged 1) ∷ told 2 call.Recycle (call.Recycled 0)
    ∷ told 1 (call.FlushBegin 3) (call.FlushBegun 1 272) ∷ told 1 (call.FlushEnd 3) call.Done ∷ told 2 call.Recycle (call.Recycled 0)
    ∷ told 1 call.Recycle (call.Recycled 0) ∷ told 1 (call.Store 6 key_1 account_20) call.Done
    ∷ told 2 (call.Store 3 key_1 account_13) (call.Refused (call.SlotRooted 3 3)) ∷ told 2 (call.Load (view_of (1 ∷ []) 3) key_1) call.NotFound
    ∷ told 2 (call.Store 6 key_2 tomb) call.Done ∷ told 2 (call.FlushBegin 0) (call.Refused (call.NotRooted 0))
    ∷ told 2 (call.Reclaim None 1) (call.Reclaimed key_1) ∷ told 1 (call.ShrinkBegin 3) (call.ShrinkBegun 1 2 136)
    ∷ told 2 call.Recycle (call.Recycled 0) ∷ told 1 (call.Root 4) call.Done ∷ told 1 call.Recycle (call.Recycled 0)
    ∷ told 2 (call.Raise 5) (call.Refused (call.PastRoot 5 (Some 4))) ∷ told 1 (call.ShrinkAbort 3) call.Done
    ∷ told 1 (call.Load (view_of (3 ∷ []) 4) key_2) call.NotFound ∷ told 2 (call.Store 6 key_2 account_11) call.Done ∷ told 2 (call.Lease 4) call.Done
    ∷ told 1 (call.Load (view_of [] 0) key_2) (call.Refused (call.ViewTooOld 0 3)) ∷ told 1 (call.FlushBegin 3) (call.Refused (call.NothingCached 3))
    ∷ told 1 (call.ShrinkBegin 0) (call.Refused (call.NoStorage 0)) ∷ told 1 call.Recycle (call.Recycled 0)
    ∷ told 1 (call.ShrinkBegin 3) (call.ShrinkBegun 1 3 136) ∷ told 1 (call.Store 6 key_2 tomb) call.Done
    ∷ told 2 call.Stats (call.Counted (counts 2 1 1 0 1 2 408 1)) ∷ told 2 (call.FlushBegin 1) (call.Refused (call.NothingCached 1))
    ∷ told 1 (call.ShrinkBegin 3) (call.Refused (call.Shrinking 3 3)) ∷ told 2 (call.ShrinkBegin 3) (call.Refused (call.Shrinking 3 3))
    ∷ told 1 (call.Raise 4) (call.Raised 4) ∷ told 1 (call.Reclaim None 256) (call.Reclaimed key_2)
    ∷ told 1 (call.Reclaim (Some key_2) 256) call.NothingLeft ∷ told 1 (call.Store 6 key_2 tomb) call.Done ∷ told 1 (call.Lease 4) call.Done
    ∷ told 1 (call.ShrinkBegin 1) (call.Refused (call.NoStorage 1)) ∷ told 1 (call.Raise 4) (call.Raised 4)
    ∷ told 1 (call.Reclaim None 256) call.NothingLeft ∷ told 1 (call.ShrinkEnd 3) (call.Superseded 3 1)
    ∷ told 1 (call.Load (view_of (6 ∷ []) 3) key_2) (call.Refused (call.ViewTooOld 3 4)) ∷ told 1 (call.Reclaim None 256) call.NothingLeft
    ∷ told 1 (call.Store 6 key_2 tomb) call.Done ∷ told 2 (call.Root 6) call.Done ∷ told 1 (call.Raise 4) (call.Raised 4)
    ∷ told 1 (call.Reclaim None 256) call.NothingLeft ∷ [])

abbrev last_6 : State
last_6 = record {
  stores =
      (stored 3 key_1 tomb ∷ stored 3 key_2 tomb ∷ stored 6 key_1 account_20 ∷ stored 6 key_2 tomb ∷ stored 6 key_2 account_11 ∷ stored 6 key_2 tomb
      ∷ stored 6 key_2 tomb ∷ stored 6 key_2 tomb ∷ []);
  roots = (1 ∷ 3 ∷ 4 ∷ 6 ∷ []);
  cleaned = 4;
  leases = (lease 2 4 ∷ lease 1 4 ∷ []);
  flushed = (3 ∷ []);
  storages = (storage 1 3 (row key_1 tomb ∷ row key_2 tomb ∷ []) 272 Retired ∷ []);
  named = [];
  pins = [];
  shrinks = [];
  snap = None;
  next_id = 4;
  budget = 600;
}

history_6 : run (fresh 600 1) (calls_of events_6) ≡ (last_6, replies_of events_6)
history_6 = refl

abbrev events_7 : List Event
events_7 =
    (told 2 call.Stats (call.Counted (counts 0 0 0 0 0 0 0 0)) ∷ told 1 (call.Load (view_of [] 0) key_3) call.NotFound
    ∷ told 1 (call.Lease 0) call.Done ∷ told 1 (call.Root 3) call.Done ∷ told 2 call.Recycle (call.Recycled 0) ∷ told 2 (call.Root 7) call.Done
    ∷ told 2 (call.Store 11 key_3 account_5) call.Done ∷ told 1 (call.EndLease 0) call.Done ∷ told 1 (call.Store 9 key_3 account_11) call.Done
    ∷ told 1 (call.Root 8) call.Done ∷ told 1 (call.FlushBegin 8) (call.Refused (call.NothingCached 8)) ∷ told 1 (call.Raise 8) (call.Raised 8)
    ∷ told 1 (call.Reclaim None 256) (call.Reclaimed key_3) ∷ told 1 (call.Reclaim (Some key_3) 256) call.NothingLeft
    ∷ told 1 (call.Load (view_of (11 ∷ []) 8) key_3) (call.Found 11 call.Cached account_5) ∷ told 1 (call.SnapBegin 8) (call.SnapBegun 0)
    ∷ told 1 (call.SnapEnd 8) call.Done ∷ told 2 (call.Store 11 key_3 account_21) call.Done ∷ told 1 (call.Store 9 key_3 account_22) call.Done
    ∷ told 2 (call.Store 9 key_3 account_18) call.Done ∷ told 2 (call.Root 9) call.Done ∷ told 1 (call.Purge 11) (call.Purged 1)
    ∷ told 2 (call.FlushBegin 9) (call.FlushBegun 1 136) ∷ told 2 (call.FlushEnd 9) call.Done ∷ told 2 (call.Reclaim (Some key_3) 2) call.NothingLeft
    ∷ told 1 (call.Root 13) call.Done ∷ told 2 (call.ShrinkBegin 10) (call.Refused (call.NoStorage 10))
    ∷ told 2 (call.Reclaim (Some key_3) 1) call.NothingLeft ∷ told 2 call.Stats (call.Counted (counts 0 0 1 0 1 1 136 0))
    ∷ told 2 (call.Reclaim None 256) call.NothingLeft ∷ told 1 (call.Store 14 key_3 tomb) call.Done
    ∷ told 2 (call.Load (view_of (8 ∷ 9 ∷ 14 ∷ []) 18446744073709551615) key_3) call.NotFound ∷ told 2 (call.Store 14 key_3 account_13) call.Done
    ∷ told 1 (call.Load (view_of [] 18446744073709551615) key_3) (call.Found 9 (call.InStorage 1) account_18)
    ∷ told 1 (call.Load (view_of [] 18446744073709551615) key_3) (call.Found 9 (call.InStorage 1) account_18)
    ∷ told 1 (call.Load (view_of [] 18446744073709551615) key_3) (call.Found 9 (call.InStorage 1) account_18)
    ∷ told 1 (call.Load (view_of [] 18446744073709551615) key_3) (call.Found 9 (call.InStorage 1) account_18)
    ∷ told 1 (call.Load (view_of [] 18446744073709551615) key_3) (call.Found 9 (call.InStorage 1) account_18)
    ∷ told 1 (call.Load (view_of [] 18446744073709551615) key_3) (call.Found 9 (call.InStorage 1) account_18)
    ∷ told 1 (call.Load (view_of [] 18446744073709551615) key_3) (call.Found 9 (call.InStorage 1) account_18)
    ∷ told 1 (call.Load (view_of [] 18446744073709551615) key_3) (call.Found 9 (call.InStorage 1) account_18)
    ∷ told 1 (call.Load (view_of [] 18446744073709551615) key_3) (call.Found 9 (call.InStorage 1) account_18)
    ∷ told 1 (call.Load (view_of [] 18446744073709551615) key_3) (call.Found 9 (call.InStorage 1) account_18)
    ∷ told 1 (call.Load (view_of [] 18446744073709551615) key_3) (call.Found 9 (call.InStorage 1) account_18)
    ∷ told 1 (call.Load (view_of [] 18446744073709551615) key_3) (call.Found 9 (call.InStorage 1) account_18)
    ∷ told 1 (call.Load (view_of [] 18446744073709551615) key_3) (call.Found 9 (call.InStorage 1) account_18)
    ∷ told 1 (call.Load (view_of [] 18446744073709551615) key_3) (call.Found 9 (call.InStorage 1) account_18)
    ∷ told 1 (call.Load (view_of [] 18446744073709551615) key_3) (call.Found 9 (call.InStorage 1) account_18)
    ∷ told 1 (call.Load (view_of [] 18446744073709551615) key_3) (call.Found 9 (call.InStorage 1) account_18)
    ∷ told 1 (call.Load (view_of [] 18446744073709551615) key_3) (call.Found 9 (call.InStorage 1) account_18)
    ∷ told 1 (call.Load (view_of [] 18446744073709551615) key_3) (call.Found 9 (call.InStorage 1) account_18)
    ∷ told 1 (call.Load (view_of [] 18446744073709551615) key_3) (call.Found 9 (call.InStorage 1) account_18)
    ∷ told 1 (call.Load (view_of [] 18446744073709551615) key_3) (call.Found 9 (call.InStorage 1) account_18)
    ∷ told 1 (call.Load (view_of [] 18446744073709551615) key_3) (call.Found 9 (call.InStorage 1) account_18)
    ∷ told 1 (call.Load (view_of [] 18446744073709551615) key_3) (call.Found 9 (call.InStorage 1) account_18)
    ∷ told 1 (call.Load (view_of [] 18446744073709551615) key_3) (call.Found 9 (call.InStorage 1) account_18)
    ∷ told 1 (call.Load (view_of [] 18446744073709551615) key_3) (call.Found 9 (call.InStorage 1) account_18)
    ∷ told 1 (call.Load (view_of [] 18446744073709551615) key_3) (call.Found 9 (call.InStorage 1) account_18)
    ∷ told 1 (call.Load (view_of [] 18446744073709551615) key_3) (call.Found 9 (call.InStorage 1) account_18)
    ∷ told 1 (call.Load (view_of [] 18446744073709551615) key_3) (call.Found 9 (call.InStorage 1) account_18)
    ∷ told 1 (call.Load (view_of [] 18446744073709551615) key_3) (call.Found 9 (call.InStorage 1) account_18)
    ∷ told 1 (call.Load (view_of [] 18446744073709551615) key_3) (call.Found 9 (call.InStorage 1) account_18)
    ∷ told 1 (call.Load (view_of [] 18446744073709551615) key_3) (call.Found 9 (call.InStorage 1) account_18)
    ∷ told 1 (call.Load (view_of [] 18446744073709551615) key_3) (call.Found 9 (call.InStorage 1) account_18)
    ∷ told 1 (call.Load (view_of [] 18446744073709551615) key_3) (call.Found 9 (call.InStorage 1) account_18)
    ∷ told 1 (call.Load (view_of [] 18446744073709551615) key_3) (call.Found 9 (call.InStorage 1) account_18)
    ∷ told 1 (call.Load (view_of [] 18446744073709551615) key_3) (call.Found 9 (call.InStorage 1) account_18)
    ∷ told 1 (call.Load (view_of [] 18446744073709551615) key_3) (call.Found 9 (call.InStorage 1) account_18)
    ∷ told 1 (call.Load (view_of [] 18446744073709551615) key_3) (call.Found 9 (call.InStorage 1) account_18)
    ∷ told 1 (call.Load (view_of [] 18446744073709551615) key_3) (call.Found 9 (call.InStorage 1) account_18)
    ∷ told 1 (call.Load (view_of [] 18446744073709551615) key_3) (call.Found 9 (call.InStorage 1) account_18)
    ∷ told 1 (call.Load (view_of [] 18446744073709551615) key_3) (call.Found 9 (call.InStorage 1) account_18)
    ∷ told 1 (call.Load (view_of [] 18446744073709551615) key_3) (call.Found 9 (call.InStorage 1) account_18)
    ∷ told 1 (call.Load (view_of [] 18446744073709551615) key_3) (call.Found 9 (call.InStorage 1) account_18)
    ∷ told 1 (call.Load (view_of [] 18446744073709551615) key_3) (call.Found 9 (call.InStorage 1) account_18)
    ∷ told 1 (call.Load (view_of [] 18446744073709551615) key_3) (call.Found 9 (call.InStorage 1) account_18)
    ∷ told 1 (call.Load (view_of [] 18446744073709551615) key_3) (call.Found 9 (call.InStorage 1) account_18)
    ∷ told 1 (call.Load (view_of [] 18446744073709551615) key_3) (call.Found 9 (call.InStorage 1) account_18)
    ∷ told 1 (call.Load (view_of [] 18446744073709551615) key_3) (call.Found 9 (call.InStorage 1) account_18)
    ∷ told 1 (call.Load (view_of [] 18446744073709551615) key_3) (call.Found 9 (call.InStorage 1) account_18)
    ∷ told 1 (call.Load (view_of [] 18446744073709551615) key_3) (call.Found 9 (call.InStorage 1) account_18)
    ∷ told 1 (call.Load (view_of [] 18446744073709551615) key_3) (call.Found 9 (call.InStorage 1) account_18)
    ∷ told 1 (call.Load (view_of [] 18446744073709551615) key_3) (call.Found 9 (call.InStorage 1) account_18)
    ∷ told 1 (call.Load (view_of [] 18446744073709551615) key_3) (call.Found 9 (call.InStorage 1) account_18)
    ∷ told 1 (call.Load (view_of [] 18446744073709551615) key_3) (call.Found 9 (call.InStorage 1) account_18)
    ∷ told 1 (call.Load (view_of [] 18446744073709551615) key_3) (call.Found 9 (call.InStorage 1) account_18)
    ∷ told 1 (call.Load (view_of [] 18446744073709551615) key_3) (call.Found 9 (call.InStorage 1) account_18)
    ∷ told 1 (call.Load (view_of [] 18446744073709551615) key_3) (call.Found 9 (call.InStorage 1) account_18)
    ∷ told 1 (call.Load (view_of [] 18446744073709551615) key_3) (call.Found 9 (call.InStorage 1) account_18)
    ∷ told 1 (call.Load (view_of [] 18446744073709551615) key_3) (call.Found 9 (call.InStorage 1) account_18)
    ∷ told 1 (call.Load (view_of [] 18446744073709551615) key_3) (call.Found 9 (call.InStorage 1) account_18)
    ∷ told 1 (call.Load (view_of [] 18446744073709551615) key_3) (call.Found 9 (call.InStorage 1) account_18)
    ∷ told 1 (call.Load (view_of [] 18446744073709551615) key_3) (call.Found 9 (call.InStorage 1) account_18)
    ∷ told 1 (call.Load (view_of [] 18446744073709551615) key_3) (call.Found 9 (call.InStorage 1) account_18)
    ∷ told 1 (call.Load (view_of [] 18446744073709551615) key_3) (call.Found 9 (call.InStorage 1) account_18)
    ∷ told 1 (call.Load (view_of [] 18446744073709551615) key_3) (call.Found 9 (call.InStorage 1) account_18)
    ∷ told 1 (call.Load (view_of [] 18446744073709551615) key_3) (call.Found 9 (call.InStorage 1) account_18)
    ∷ told 1 (call.Load (view_of [] 18446744073709551615) key_3) (call.Refused (call.TooManyPins 64))
    ∷ told 1 (call.Load (view_of [] 18446744073709551615) key_3) (call.Refused (call.TooManyPins 64)) ∷ [])

abbrev last_7 : State
last_7 = record {
  stores =
      (stored 9 key_3 account_11 ∷ stored 9 key_3 account_22 ∷ stored 9 key_3 account_18 ∷ stored 14 key_3 tomb ∷ stored 14 key_3 account_13 ∷ []);
  roots = (3 ∷ 7 ∷ 8 ∷ 9 ∷ 13 ∷ []);
  cleaned = 8;
  leases = [];
  flushed = (9 ∷ []);
  storages = (storage 1 9 (row key_3 account_18 ∷ []) 136 Live ∷ []);
  named = (pair 9 key_3 ∷ []);
  pins =
      (pin 1 1 ∷ pin 1 1 ∷ pin 1 1 ∷ pin 1 1 ∷ pin 1 1 ∷ pin 1 1 ∷ pin 1 1 ∷ pin 1 1 ∷ pin 1 1 ∷ pin 1 1 ∷ pin 1 1 ∷ pin 1 1 ∷ pin 1 1 ∷ pin 1 1
      ∷ pin 1 1 ∷ pin 1 1 ∷ pin 1 1 ∷ pin 1 1 ∷ pin 1 1 ∷ pin 1 1 ∷ pin 1 1 ∷ pin 1 1 ∷ pin 1 1 ∷ pin 1 1 ∷ pin 1 1 ∷ pin 1 1 ∷ pin 1 1 ∷ pin 1 1
      ∷ pin 1 1 ∷ pin 1 1 ∷ pin 1 1 ∷ pin 1 1 ∷ pin 1 1 ∷ pin 1 1 ∷ pin 1 1 ∷ pin 1 1 ∷ pin 1 1 ∷ pin 1 1 ∷ pin 1 1 ∷ pin 1 1 ∷ pin 1 1 ∷ pin 1 1
      ∷ pin 1 1 ∷ pin 1 1 ∷ pin 1 1 ∷ pin 1 1 ∷ pin 1 1 ∷ pin 1 1 ∷ pin 1 1 ∷ pin 1 1 ∷ pin 1 1 ∷ pin 1 1 ∷ pin 1 1 ∷ pin 1 1 ∷ pin 1 1 ∷ pin 1 1
      ∷ pin 1 1 ∷ pin 1 1 ∷ pin 1 1 ∷ pin 1 1 ∷ pin 1 1 ∷ pin 1 1 ∷ pin 1 1 ∷ pin 1 1 ∷ []);
  shrinks = [];
  snap = None;
  next_id = 2;
  budget = 4294967296;
}

history_7 : run (fresh 4294967296 1) (calls_of events_7) ≡ (last_7, replies_of events_7)
history_7 = refl

abbrev events_8 : List Event
events_8 =
    (told 1 (call.Store 3 key_3 tomb) call.Done ∷ told 2 (call.Store 2 key_4 tomb) call.Done ∷ told 1 (call.Lease 0) call.Done
    ∷ told 2 (call.Purge 2) (call.Purged 1) ∷ told 2 (call.ShrinkBegin 0) (call.Refused (call.NoStorage 0)) ∷ told 2 call.Recycle (call.Recycled 0)
    ∷ told 2 (call.Reclaim (Some key_4) 256) call.NothingLeft ∷ told 2 (call.Lease 18446744073709551615) call.Done ∷ told 1 (call.Root 1) call.Done
    ∷ told 2 (call.Unpin 9) (call.Refused (call.NotPinned 9)) ∷ told 1 (call.SnapBegin 1) (call.SnapBegun 0) ∷ told 1 (call.SnapEnd 1) call.Done
    ∷ told 1 (call.Store 3 key_4 account_3) call.Done ∷ told 2 (call.Root 3) call.Done ∷ told 1 (call.Store 4 key_3 account_0) call.Done
    ∷ told 1 (call.Root 4) call.Done ∷ told 2 (call.Store 5 key_4 account_0) call.Done
    ∷ told 2 (call.Load (view_of (4 ∷ []) 1) key_3) (call.Found 4 call.Cached account_0) ∷ told 1 (call.Load (view_of [] 1) key_4) call.NotFound
    ∷ told 2 (call.ShrinkBegin 4) (call.Refused (call.NoStorage 4)) ∷ told 2 (call.Store 5 key_3 account_11) call.Done
    ∷ told 1 (call.Store 5 key_3 tomb) call.Done ∷ told 2 (call.FlushBegin 3) (call.FlushBegun 1 272)
    ∷ told 1 (call.FlushBegin 1) (call.Refused (call.NothingCached 1)) ∷ told 2 (call.FlushBegin 4) (call.FlushBegun 2 136)
    ∷ told 2 (call.FlushEnd 4) call.Done ∷ told 2 (call.Store 5 key_3 account_0) call.Done ∷ told 1 (call.SnapBegin 1) (call.SnapBegun 0)
    ∷ told 1 (call.SnapEnd 1) call.Done ∷ told 2 (call.Store 0 key_4 tomb) (call.Refused (call.SlotRooted 0 4))
    ∷ told 1 (call.Purge 6) (call.Purged 0) ∷ told 1 call.Recycle (call.Recycled 0) ∷ told 1 (call.ShrinkAbort 0) (call.Refused (call.NotShrinking 0))
    ∷ told 2 (call.Raise 1) (call.Refused (call.Leased 1 0)) ∷ told 1 (call.ShrinkBegin 1) (call.Refused (call.NoStorage 1))
    ∷ told 2 (call.Raise 7) (call.Refused (call.PastRoot 7 (Some 4)))
    ∷ told 1 (call.Load (view_of (3 ∷ []) 4) key_4) (call.Found 3 call.Cached account_3) ∷ told 1 call.Recycle (call.Recycled 0)
    ∷ told 2 (call.Purge 5) (call.Purged 2) ∷ told 1 call.Recycle (call.Recycled 0)
    ∷ told 2 (call.Load (view_of (1 ∷ 3 ∷ []) 18446744073709551615) key_3) (call.Found 4 (call.InStorage 2) account_0)
    ∷ told 2 (call.ShrinkBegin 4) (call.Refused (call.NothingDead 4)) ∷ told 1 (call.Root 5) call.Done ∷ told 1 (call.SnapBegin 1) (call.SnapBegun 0)
    ∷ told 2 (call.FlushBegin 0) (call.Refused (call.NotRooted 0)) ∷ told 2 (call.FlushEnd 3) call.Done
    ∷ told 1 (call.ShrinkAbort 1) (call.Refused (call.NotShrinking 1)) ∷ told 2 (call.ShrinkBegin 2) (call.Refused (call.NoStorage 2))
    ∷ told 2 (call.Raise 4) (call.Refused (call.Leased 4 0)) ∷ told 2 (call.Store 4 key_3 account_13) (call.Refused (call.SlotRooted 4 5))
    ∷ told 1 (call.Store 7 key_3 account_3) call.Done ∷ told 2 (call.SnapBegin 3) (call.Refused (call.SnapOpen 1))
    ∷ told 1 (call.EndLease 0) call.Done ∷ told 2 (call.ShrinkBegin 8) (call.Refused (call.NoStorage 8))
    ∷ told 2 (call.SnapBegin 5) (call.Refused (call.SnapOpen 1)) ∷ told 2 call.Recycle (call.Recycled 0) ∷ told 2 (call.Raise 5) (call.Raised 5)
    ∷ told 2 (call.Reclaim None 256) (call.Reclaimed key_3) ∷ told 2 (call.Reclaim (Some key_3) 256) call.NothingLeft
    ∷ told 1 (call.Store 7 key_3 account_2) call.Done ∷ [])

abbrev last_8 : State
last_8 = record {
  stores = (stored 3 key_3 tomb ∷ stored 3 key_4 account_3 ∷ stored 4 key_3 account_0 ∷ stored 7 key_3 account_3 ∷ stored 7 key_3 account_2 ∷ []);
  roots = (1 ∷ 3 ∷ 4 ∷ 5 ∷ []);
  cleaned = 5;
  leases = (lease 2 18446744073709551615 ∷ []);
  flushed = (4 ∷ 3 ∷ []);
  storages = (storage 1 3 (row key_3 tomb ∷ row key_4 account_3 ∷ []) 272 Live ∷ storage 2 4 (row key_3 account_0 ∷ []) 136 Live ∷ []);
  named = (pair 4 key_3 ∷ pair 3 key_4 ∷ []);
  pins = (pin 2 2 ∷ []);
  shrinks = [];
  snap = Some (snap 1 []);
  next_id = 3;
  budget = 600;
}

history_8 : run (fresh 600 1) (calls_of events_8) ≡ (last_8, replies_of events_8)
history_8 = refl

abbrev events_9 : List Event
events_9 =
    (told 1 call.Recycle (call.Recycled 0) ∷ told 1 (call.ShrinkEnd 4) (call.Refused (call.NotShrinking 4)) ∷ told 1 (call.Root 0) call.Done
    ∷ told 2 (call.Load (view_of [] 0) key_3) call.NotFound ∷ told 1 (call.Root 1) call.Done
    ∷ told 1 (call.FlushBegin 1) (call.Refused (call.NothingCached 1)) ∷ told 1 (call.Raise 1) (call.Raised 1)
    ∷ told 1 (call.Reclaim None 256) call.NothingLeft ∷ told 1 (call.Store 5 key_2 account_11) call.Done
    ∷ told 1 (call.Store 5 key_2 account_3) call.Done ∷ told 2 (call.Load (view_of [] 2) key_3) call.NotFound
    ∷ told 2 (call.Load (view_of [] 1) key_3) call.NotFound ∷ told 2 (call.Lease 0) (call.Refused (call.ViewTooOld 0 1))
    ∷ told 2 (call.Unpin 6) (call.Refused (call.NotPinned 6)) ∷ told 1 (call.Root 2) call.Done
    ∷ told 1 (call.Load (view_of [] 0) key_4) (call.Refused (call.ViewTooOld 0 1)) ∷ told 2 (call.Purge 5) (call.Purged 1)
    ∷ told 2 (call.Store 4 key_3 account_0) call.Done ∷ told 2 (call.Reclaim None 256) call.NothingLeft
    ∷ told 2 (call.Store 5 key_2 account_23) call.Done ∷ told 1 (call.Root 5) call.Done
    ∷ told 2 (call.FlushBegin 5) (call.FlushBegun 18446744073709551613 136) ∷ told 1 (call.Store 6 key_4 account_0) call.Done
    ∷ told 2 (call.FlushEnd 5) call.Done ∷ told 2 call.Recycle (call.Recycled 0) ∷ told 2 (call.Load (view_of (1 ∷ []) 5) key_4) call.NotFound
    ∷ told 2 (call.Root 6) call.Done ∷ told 1 (call.Root 9) call.Done ∷ told 1 (call.Raise 9) (call.Raised 9)
    ∷ told 1 (call.Store 11 key_2 account_3) call.Done ∷ told 2 (call.FlushBegin 6) (call.FlushBegun 18446744073709551614 136)
    ∷ told 2 (call.FlushEnd 6) call.Done ∷ told 1 (call.Purge 11) (call.Purged 1) ∷ told 1 (call.FlushBegin 8) (call.Refused (call.NotRooted 8))
    ∷ told 2 (call.FlushBegin 9) (call.Refused (call.NothingCached 9)) ∷ told 2 (call.FlushBegin 9) (call.Refused (call.NothingCached 9))
    ∷ told 2 call.Stats (call.Counted (counts 1 0 2 0 2 2 272 0)) ∷ told 1 (call.Store 13 key_2 account_3) call.Done
    ∷ told 1 (call.ShrinkEnd 8) (call.Refused (call.NotShrinking 8)) ∷ told 1 (call.FlushEnd 7) (call.Refused (call.NotFlushing 7))
    ∷ told 1 (call.Root 13) call.Done ∷ told 1 (call.Store 14 key_4 account_3) call.Done ∷ told 1 (call.Reclaim None 2) (call.Reclaimed key_4)
    ∷ told 1 (call.Root 14) call.Done ∷ told 1 (call.Store 15 key_5 tomb) call.Done ∷ told 2 (call.Lease 17) call.Done
    ∷ told 1 (call.Load (view_of (9 ∷ []) 18446744073709551615) key_4) (call.Found 14 call.Cached account_3)
    ∷ told 1 (call.Store 15 key_4 account_15) call.Done ∷ told 2 (call.SnapBegin 9) (call.SnapBegun 2) ∷ told 2 (call.SnapEnd 9) call.Done
    ∷ told 2 (call.ShrinkBegin 16) (call.Refused (call.NoStorage 16)) ∷ told 2 (call.Reclaim None 2) (call.Reclaimed key_4)
    ∷ told 2 (call.FlushBegin 13) (call.Refused call.IdsSpent) ∷ told 2 (call.Lease 12) call.Done ∷ told 1 (call.Store 15 key_2 account_24) call.Done
    ∷ told 1 (call.Root 15) call.Done ∷ told 1 (call.FlushBegin 15) (call.Refused (call.Full 272 408 600))
    ∷ told 1 (call.Raise 15) (call.Refused (call.Leased 15 12)) ∷ told 2 (call.Store 16 key_5 tomb) call.Done
    ∷ told 1 call.Stats (call.Counted (counts 7 0 2 0 2 2 272 0)) ∷ [])

abbrev last_9 : State
last_9 = record {
  stores =
      (stored 4 key_3 account_0 ∷ stored 5 key_2 account_23 ∷ stored 6 key_4 account_0 ∷ stored 13 key_2 account_3 ∷ stored 14 key_4 account_3
      ∷ stored 15 key_5 tomb ∷ stored 15 key_4 account_15 ∷ stored 15 key_2 account_24 ∷ stored 16 key_5 tomb ∷ []);
  roots = (0 ∷ 1 ∷ 2 ∷ 5 ∷ 6 ∷ 9 ∷ 13 ∷ 14 ∷ 15 ∷ []);
  cleaned = 9;
  leases = (lease 2 17 ∷ lease 2 12 ∷ []);
  flushed = (5 ∷ 6 ∷ []);
  storages =
      (storage 18446744073709551613 5 (row key_2 account_23 ∷ []) 136 Live ∷ storage 18446744073709551614 6 (row key_4 account_0 ∷ []) 136 Live ∷ []);
  named = (pair 5 key_2 ∷ pair 6 key_4 ∷ []);
  pins = [];
  shrinks = [];
  snap = None;
  next_id = 18446744073709551615;
  budget = 600;
}

history_9 : run (fresh 600 18446744073709551613) (calls_of events_9) ≡ (last_9, replies_of events_9)
history_9 = refl
