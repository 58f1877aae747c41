-- Further such histories from a new state.
use Rattle.std.proofs.Common.{◌≡◌, List, [], ◌∷◌, Some, None, refl}
use Rattle.adb_model.specs.Account.{tomb}
use Rattle.adb_model.specs.View.{view_of}
use Rattle.adb_model.specs.State.{Live, Retired, State, fresh}
use Rattle.adb_model.specs.Call as call
use Rattle.adb_model.specs.Call.{Call, Reply, Event}
use Rattle.adb_model.specs.History.{run}
use Rattle.adb_model.proofs.PlayedValues.{counts, stored, row, storage, pair, pin, lease, snap, told, calls_of, replies_of, key_0, account_0, key_1, key_2, key_3, account_2, key_4, account_3, account_5, account_6, key_5, account_9, account_11, account_13, account_14, account_15, account_18, account_24, account_25, account_26, account_27, account_28, account_29, account_30, account_31, account_32, account_33, account_34, account_35, account_36, account_37, account_38, account_39}

abbrev events_10 : List Event
events_10 =
    (told 1 (call.Root 3) call.Done ∷ told 1 (call.FlushBegin 3) (call.Refused (call.NothingCached 3))
    ∷ told 1 (call.Store 4 key_5 account_3) call.Done ∷ told 2 (call.Raise 3) (call.Raised 3) ∷ told 2 (call.Reclaim None 256) call.NothingLeft
    ∷ told 1 (call.Store 6 key_4 account_25) call.Done ∷ told 2 (call.Reclaim (Some key_0) 1) call.NothingLeft
    ∷ told 1 (call.Store 5 key_5 tomb) call.Done ∷ told 2 (call.SnapBegin 3) (call.SnapBegun 0) ∷ told 1 (call.Root 4) call.Done
    ∷ told 2 (call.Store 5 key_4 account_11) call.Done ∷ told 1 (call.Store 8 key_0 account_3) call.Done
    ∷ told 2 (call.Store 6 key_5 account_5) call.Done
    ∷ told 2 (call.EndLease 18446744073709551615) (call.Refused (call.NotLeased 18446744073709551615))
    ∷ told 1 (call.FlushBegin 4) (call.FlushBegun 1 136)
    ∷ told 1 (call.Load (view_of [] 18446744073709551615) key_5) (call.Found 4 call.Cached account_3)
    ∷ told 2 (call.Root 2) (call.Refused (call.RootOrder 2 4)) ∷ told 1 (call.Lease 1) (call.Refused (call.ViewTooOld 1 3))
    ∷ told 1 (call.SnapBegin 4) (call.Refused (call.SnapOpen 3)) ∷ told 2 (call.Raise 3) (call.Raised 3)
    ∷ told 2 (call.Reclaim None 256) (call.Reclaimed key_4) ∷ told 2 (call.Reclaim (Some key_4) 256) call.NothingLeft
    ∷ told 2 (call.Purge 4) (call.Refused (call.Rooted 4)) ∷ told 1 (call.FlushEnd 4) call.Done
    ∷ told 2 (call.Lease 2) (call.Refused (call.ViewTooOld 2 3)) ∷ told 1 (call.SnapEnd 0) (call.Refused (call.NotSnapping 0))
    ∷ told 2 (call.Raise 3) (call.Raised 3) ∷ told 2 (call.Reclaim None 256) (call.Reclaimed key_4)
    ∷ told 2 (call.Reclaim (Some key_4) 256) call.NothingLeft ∷ told 2 (call.Reclaim None 256) (call.Reclaimed key_4)
    ∷ told 2 (call.Load (view_of (4 ∷ []) 2) key_0) (call.Refused (call.ViewTooOld 2 3)) ∷ told 1 call.Stats (call.Counted (counts 5 0 1 0 1 1 136 0))
    ∷ told 1 call.Recycle (call.Recycled 0) ∷ told 1 (call.Store 6 key_5 tomb) call.Done ∷ told 1 (call.Raise 3) (call.Raised 3)
    ∷ told 1 (call.Reclaim None 256) (call.Reclaimed key_4) ∷ told 1 (call.Reclaim (Some key_4) 256) call.NothingLeft
    ∷ told 1 (call.Lease 18446744073709551615) call.Done ∷ told 1 (call.Root 6) call.Done ∷ told 1 (call.FlushBegin 6) (call.FlushBegun 2 280)
    ∷ told 2 (call.FlushEnd 6) call.Done ∷ told 1 (call.SnapEnd 3) call.Done ∷ told 1 (call.Store 7 key_5 account_0) call.Done
    ∷ told 1 (call.Store 8 key_5 account_3) call.Done ∷ told 2 (call.ShrinkBegin 0) (call.Refused (call.NoStorage 0))
    ∷ told 2 (call.Load (view_of (4 ∷ []) 6) key_0) call.NotFound ∷ told 2 call.Stats (call.Counted (counts 5 0 2 0 3 3 416 0))
    ∷ told 2 (call.Store 7 key_0 account_26) call.Done ∷ told 2 (call.Store 7 key_0 account_3) call.Done
    ∷ told 2 (call.Load (view_of (7 ∷ []) 4) key_4) call.NotFound ∷ told 2 (call.Store 7 key_4 tomb) call.Done
    ∷ told 1 (call.EndLease 4) (call.Refused (call.NotLeased 4)) ∷ told 1 (call.ShrinkBegin 6) (call.Refused (call.NothingDead 6))
    ∷ told 1 (call.Raise 6) (call.Raised 6) ∷ told 1 (call.Store 8 key_4 account_13) call.Done ∷ told 1 (call.Purge 8) (call.Purged 3)
    ∷ told 2 (call.Raise 3) (call.Raised 6) ∷ told 2 (call.Reclaim None 256) (call.Reclaimed key_4)
    ∷ told 2 (call.Reclaim (Some key_4) 256) call.NothingLeft ∷ told 1 (call.FlushEnd 6) (call.Refused (call.NotFlushing 6)) ∷ [])

abbrev last_10 : State
last_10 = record {
  stores =
      (stored 4 key_5 account_3 ∷ stored 6 key_4 account_25 ∷ stored 5 key_5 tomb ∷ stored 5 key_4 account_11 ∷ stored 6 key_5 account_5
      ∷ stored 6 key_5 tomb ∷ stored 7 key_5 account_0 ∷ stored 7 key_0 account_26 ∷ stored 7 key_0 account_3 ∷ stored 7 key_4 tomb ∷ []);
  roots = (3 ∷ 4 ∷ 6 ∷ []);
  cleaned = 6;
  leases = (lease 1 18446744073709551615 ∷ []);
  flushed = (4 ∷ 6 ∷ []);
  storages = (storage 1 4 (row key_5 account_3 ∷ []) 136 Retired ∷ storage 2 6 (row key_4 account_25 ∷ row key_5 tomb ∷ []) 280 Live ∷ []);
  named = (pair 6 key_4 ∷ pair 6 key_5 ∷ []);
  pins = [];
  shrinks = [];
  snap = None;
  next_id = 3;
  budget = 4294967296;
}

history_10 : run (fresh 4294967296 1) (calls_of events_10) ≡ (last_10, replies_of events_10)
history_10 = refl

abbrev events_11 : List Event
events_11 =
    (told 1 (call.Lease 18446744073709551615) call.Done ∷ told 1 (call.Lease 1) call.Done ∷ told 1 (call.Reclaim (Some key_2) 1) call.NothingLeft
    ∷ told 1 (call.Store 3 key_0 account_27) call.Done ∷ told 2 (call.Load (view_of (3 ∷ []) 1) key_0) (call.Found 3 call.Cached account_27)
    ∷ told 1 (call.Root 3) call.Done ∷ told 2 (call.Load (view_of [] 0) key_3) call.NotFound ∷ told 1 (call.Store 5 key_2 account_11) call.Done
    ∷ told 1 (call.Root 5) call.Done ∷ told 1 (call.FlushBegin 3) (call.FlushBegun 18446744073709551613 144) ∷ told 1 (call.FlushEnd 3) call.Done
    ∷ told 1 (call.Store 6 key_3 tomb) call.Done ∷ told 2 (call.Store 6 key_3 account_0) call.Done
    ∷ told 2 (call.FlushBegin 5) (call.FlushBegun 18446744073709551614 136) ∷ told 2 (call.FlushEnd 5) call.Done
    ∷ told 1 (call.FlushBegin 2) (call.Refused (call.NotRooted 2)) ∷ told 1 (call.Reclaim (Some key_0) 256) call.NothingLeft
    ∷ told 1 (call.Raise 7) (call.Refused (call.PastRoot 7 (Some 5))) ∷ told 2 (call.Store 6 key_2 tomb) call.Done
    ∷ told 1 (call.ShrinkAbort 0) (call.Refused (call.NotShrinking 0)) ∷ told 2 (call.Raise 9) (call.Refused (call.PastRoot 9 (Some 5)))
    ∷ told 2 (call.EndLease 18446744073709551615) (call.Refused (call.NotLeased 18446744073709551615)) ∷ told 2 (call.Purge 6) (call.Purged 2)
    ∷ told 1 (call.Load (view_of (5 ∷ []) 5) key_0) (call.Found 3 (call.InStorage 18446744073709551613) account_27)
    ∷ told 2 (call.Load (view_of (1 ∷ 5 ∷ []) 0) key_3) call.NotFound ∷ told 2 (call.Load (view_of (3 ∷ 4 ∷ []) 0) key_4) call.NotFound
    ∷ told 2 (call.Root 6) call.Done ∷ told 1 call.Recycle (call.Recycled 0) ∷ told 1 (call.ShrinkBegin 8) (call.Refused (call.NoStorage 8))
    ∷ told 1 (call.Root 8) call.Done ∷ told 2 (call.SnapBegin 5) (call.SnapBegun 2)
    ∷ told 1 (call.Load (view_of (6 ∷ []) 18446744073709551615) key_0) (call.Found 3 (call.InStorage 18446744073709551613) account_27)
    ∷ told 1 (call.Unpin 18446744073709551613) call.Done ∷ told 2 (call.ShrinkBegin 8) (call.Refused (call.NoStorage 8))
    ∷ told 2 call.Recycle (call.Recycled 0) ∷ told 2 (call.Store 5 key_0 account_11) (call.Refused (call.SlotRooted 5 8))
    ∷ told 2 (call.Lease 6) call.Done ∷ told 2 (call.Load (view_of (3 ∷ 5 ∷ []) 0) key_4) call.NotFound ∷ told 1 (call.Store 10 key_4 tomb) call.Done
    ∷ told 2 call.Stats (call.Counted (counts 1 0 2 0 2 2 280 3)) ∷ told 1 (call.Root 9) call.Done
    ∷ told 1 (call.FlushBegin 9) (call.Refused (call.NothingCached 9)) ∷ told 1 (call.Raise 9) (call.Refused (call.Leased 9 1))
    ∷ told 2 call.Recycle (call.Recycled 0) ∷ told 2 (call.ShrinkBegin 5) (call.Refused (call.NothingDead 5))
    ∷ told 1 (call.SnapBegin 5) (call.Refused (call.SnapOpen 5)) ∷ told 1 (call.SnapEnd 5) call.Done
    ∷ told 1 (call.Load (view_of (8 ∷ []) 0) key_3) call.NotFound ∷ told 2 (call.Root 10) call.Done ∷ told 1 (call.Root 12) call.Done
    ∷ told 2 (call.Unpin 4) (call.Refused (call.NotPinned 4)) ∷ told 1 (call.Store 16 key_4 account_13) call.Done
    ∷ told 2 (call.SnapBegin 9) (call.SnapBegun 2) ∷ told 2 (call.SnapEnd 9) call.Done ∷ told 2 (call.Load (view_of [] 1) key_2) call.NotFound
    ∷ told 2 (call.Raise 6) (call.Refused (call.Leased 6 1)) ∷ told 1 (call.Store 11 key_3 account_28) (call.Refused (call.SlotRooted 11 12))
    ∷ told 1 (call.Load (view_of [] 18446744073709551615) key_2) (call.Found 5 (call.InStorage 18446744073709551614) account_11)
    ∷ told 1 (call.Unpin 18446744073709551614) call.Done ∷ told 2 (call.Store 16 key_3 account_11) call.Done ∷ [])

abbrev last_11 : State
last_11 = record {
  stores =
      (stored 3 key_0 account_27 ∷ stored 5 key_2 account_11 ∷ stored 10 key_4 tomb ∷ stored 16 key_4 account_13 ∷ stored 16 key_3 account_11 ∷ []);
  roots = (3 ∷ 5 ∷ 6 ∷ 8 ∷ 9 ∷ 10 ∷ 12 ∷ []);
  cleaned = 0;
  leases = (lease 1 18446744073709551615 ∷ lease 1 1 ∷ lease 2 6 ∷ []);
  flushed = (3 ∷ 5 ∷ []);
  storages =
      (storage 18446744073709551613 3 (row key_0 account_27 ∷ []) 144 Live ∷ storage 18446744073709551614 5 (row key_2 account_11 ∷ []) 136 Live ∷ []);
  named = (pair 3 key_0 ∷ pair 5 key_2 ∷ []);
  pins = (pin 1 18446744073709551613 ∷ []);
  shrinks = [];
  snap = None;
  next_id = 18446744073709551615;
  budget = 4294967296;
}

history_11 : run (fresh 4294967296 18446744073709551613) (calls_of events_11) ≡ (last_11, replies_of events_11)
history_11 = refl

abbrev events_12 : List Event
events_12 =
    (told 2 (call.Reclaim None 2) call.NothingLeft ∷ told 1 (call.ShrinkEnd 4) (call.Refused (call.NotShrinking 4))
    ∷ told 1 (call.Store 3 key_0 account_3) call.Done ∷ told 2 (call.Store 0 key_2 account_6) call.Done
    ∷ told 2 (call.Load (view_of (0 ∷ 3 ∷ []) 18446744073709551615) key_0) (call.Found 3 call.Cached account_3)
    ∷ told 2 call.Stats (call.Counted (counts 2 0 0 0 0 0 0 0)) ∷ told 1 (call.FlushBegin 0) (call.Refused (call.NotRooted 0))
    ∷ told 1 (call.Root 1) call.Done ∷ told 1 (call.Load (view_of (0 ∷ 1 ∷ 3 ∷ []) 18446744073709551615) key_2) (call.Found 0 call.Cached account_6)
    ∷ told 2 (call.Root 3) call.Done ∷ told 2 (call.ShrinkBegin 1) (call.Refused (call.NoStorage 1)) ∷ told 1 (call.Root 4) call.Done
    ∷ told 1 (call.FlushBegin 4) (call.Refused (call.NothingCached 4)) ∷ told 1 (call.Raise 4) (call.Raised 4)
    ∷ told 1 (call.Reclaim None 256) call.NothingLeft
    ∷ told 2 (call.Load (view_of (0 ∷ 1 ∷ 3 ∷ []) 18446744073709551615) key_2) (call.Found 0 call.Cached account_6)
    ∷ told 2 (call.ShrinkBegin 3) (call.Refused (call.NoStorage 3)) ∷ told 2 (call.SnapBegin 7) (call.Refused (call.NotRoot 7))
    ∷ told 1 (call.FlushBegin 3) (call.FlushBegun 18446744073709551613 136) ∷ told 1 (call.FlushEnd 3) call.Done
    ∷ told 2 (call.Purge 0) (call.Purged 1) ∷ told 1 (call.Load (view_of [] 4) key_2) call.NotFound
    ∷ told 1 (call.Load (view_of (1 ∷ 3 ∷ []) 18446744073709551615) key_2) call.NotFound
    ∷ told 2 (call.Load (view_of (1 ∷ 4 ∷ []) 4) key_0) (call.Found 3 (call.InStorage 18446744073709551613) account_3)
    ∷ told 2 (call.Unpin 18446744073709551613) call.Done ∷ told 1 (call.Store 4 key_0 account_3) (call.Refused (call.SlotRooted 4 4))
    ∷ told 2 (call.Store 5 key_0 tomb) call.Done ∷ told 2 call.Stats (call.Counted (counts 1 0 1 0 1 1 136 0))
    ∷ told 1 (call.Store 5 key_0 account_11) call.Done ∷ told 1 (call.Load (view_of (0 ∷ 4 ∷ []) 18446744073709551615) key_2) call.NotFound
    ∷ told 2 (call.Load (view_of (1 ∷ []) 4) key_2) call.NotFound ∷ told 2 (call.Load (view_of [] 4) key_2) call.NotFound
    ∷ told 1 (call.Load (view_of (4 ∷ []) 6) key_0) (call.Found 3 (call.InStorage 18446744073709551613) account_3)
    ∷ told 1 (call.Unpin 18446744073709551613) call.Done
    ∷ told 1 (call.Load (view_of (1 ∷ 3 ∷ []) 5) key_0) (call.Found 3 (call.InStorage 18446744073709551613) account_3)
    ∷ told 1 (call.Store 5 key_0 account_0) call.Done ∷ told 1 (call.Unpin 18446744073709551613) call.Done
    ∷ told 2 (call.Store 5 key_0 tomb) call.Done ∷ told 1 (call.Store 5 key_2 tomb) call.Done
    ∷ told 1 (call.Load (view_of (3 ∷ []) 3) key_2) (call.Refused (call.ViewTooOld 3 4)) ∷ told 2 (call.SnapEnd 4) (call.Refused (call.NotSnapping 4))
    ∷ told 1 (call.Reclaim None 1) (call.Reclaimed key_0) ∷ told 2 (call.Root 5) call.Done ∷ told 2 (call.Root 6) call.Done
    ∷ told 1 (call.FlushBegin 5) (call.FlushBegun 18446744073709551614 272) ∷ told 1 (call.FlushEnd 5) call.Done
    ∷ told 1 (call.Unpin 5) (call.Refused (call.NotPinned 5)) ∷ told 2 (call.Store 8 key_0 tomb) call.Done
    ∷ told 1 (call.Load (view_of (8 ∷ []) 4) key_0) call.NotFound ∷ told 1 (call.Lease 6) call.Done ∷ told 1 (call.Store 9 key_0 account_0) call.Done
    ∷ told 2 (call.Store 9 key_0 tomb) call.Done ∷ told 2 (call.Store 8 key_2 tomb) call.Done ∷ told 1 (call.Store 7 key_2 account_0) call.Done
    ∷ told 1 (call.Root 8) call.Done ∷ told 1 (call.SnapBegin 5) (call.SnapBegun 2) ∷ told 1 (call.SnapEnd 5) call.Done
    ∷ told 1 (call.FlushBegin 8) (call.Refused call.IdsSpent) ∷ told 2 (call.FlushBegin 8) (call.Refused call.IdsSpent)
    ∷ told 2 (call.Store 9 key_0 account_3) call.Done ∷ [])

abbrev last_12 : State
last_12 = record {
  stores =
      (stored 3 key_0 account_3 ∷ stored 5 key_0 tomb ∷ stored 5 key_0 account_11 ∷ stored 5 key_0 account_0 ∷ stored 5 key_0 tomb
      ∷ stored 5 key_2 tomb ∷ stored 8 key_0 tomb ∷ stored 9 key_0 account_0 ∷ stored 9 key_0 tomb ∷ stored 8 key_2 tomb ∷ stored 7 key_2 account_0
      ∷ stored 9 key_0 account_3 ∷ []);
  roots = (1 ∷ 3 ∷ 4 ∷ 5 ∷ 6 ∷ 8 ∷ []);
  cleaned = 4;
  leases = (lease 1 6 ∷ []);
  flushed = (3 ∷ 5 ∷ []);
  storages =
      (storage 18446744073709551613 3 (row key_0 account_3 ∷ []) 136 Live
      ∷ storage 18446744073709551614 5 (row key_0 tomb ∷ row key_2 tomb ∷ []) 272 Live ∷ []);
  named = (pair 3 key_0 ∷ pair 5 key_0 ∷ pair 5 key_2 ∷ []);
  pins = [];
  shrinks = [];
  snap = None;
  next_id = 18446744073709551615;
  budget = 4294967296;
}

history_12 : run (fresh 4294967296 18446744073709551613) (calls_of events_12) ≡ (last_12, replies_of events_12)
history_12 = refl

abbrev events_13 : List Event
events_13 =
    (told 1 (call.Store 2 key_0 account_5) call.Done ∷ told 2 (call.FlushEnd 0) (call.Refused (call.NotFlushing 0)) ∷ told 2 (call.Root 3) call.Done
    ∷ told 1 (call.Store 5 key_4 account_5) call.Done ∷ told 1 (call.Root 4) call.Done
    ∷ told 1 (call.FlushBegin 4) (call.Refused (call.NothingCached 4)) ∷ told 1 (call.Raise 4) (call.Raised 4)
    ∷ told 1 (call.Reclaim None 256) call.NothingLeft ∷ told 2 (call.SnapBegin 4) (call.SnapBegun 0) ∷ told 1 call.Recycle (call.Recycled 0)
    ∷ told 2 (call.Lease 18446744073709551615) call.Done ∷ told 2 (call.SnapBegin 4) (call.Refused (call.SnapOpen 4))
    ∷ told 2 call.Recycle (call.Recycled 0) ∷ told 2 (call.Root 4) (call.Refused (call.RootOrder 4 4))
    ∷ told 1 (call.Store 5 key_3 account_29) call.Done ∷ told 2 (call.Raise 3) (call.Raised 4) ∷ told 2 (call.Reclaim None 256) call.NothingLeft
    ∷ told 2 (call.Raise 3) (call.Raised 4) ∷ told 1 (call.Purge 7) (call.Purged 0) ∷ told 2 (call.Store 5 key_2 account_5) call.Done
    ∷ told 1 (call.SnapEnd 4) call.Done ∷ told 1 (call.Root 5) call.Done ∷ told 1 (call.Store 7 key_4 account_5) call.Done
    ∷ told 1 (call.SnapBegin 4) (call.SnapBegun 0) ∷ told 1 call.Recycle (call.Recycled 0)
    ∷ told 2 (call.FlushBegin 5) (call.FlushBegun 18446744073709551613 416) ∷ told 1 (call.FlushEnd 5) call.Done
    ∷ told 2 (call.SnapBegin 5) (call.Refused (call.SnapOpen 4))
    ∷ told 2 (call.Load (view_of (2 ∷ 5 ∷ []) 18446744073709551615) key_4) (call.Found 5 (call.InStorage 18446744073709551613) account_5)
    ∷ told 2 (call.Unpin 18446744073709551613) call.Done ∷ told 1 (call.Store 6 key_4 account_24) call.Done
    ∷ told 1 (call.Store 6 key_3 account_24) call.Done ∷ told 1 (call.Store 6 key_2 tomb) call.Done ∷ told 1 (call.Root 6) call.Done
    ∷ told 1 (call.FlushBegin 6) (call.FlushBegun 18446744073709551614 408) ∷ told 1 (call.FlushEnd 6) call.Done
    ∷ told 1 (call.Raise 6) (call.Raised 6) ∷ told 1 (call.Reclaim None 256) (call.Reclaimed key_4)
    ∷ told 1 (call.Reclaim (Some key_4) 256) call.NothingLeft ∷ told 1 (call.Load (view_of (2 ∷ []) 6) key_0) (call.Found 2 call.Cached account_5)
    ∷ told 2 call.Recycle (call.Recycled 1) ∷ told 1 (call.Load (view_of (3 ∷ 6 ∷ []) 0) key_2) (call.Refused (call.ViewTooOld 0 6))
    ∷ told 1 (call.ShrinkBegin 6) (call.Refused call.IdsSpent) ∷ told 2 (call.EndLease 18446744073709551615) call.Done
    ∷ told 2 (call.Store 2 key_4 account_30) (call.Refused (call.SlotRooted 2 6)) ∷ told 1 (call.Root 7) call.Done
    ∷ told 1 call.Stats (call.Counted (counts 2 0 1 0 2 3 408 0)) ∷ told 2 (call.Reclaim None 3) (call.Reclaimed key_4)
    ∷ told 1 (call.Load (view_of [] 1) key_0) (call.Refused (call.ViewTooOld 1 6)) ∷ told 2 (call.Root 10) call.Done
    ∷ told 2 (call.Load (view_of [] 7) key_2) call.NotFound ∷ told 1 (call.Lease 9) call.Done ∷ told 1 (call.Load (view_of [] 10) key_2) call.NotFound
    ∷ told 1 call.Recycle (call.Recycled 0) ∷ told 1 (call.ShrinkBegin 6) (call.Refused call.IdsSpent)
    ∷ told 1 (call.ShrinkBegin 6) (call.Refused call.IdsSpent) ∷ told 2 (call.Root 11) call.Done ∷ told 2 (call.Reclaim None 3) (call.Reclaimed key_4)
    ∷ told 2 (call.FlushBegin 7) (call.Refused call.IdsSpent) ∷ told 2 (call.ShrinkBegin 6) (call.Refused call.IdsSpent) ∷ [])

abbrev last_13 : State
last_13 = record {
  stores =
      (stored 2 key_0 account_5 ∷ stored 5 key_4 account_5 ∷ stored 5 key_3 account_29 ∷ stored 5 key_2 account_5 ∷ stored 7 key_4 account_5
      ∷ stored 6 key_4 account_24 ∷ stored 6 key_3 account_24 ∷ stored 6 key_2 tomb ∷ []);
  roots = (3 ∷ 4 ∷ 5 ∷ 6 ∷ 7 ∷ 10 ∷ 11 ∷ []);
  cleaned = 6;
  leases = (lease 1 9 ∷ []);
  flushed = (5 ∷ 6 ∷ []);
  storages = (storage 18446744073709551614 6 (row key_4 account_24 ∷ row key_3 account_24 ∷ row key_2 tomb ∷ []) 408 Live ∷ []);
  named = (pair 6 key_4 ∷ pair 6 key_3 ∷ []);
  pins = [];
  shrinks = [];
  snap = Some (snap 4 []);
  next_id = 18446744073709551615;
  budget = 4294967296;
}

history_13 : run (fresh 4294967296 18446744073709551613) (calls_of events_13) ≡ (last_13, replies_of events_13)
history_13 = refl

abbrev events_14 : List Event
events_14 =
    (told 2 (call.SnapBegin 0) (call.Refused (call.NotRoot 0)) ∷ told 2 (call.Reclaim (Some key_1) 3) call.NothingLeft
    ∷ told 2 (call.ShrinkBegin 0) (call.Refused (call.NoStorage 0)) ∷ told 2 (call.Purge 3) (call.Purged 0) ∷ told 1 (call.Root 1) call.Done
    ∷ told 1 (call.FlushBegin 1) (call.Refused (call.NothingCached 1)) ∷ told 1 (call.Raise 1) (call.Raised 1)
    ∷ told 1 (call.Reclaim None 256) call.NothingLeft ∷ told 2 (call.Load (view_of (1 ∷ []) 18446744073709551615) key_3) call.NotFound
    ∷ told 1 (call.Store 2 key_0 account_5) call.Done ∷ told 2 (call.Load (view_of [] 18446744073709551615) key_3) call.NotFound
    ∷ told 2 (call.Store 2 key_3 account_31) call.Done ∷ told 2 (call.ShrinkEnd 3) (call.Refused (call.NotShrinking 3))
    ∷ told 2 (call.Store 2 key_0 account_0) call.Done ∷ told 2 (call.ShrinkBegin 1) (call.Refused (call.NoStorage 1))
    ∷ told 1 (call.Raise 1) (call.Raised 1) ∷ told 1 (call.Reclaim None 256) call.NothingLeft ∷ told 2 (call.Raise 1) (call.Raised 1)
    ∷ told 2 (call.Reclaim None 256) call.NothingLeft ∷ told 1 call.Stats (call.Counted (counts 2 0 0 0 0 0 0 0))
    ∷ told 1 (call.Raise 1) (call.Raised 1) ∷ told 2 (call.Load (view_of [] 0) key_2) (call.Refused (call.ViewTooOld 0 1))
    ∷ told 2 (call.FlushEnd 1) (call.Refused (call.NotFlushing 1))
    ∷ told 1 (call.Load (view_of (0 ∷ 1 ∷ []) 18446744073709551615) key_1) call.NotFound ∷ told 1 (call.Reclaim (Some key_0) 3) call.NothingLeft
    ∷ told 1 (call.Raise 1) (call.Raised 1) ∷ told 1 (call.Reclaim None 256) call.NothingLeft
    ∷ told 2 (call.ShrinkBegin 0) (call.Refused (call.NoStorage 0)) ∷ told 1 (call.Store 2 key_0 account_15) call.Done
    ∷ told 1 (call.Raise 1) (call.Raised 1) ∷ told 1 (call.Reclaim None 256) call.NothingLeft ∷ told 2 call.Recycle (call.Recycled 0)
    ∷ told 1 (call.Reclaim None 3) call.NothingLeft ∷ told 2 (call.Raise 1) (call.Raised 1) ∷ told 2 (call.Reclaim None 256) call.NothingLeft
    ∷ told 2 (call.Store 2 key_0 account_0) call.Done ∷ told 1 (call.Root 1) (call.Refused (call.RootOrder 1 1))
    ∷ told 2 (call.Lease 0) (call.Refused (call.ViewTooOld 0 1)) ∷ told 1 (call.SnapBegin 5) (call.Refused (call.NotRoot 5))
    ∷ told 2 (call.SnapBegin 1) (call.SnapBegun 0) ∷ told 1 (call.Raise 1) (call.Raised 1) ∷ told 1 (call.Reclaim None 256) call.NothingLeft
    ∷ told 2 (call.Lease 18446744073709551615) call.Done ∷ told 2 (call.Raise 1) (call.Raised 1) ∷ told 2 (call.Reclaim None 256) call.NothingLeft
    ∷ told 1 (call.Root 2) call.Done ∷ told 1 (call.FlushBegin 2) (call.FlushBegun 1 272) ∷ told 1 (call.FlushEnd 2) call.Done
    ∷ told 1 (call.Raise 2) (call.Raised 2) ∷ told 1 (call.Reclaim None 256) call.NothingLeft ∷ told 2 (call.SnapEnd 1) call.Done
    ∷ told 1 (call.Load (view_of (2 ∷ []) 18446744073709551615) key_3) (call.Found 2 (call.InStorage 1) account_31) ∷ told 1 (call.Unpin 1) call.Done
    ∷ told 2 (call.Store 1 key_4 account_6) (call.Refused (call.SlotRooted 1 2)) ∷ told 2 (call.SnapBegin 2) (call.SnapBegun 1)
    ∷ told 1 (call.Store 5 key_0 account_3) call.Done ∷ told 2 (call.Raise 2) (call.Raised 2) ∷ told 2 (call.Reclaim None 256) (call.Reclaimed key_0)
    ∷ told 2 (call.Reclaim (Some key_0) 256) call.NothingLeft ∷ told 2 call.Recycle (call.Recycled 0) ∷ [])

abbrev last_14 : State
last_14 = record {
  stores =
      (stored 2 key_0 account_5 ∷ stored 2 key_3 account_31 ∷ stored 2 key_0 account_0 ∷ stored 2 key_0 account_15 ∷ stored 2 key_0 account_0
      ∷ stored 5 key_0 account_3 ∷ []);
  roots = (1 ∷ 2 ∷ []);
  cleaned = 2;
  leases = (lease 2 18446744073709551615 ∷ []);
  flushed = (2 ∷ []);
  storages = (storage 1 2 (row key_0 account_0 ∷ row key_3 account_31 ∷ []) 272 Live ∷ []);
  named = (pair 2 key_0 ∷ pair 2 key_3 ∷ []);
  pins = [];
  shrinks = [];
  snap = Some (snap 2 (1 ∷ []));
  next_id = 2;
  budget = 600;
}

history_14 : run (fresh 600 1) (calls_of events_14) ≡ (last_14, replies_of events_14)
history_14 = refl

abbrev events_15 : List Event
events_15 =
    (told 1 (call.Store 3 key_5 account_5) call.Done ∷ told 2 (call.Store 3 key_3 account_5) call.Done
    ∷ told 1 (call.FlushBegin 0) (call.Refused (call.NotRooted 0)) ∷ told 1 call.Stats (call.Counted (counts 2 0 0 0 0 0 0 0))
    ∷ told 1 (call.Reclaim (Some key_2) 1) call.NothingLeft ∷ told 1 (call.Root 0) call.Done ∷ told 2 (call.Store 3 key_3 account_32) call.Done
    ∷ told 2 (call.Store 3 key_3 account_11) call.Done ∷ told 1 (call.Root 3) call.Done ∷ told 1 (call.FlushBegin 3) (call.FlushBegun 1 272)
    ∷ told 2 (call.Load (view_of [] 0) key_4) call.NotFound ∷ told 1 (call.Store 5 key_3 account_33) call.Done
    ∷ told 1 (call.Root 0) (call.Refused (call.RootOrder 0 3)) ∷ told 2 call.Recycle (call.Recycled 0)
    ∷ told 2 call.Stats (call.Counted (counts 3 1 0 0 0 0 272 0)) ∷ told 2 (call.FlushEnd 3) call.Done
    ∷ told 2 (call.ShrinkEnd 2) (call.Refused (call.NotShrinking 2)) ∷ told 2 (call.ShrinkBegin 3) (call.Refused (call.NothingDead 3))
    ∷ told 1 (call.Lease 0) call.Done ∷ told 1 (call.Raise 3) (call.Refused (call.Leased 3 0)) ∷ told 2 (call.Store 7 key_1 tomb) call.Done
    ∷ told 2 (call.Store 5 key_1 tomb) call.Done ∷ told 2 (call.SnapBegin 0) (call.SnapBegun 0) ∷ told 1 (call.EndLease 0) call.Done
    ∷ told 2 (call.FlushBegin 0) (call.Refused (call.NothingCached 0)) ∷ told 2 (call.Raise 3) (call.Raised 3)
    ∷ told 2 (call.Reclaim None 256) (call.Reclaimed key_1) ∷ told 2 (call.Reclaim (Some key_1) 256) call.NothingLeft
    ∷ told 2 (call.Store 4 key_4 tomb) call.Done ∷ told 1 (call.Raise 0) (call.Raised 3) ∷ told 1 (call.Reclaim None 256) (call.Reclaimed key_1)
    ∷ told 1 (call.Reclaim (Some key_1) 256) call.NothingLeft ∷ told 1 (call.Root 5) call.Done ∷ told 2 (call.Purge 7) (call.Purged 1)
    ∷ told 1 (call.Purge 4) (call.Purged 1) ∷ told 2 (call.Load (view_of (5 ∷ []) 2) key_2) (call.Refused (call.ViewTooOld 2 3))
    ∷ told 2 call.Recycle (call.Recycled 0) ∷ told 1 (call.Reclaim None 2) (call.Reclaimed key_3)
    ∷ told 1 call.Stats (call.Counted (counts 2 0 1 0 2 2 272 0)) ∷ told 1 (call.FlushBegin 5) (call.FlushBegun 2 272)
    ∷ told 1 (call.FlushEnd 5) call.Done ∷ told 2 (call.SnapEnd 0) call.Done ∷ told 1 (call.SnapBegin 5) (call.SnapBegun 2)
    ∷ told 1 (call.SnapEnd 5) call.Done ∷ told 2 (call.Store 9 key_3 tomb) call.Done ∷ told 1 (call.Purge 9) (call.Purged 1)
    ∷ told 2 (call.Store 5 key_1 account_2) (call.Refused (call.SlotRooted 5 5)) ∷ told 1 call.Stats (call.Counted (counts 0 0 2 0 4 4 544 0))
    ∷ told 2 (call.Store 7 key_2 tomb) call.Done ∷ told 2 (call.Store 7 key_3 tomb) call.Done ∷ told 2 (call.Store 7 key_1 account_3) call.Done
    ∷ told 2 (call.Store 6 key_5 account_32) call.Done ∷ told 2 (call.Store 7 key_5 tomb) call.Done
    ∷ told 1 (call.Load (view_of [] 18446744073709551615) key_3) (call.Found 5 (call.InStorage 2) account_33) ∷ told 1 (call.Unpin 2) call.Done
    ∷ told 2 (call.Store 7 key_5 tomb) call.Done ∷ told 1 (call.Store 7 key_1 account_34) call.Done ∷ told 2 call.Recycle (call.Recycled 0)
    ∷ told 1 (call.Load (view_of (5 ∷ []) 7) key_2) call.NotFound ∷ told 2 (call.Root 8) call.Done ∷ [])

abbrev last_15 : State
last_15 = record {
  stores =
      (stored 3 key_5 account_5 ∷ stored 3 key_3 account_5 ∷ stored 3 key_3 account_32 ∷ stored 3 key_3 account_11 ∷ stored 5 key_3 account_33
      ∷ stored 5 key_1 tomb ∷ stored 7 key_2 tomb ∷ stored 7 key_3 tomb ∷ stored 7 key_1 account_3 ∷ stored 6 key_5 account_32 ∷ stored 7 key_5 tomb
      ∷ stored 7 key_5 tomb ∷ stored 7 key_1 account_34 ∷ []);
  roots = (0 ∷ 3 ∷ 5 ∷ 8 ∷ []);
  cleaned = 3;
  leases = [];
  flushed = (3 ∷ 5 ∷ []);
  storages =
      (storage 1 3 (row key_5 account_5 ∷ row key_3 account_11 ∷ []) 272 Live ∷ storage 2 5 (row key_3 account_33 ∷ row key_1 tomb ∷ []) 272 Live ∷ []);
  named = (pair 3 key_5 ∷ pair 3 key_3 ∷ pair 5 key_3 ∷ pair 5 key_1 ∷ []);
  pins = [];
  shrinks = [];
  snap = None;
  next_id = 3;
  budget = 4294967296;
}

history_15 : run (fresh 4294967296 1) (calls_of events_15) ≡ (last_15, replies_of events_15)
history_15 = refl

abbrev events_16 : List Event
events_16 =
    (told 2 call.Stats (call.Counted (counts 0 0 0 0 0 0 0 0)) ∷ told 1 (call.Reclaim None 1) call.NothingLeft
    ∷ told 1 (call.Reclaim None 1) call.NothingLeft ∷ told 1 (call.Store 3 key_2 account_35) call.Done
    ∷ told 2 (call.Store 3 key_3 account_5) call.Done
    ∷ told 2 (call.Load (view_of (3 ∷ []) 18446744073709551615) key_2) (call.Found 3 call.Cached account_35)
    ∷ told 1 (call.Store 3 key_4 account_36) call.Done ∷ told 2 call.Stats (call.Counted (counts 3 0 0 0 0 0 0 0))
    ∷ told 2 (call.Store 3 key_2 tomb) call.Done ∷ told 2 (call.Root 3) call.Done ∷ told 1 (call.Store 5 key_3 tomb) call.Done
    ∷ told 2 (call.ShrinkBegin 5) (call.Refused (call.NoStorage 5)) ∷ told 1 (call.FlushBegin 3) (call.FlushBegun 1 408)
    ∷ told 1 (call.FlushEnd 3) call.Done ∷ told 1 (call.Purge 5) (call.Purged 1) ∷ told 2 (call.Store 4 key_3 account_13) call.Done
    ∷ told 2 (call.Load (view_of (3 ∷ []) 3) key_2) call.NotFound ∷ told 1 (call.Root 4) call.Done
    ∷ told 2 (call.Store 4 key_5 account_5) (call.Refused (call.SlotRooted 4 4)) ∷ told 1 (call.FlushAbort 2) (call.Refused (call.NotFlushing 2))
    ∷ told 2 (call.FlushBegin 4) (call.FlushBegun 2 136) ∷ told 2 (call.Root 5) call.Done
    ∷ told 1 (call.FlushBegin 3) (call.Refused (call.NothingCached 3)) ∷ told 2 (call.FlushBegin 0) (call.Refused (call.NotRooted 0))
    ∷ told 1 (call.Store 6 key_2 tomb) call.Done ∷ told 1 (call.Store 6 key_3 account_24) call.Done ∷ told 1 (call.Store 6 key_4 account_24) call.Done
    ∷ told 1 (call.Root 6) call.Done ∷ told 1 (call.FlushBegin 6) (call.FlushBegun 3 408) ∷ told 1 (call.FlushEnd 6) call.Done
    ∷ told 1 (call.Raise 6) (call.Raised 6) ∷ told 1 (call.Reclaim None 256) (call.Reclaimed key_4)
    ∷ told 1 (call.Reclaim (Some key_4) 256) call.NothingLeft ∷ told 1 (call.ShrinkBegin 6) (call.ShrinkBegun 3 4 272)
    ∷ told 1 (call.ShrinkEnd 6) call.Done ∷ told 1 (call.Load (view_of (4 ∷ []) 8) key_3) (call.Found 6 (call.InStorage 4) account_24)
    ∷ told 1 (call.Unpin 4) call.Done ∷ told 2 (call.Store 8 key_5 tomb) call.Done ∷ told 2 (call.FlushEnd 4) call.Done
    ∷ told 1 (call.Store 9 key_2 tomb) call.Done ∷ told 1 (call.Reclaim None 1) (call.Reclaimed key_3) ∷ told 1 (call.Raise 4) (call.Raised 6)
    ∷ told 1 (call.Reclaim None 256) call.NothingLeft ∷ told 2 (call.Root 4) (call.Refused (call.RootOrder 4 6))
    ∷ told 1 (call.Load (view_of (5 ∷ 8 ∷ []) 18446744073709551615) key_4) (call.Found 6 (call.InStorage 4) account_24)
    ∷ told 1 (call.Unpin 4) call.Done ∷ told 2 (call.Store 9 key_4 account_14) call.Done
    ∷ told 1 (call.ShrinkBegin 6) (call.Refused (call.NothingDead 6)) ∷ told 2 (call.FlushBegin 4) (call.Refused (call.NothingCached 4))
    ∷ told 1 (call.Reclaim None 3) (call.Reclaimed key_4) ∷ told 2 (call.Load (view_of (8 ∷ 9 ∷ []) 6) key_5) call.NotFound
    ∷ told 1 (call.Reclaim None 256) (call.Reclaimed key_4) ∷ told 1 (call.SnapBegin 6) (call.SnapBegun 1) ∷ told 2 call.Recycle (call.Recycled 3)
    ∷ told 1 (call.ShrinkBegin 8) (call.Refused (call.NoStorage 8)) ∷ told 1 (call.ShrinkBegin 1) (call.Refused (call.NoStorage 1))
    ∷ told 1 call.Recycle (call.Recycled 0) ∷ told 1 (call.Load (view_of [] 6) key_2) call.NotFound ∷ told 1 (call.SnapEnd 6) call.Done
    ∷ told 2 (call.Store 8 key_5 account_13) call.Done ∷ [])

abbrev last_16 : State
last_16 = record {
  stores =
      (stored 3 key_2 account_35 ∷ stored 3 key_3 account_5 ∷ stored 3 key_4 account_36 ∷ stored 3 key_2 tomb ∷ stored 4 key_3 account_13
      ∷ stored 6 key_2 tomb ∷ stored 6 key_3 account_24 ∷ stored 6 key_4 account_24 ∷ stored 8 key_5 tomb ∷ stored 9 key_2 tomb
      ∷ stored 9 key_4 account_14 ∷ stored 8 key_5 account_13 ∷ []);
  roots = (3 ∷ 4 ∷ 5 ∷ 6 ∷ []);
  cleaned = 6;
  leases = [];
  flushed = (3 ∷ 6 ∷ 4 ∷ []);
  storages = (storage 4 6 (row key_3 account_24 ∷ row key_4 account_24 ∷ []) 272 Live ∷ []);
  named = (pair 6 key_3 ∷ pair 6 key_4 ∷ []);
  pins = [];
  shrinks = [];
  snap = None;
  next_id = 5;
  budget = 4294967296;
}

history_16 : run (fresh 4294967296 1) (calls_of events_16) ≡ (last_16, replies_of events_16)
history_16 = refl

abbrev events_17 : List Event
events_17 =
    (told 2 (call.Root 1) call.Done ∷ told 1 (call.Load (view_of (1 ∷ []) 1) key_4) call.NotFound ∷ told 1 (call.Root 3) call.Done
    ∷ told 1 (call.Store 5 key_3 tomb) call.Done ∷ told 1 (call.Root 4) call.Done ∷ told 1 (call.FlushBegin 4) (call.Refused (call.NothingCached 4))
    ∷ told 1 (call.Raise 4) (call.Raised 4) ∷ told 1 (call.Reclaim None 256) call.NothingLeft
    ∷ told 1 (call.Load (view_of (4 ∷ []) 4) key_3) call.NotFound ∷ told 1 (call.Store 5 key_3 tomb) call.Done
    ∷ told 1 (call.Load (view_of [] 18446744073709551615) key_2) call.NotFound ∷ told 2 (call.Raise 1) (call.Raised 4)
    ∷ told 2 (call.Reclaim None 256) call.NothingLeft ∷ told 1 (call.Store 6 key_0 account_5) call.Done
    ∷ told 1 (call.Store 5 key_0 account_37) call.Done ∷ told 2 call.Stats (call.Counted (counts 3 0 0 0 0 0 0 0))
    ∷ told 1 (call.Store 5 key_2 account_14) call.Done ∷ told 2 (call.Root 5) call.Done ∷ told 2 (call.Store 6 key_2 account_0) call.Done
    ∷ told 1 (call.Lease 3) (call.Refused (call.ViewTooOld 3 4)) ∷ told 1 (call.ShrinkBegin 7) (call.Refused (call.NoStorage 7))
    ∷ told 1 (call.SnapBegin 4) (call.SnapBegun 0) ∷ told 2 (call.ShrinkBegin 6) (call.Refused (call.NoStorage 6))
    ∷ told 2 (call.FlushBegin 6) (call.Refused (call.NotRooted 6)) ∷ told 1 call.Stats (call.Counted (counts 5 0 0 0 0 0 0 0))
    ∷ told 1 (call.Raise 5) (call.Raised 5) ∷ told 1 (call.Root 6) call.Done ∷ told 2 (call.FlushBegin 5) (call.FlushBegun 18446744073709551613 408)
    ∷ told 1 (call.FlushEnd 5) call.Done ∷ told 1 (call.Load (view_of [] 4) key_2) (call.Refused (call.ViewTooOld 4 5))
    ∷ told 1 (call.SnapBegin 5) (call.Refused (call.SnapOpen 4)) ∷ told 2 (call.Load (view_of (3 ∷ []) 6) key_2) (call.Found 6 call.Cached account_0)
    ∷ told 2 (call.Root 8) call.Done ∷ told 1 (call.Raise 5) (call.Raised 5) ∷ told 1 (call.Reclaim None 256) (call.Reclaimed key_2)
    ∷ told 1 (call.Reclaim (Some key_2) 256) call.NothingLeft ∷ told 2 call.Recycle (call.Recycled 0)
    ∷ told 2 (call.ShrinkBegin 5) (call.ShrinkBegun 18446744073709551613 18446744073709551614 272) ∷ told 2 (call.ShrinkEnd 5) call.Done
    ∷ told 2 (call.Raise 6) (call.Raised 6) ∷ told 2 (call.Reclaim None 256) (call.Reclaimed key_2)
    ∷ told 2 (call.Reclaim (Some key_2) 256) call.NothingLeft ∷ told 2 call.Recycle (call.Recycled 2) ∷ told 1 (call.SnapEnd 4) call.Done
    ∷ told 1 call.Stats (call.Counted (counts 2 0 0 0 0 0 0 0)) ∷ told 2 (call.FlushBegin 6) (call.Refused call.IdsSpent)
    ∷ told 2 (call.FlushBegin 6) (call.Refused call.IdsSpent) ∷ told 2 (call.Store 4 key_2 tomb) (call.Refused (call.SlotRooted 4 8))
    ∷ told 2 (call.FlushBegin 6) (call.Refused call.IdsSpent) ∷ told 2 (call.Load (view_of [] 7) key_3) call.NotFound ∷ told 2 (call.Root 9) call.Done
    ∷ told 1 (call.Store 10 key_3 tomb) call.Done ∷ told 2 (call.Store 10 key_4 tomb) call.Done
    ∷ told 1 (call.ShrinkBegin 13) (call.Refused (call.NoStorage 13)) ∷ told 2 call.Recycle (call.Recycled 0) ∷ told 1 (call.Purge 10) (call.Purged 2)
    ∷ told 1 (call.Store 6 key_2 tomb) (call.Refused (call.SlotRooted 6 9)) ∷ told 1 (call.Store 11 key_3 tomb) call.Done
    ∷ told 2 (call.Lease 7) call.Done ∷ told 2 (call.FlushBegin 6) (call.Refused call.IdsSpent) ∷ [])

abbrev last_17 : State
last_17 = record {
  stores =
      (stored 5 key_3 tomb ∷ stored 5 key_3 tomb ∷ stored 6 key_0 account_5 ∷ stored 5 key_0 account_37 ∷ stored 5 key_2 account_14
      ∷ stored 6 key_2 account_0 ∷ stored 11 key_3 tomb ∷ []);
  roots = (1 ∷ 3 ∷ 4 ∷ 5 ∷ 6 ∷ 8 ∷ 9 ∷ []);
  cleaned = 6;
  leases = (lease 2 7 ∷ []);
  flushed = (5 ∷ []);
  storages = [];
  named = [];
  pins = [];
  shrinks = [];
  snap = None;
  next_id = 18446744073709551615;
  budget = 4294967296;
}

history_17 : run (fresh 4294967296 18446744073709551613) (calls_of events_17) ≡ (last_17, replies_of events_17)
history_17 = refl

abbrev events_18 : List Event
events_18 =
    (told 1 (call.ShrinkEnd 0) (call.Refused (call.NotShrinking 0)) ∷ told 1 (call.ShrinkEnd 0) (call.Refused (call.NotShrinking 0))
    ∷ told 1 (call.SnapBegin 0) (call.Refused (call.NotRoot 0)) ∷ told 2 (call.Store 0 key_5 tomb) call.Done ∷ told 1 (call.Purge 0) (call.Purged 1)
    ∷ told 1 (call.Raise 2) (call.Refused (call.PastRoot 2 None)) ∷ told 1 (call.Raise 0) (call.Refused (call.PastRoot 0 None))
    ∷ told 2 (call.Load (view_of [] 0) key_5) call.NotFound ∷ told 2 (call.Root 0) call.Done
    ∷ told 2 (call.ShrinkBegin 0) (call.Refused (call.NoStorage 0)) ∷ told 1 (call.Raise 0) (call.Raised 0)
    ∷ told 1 (call.Reclaim None 256) call.NothingLeft ∷ told 2 (call.Root 1) call.Done ∷ told 1 (call.Store 3 key_5 account_0) call.Done
    ∷ told 1 (call.Root 3) call.Done ∷ told 1 (call.Store 6 key_5 account_3) call.Done ∷ told 1 (call.ShrinkBegin 5) (call.Refused (call.NoStorage 5))
    ∷ told 1 (call.Raise 0) (call.Raised 0) ∷ told 1 (call.Reclaim None 256) (call.Reclaimed key_5)
    ∷ told 1 (call.Reclaim (Some key_5) 256) call.NothingLeft ∷ told 1 (call.Store 0 key_5 account_3) (call.Refused (call.SlotRooted 0 3))
    ∷ told 1 call.Recycle (call.Recycled 0) ∷ told 2 (call.Store 6 key_5 account_11) call.Done
    ∷ told 2 (call.ShrinkBegin 0) (call.Refused (call.NoStorage 0)) ∷ told 2 (call.Load (view_of [] 4) key_5) (call.Found 3 call.Cached account_0)
    ∷ told 1 (call.Raise 0) (call.Raised 0) ∷ told 1 (call.Reclaim None 256) (call.Reclaimed key_5)
    ∷ told 1 (call.Reclaim (Some key_5) 256) call.NothingLeft ∷ told 1 (call.Load (view_of [] 3) key_5) (call.Found 3 call.Cached account_0)
    ∷ told 1 call.Recycle (call.Recycled 0) ∷ told 1 (call.FlushBegin 3) (call.FlushBegun 1 136) ∷ told 1 (call.FlushEnd 3) call.Done
    ∷ told 1 (call.FlushBegin 2) (call.Refused (call.NotRooted 2)) ∷ told 2 (call.Raise 3) (call.Raised 3)
    ∷ told 2 (call.Reclaim None 256) (call.Reclaimed key_5) ∷ told 2 (call.Reclaim (Some key_5) 256) call.NothingLeft
    ∷ told 1 (call.Store 6 key_5 account_3) call.Done ∷ told 2 (call.FlushBegin 3) (call.Refused (call.NothingCached 3))
    ∷ told 1 (call.Store 6 key_5 tomb) call.Done ∷ told 2 (call.ShrinkBegin 7) (call.Refused (call.NoStorage 7))
    ∷ told 1 (call.ShrinkBegin 0) (call.Refused (call.NoStorage 0)) ∷ told 1 (call.Lease 4) call.Done
    ∷ told 2 (call.Load (view_of (0 ∷ 3 ∷ []) 18446744073709551615) key_5) (call.Found 3 (call.InStorage 1) account_0)
    ∷ told 2 (call.Unpin 1) call.Done ∷ told 1 (call.Load (view_of (6 ∷ []) 3) key_5) call.NotFound ∷ told 2 call.Recycle (call.Recycled 0)
    ∷ told 1 call.Recycle (call.Recycled 0) ∷ told 2 (call.SnapBegin 3) (call.SnapBegun 1) ∷ told 2 (call.SnapEnd 3) call.Done
    ∷ told 1 (call.EndLease 4) call.Done ∷ told 2 call.Stats (call.Counted (counts 1 0 1 0 1 1 136 0))
    ∷ told 2 (call.Load (view_of (0 ∷ 3 ∷ 6 ∷ []) 3) key_5) call.NotFound
    ∷ told 2 (call.Load (view_of (2 ∷ []) 4) key_5) (call.Found 3 (call.InStorage 1) account_0) ∷ told 2 (call.Unpin 1) call.Done
    ∷ told 2 (call.Reclaim None 1) (call.Reclaimed key_5) ∷ told 1 (call.ShrinkBegin 6) (call.Refused (call.NoStorage 6))
    ∷ told 2 (call.Store 6 key_5 tomb) call.Done ∷ told 1 (call.Store 4 key_5 account_9) call.Done
    ∷ told 2 (call.Load (view_of (0 ∷ []) 3) key_5) (call.Found 3 (call.InStorage 1) account_0) ∷ told 1 (call.Store 4 key_5 tomb) call.Done ∷ [])

abbrev last_18 : State
last_18 = record {
  stores =
      (stored 3 key_5 account_0 ∷ stored 6 key_5 account_3 ∷ stored 6 key_5 account_11 ∷ stored 6 key_5 account_3 ∷ stored 6 key_5 tomb
      ∷ stored 6 key_5 tomb ∷ stored 4 key_5 account_9 ∷ stored 4 key_5 tomb ∷ []);
  roots = (0 ∷ 1 ∷ 3 ∷ []);
  cleaned = 3;
  leases = [];
  flushed = (3 ∷ []);
  storages = (storage 1 3 (row key_5 account_0 ∷ []) 136 Live ∷ []);
  named = (pair 3 key_5 ∷ []);
  pins = (pin 2 1 ∷ []);
  shrinks = [];
  snap = None;
  next_id = 2;
  budget = 4294967296;
}

history_18 : run (fresh 4294967296 1) (calls_of events_18) ≡ (last_18, replies_of events_18)
history_18 = refl

abbrev events_19 : List Event
events_19 =
    (told 1 (call.Store 3 key_2 account_5) call.Done ∷ told 2 (call.Load (view_of (3 ∷ []) 0) key_2) (call.Found 3 call.Cached account_5)
    ∷ told 1 (call.Root 1) call.Done ∷ told 1 (call.FlushBegin 1) (call.Refused (call.NothingCached 1)) ∷ told 1 (call.Raise 1) (call.Raised 1)
    ∷ told 1 (call.Reclaim None 256) call.NothingLeft ∷ told 1 (call.Raise 1) (call.Raised 1) ∷ told 1 (call.Reclaim None 256) call.NothingLeft
    ∷ told 2 (call.Store 3 key_0 account_38) call.Done
    ∷ told 1 (call.Load (view_of (1 ∷ 3 ∷ []) 18446744073709551615) key_2) (call.Found 3 call.Cached account_5)
    ∷ told 2 (call.Load (view_of (0 ∷ 3 ∷ []) 18446744073709551615) key_0) (call.Found 3 call.Cached account_38)
    ∷ told 1 call.Recycle (call.Recycled 0) ∷ told 1 (call.SnapBegin 1) (call.SnapBegun 0) ∷ told 1 call.Stats (call.Counted (counts 2 0 0 0 0 0 0 0))
    ∷ told 2 (call.Load (view_of [] 0) key_0) (call.Refused (call.ViewTooOld 0 1)) ∷ told 1 (call.Raise 1) (call.Raised 1)
    ∷ told 1 (call.Reclaim None 256) call.NothingLeft
    ∷ told 1 (call.Load (view_of (3 ∷ []) 18446744073709551615) key_0) (call.Found 3 call.Cached account_38) ∷ told 2 (call.Root 3) call.Done
    ∷ told 2 call.Recycle (call.Recycled 0) ∷ told 2 call.Recycle (call.Recycled 0) ∷ told 2 (call.Store 7 key_0 account_3) call.Done
    ∷ told 1 call.Recycle (call.Recycled 0) ∷ told 1 (call.Load (view_of [] 2) key_2) call.NotFound
    ∷ told 2 (call.Unpin 1) (call.Refused (call.NotPinned 1)) ∷ told 1 (call.Raise 4) (call.Refused (call.PastRoot 4 (Some 3)))
    ∷ told 2 (call.Store 7 key_2 account_0) call.Done ∷ told 1 (call.Reclaim None 3) (call.Reclaimed key_2) ∷ told 1 (call.Purge 7) (call.Purged 2)
    ∷ told 2 call.Recycle (call.Recycled 0) ∷ told 2 (call.Load (view_of (1 ∷ 3 ∷ []) 1) key_3) call.NotFound ∷ told 2 (call.Raise 1) (call.Raised 1)
    ∷ told 2 (call.Reclaim None 256) call.NothingLeft ∷ told 1 (call.Store 4 key_2 account_2) call.Done
    ∷ told 1 (call.Reclaim None 256) (call.Reclaimed key_2) ∷ told 2 (call.Root 0) (call.Refused (call.RootOrder 0 3))
    ∷ told 2 (call.Store 4 key_0 account_18) call.Done ∷ told 1 (call.SnapEnd 1) call.Done ∷ told 2 (call.FlushBegin 3) (call.FlushBegun 1 272)
    ∷ told 2 (call.FlushEnd 3) call.Done ∷ told 1 (call.Raise 1) (call.Raised 1) ∷ told 1 (call.Reclaim None 256) (call.Reclaimed key_2)
    ∷ told 1 (call.Reclaim (Some key_2) 256) call.NothingLeft ∷ told 1 (call.Raise 7) (call.Refused (call.PastRoot 7 (Some 3)))
    ∷ told 1 (call.Lease 18446744073709551615) call.Done
    ∷ told 1 (call.Load (view_of [] 18446744073709551615) key_2) (call.Found 3 (call.InStorage 1) account_5)
    ∷ told 2 (call.Store 4 key_0 account_5) call.Done ∷ told 1 (call.SnapBegin 1) (call.SnapBegun 0)
    ∷ told 2 (call.Store 0 key_0 account_5) (call.Refused (call.SlotRooted 0 3)) ∷ told 1 (call.Lease 2) call.Done
    ∷ told 1 call.Recycle (call.Recycled 0) ∷ told 2 (call.Root 4) call.Done ∷ told 1 (call.Store 5 key_3 account_13) call.Done
    ∷ told 1 (call.Unpin 1) call.Done ∷ told 1 call.Stats (call.Counted (counts 3 0 1 0 2 2 272 0)) ∷ told 2 (call.Root 5) call.Done
    ∷ told 1 (call.ShrinkBegin 3) (call.Refused (call.NothingDead 3)) ∷ told 1 (call.SnapBegin 3) (call.Refused (call.SnapOpen 1))
    ∷ told 2 (call.Store 6 key_0 account_39) call.Done ∷ told 1 (call.Store 6 key_3 tomb) call.Done ∷ [])

abbrev last_19 : State
last_19 = record {
  stores =
      (stored 3 key_2 account_5 ∷ stored 3 key_0 account_38 ∷ stored 4 key_2 account_2 ∷ stored 4 key_0 account_18 ∷ stored 4 key_0 account_5
      ∷ stored 5 key_3 account_13 ∷ stored 6 key_0 account_39 ∷ stored 6 key_3 tomb ∷ []);
  roots = (1 ∷ 3 ∷ 4 ∷ 5 ∷ []);
  cleaned = 1;
  leases = (lease 1 18446744073709551615 ∷ lease 1 2 ∷ []);
  flushed = (3 ∷ []);
  storages = (storage 1 3 (row key_2 account_5 ∷ row key_0 account_38 ∷ []) 272 Live ∷ []);
  named = (pair 3 key_2 ∷ pair 3 key_0 ∷ []);
  pins = [];
  shrinks = [];
  snap = Some (snap 1 []);
  next_id = 2;
  budget = 4294967296;
}

history_19 : run (fresh 4294967296 1) (calls_of events_19) ≡ (last_19, replies_of events_19)
history_19 = refl
