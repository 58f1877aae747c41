-- Histories from opened states, drawn at random, with the replies and the last states that another implementation of the machine gives.
use Rattle.std.proofs.Common.{◌≡◌, List, [], ◌∷◌, Some, None, refl}
use Rattle.adb_model.specs.Account.{tomb}
use Rattle.adb_model.specs.View.{view_of}
use Rattle.adb_model.specs.State.{Live, Retired, State}
use Rattle.adb_model.specs.Call as call
use Rattle.adb_model.specs.Call.{Call, Reply, Event}
use Rattle.adb_model.specs.History.{run}
use Rattle.adb_model.specs.Opened.{Image, opened}
use Rattle.adb_model.proofs.PlayedValues.{counts, stored, row, storage, pair, pin, lease, image, told, calls_of, replies_of, key_0, account_0, key_1, key_2, key_3, key_4, account_3, account_4, account_5, key_5, account_9, account_11, account_13, account_15, account_19, account_24, account_30, account_31, account_36, account_40, account_41, account_42, account_43, account_44, account_45, account_46, account_47}

abbrev images_0 : List Image
images_0 =
    (image 4 (row key_3 account_40 ∷ row key_3 account_11 ∷ []) 272 ∷ image 6 (row key_0 account_3 ∷ row key_3 account_4 ∷ []) 272 ∷ [])

abbrev opened_events_0 : List Event
opened_events_0 =
    (told 2 (call.Root 7) call.Done ∷ told 1 (call.ShrinkBegin 4) (call.ShrinkBegun 1 3 136)
    ∷ told 2 (call.FlushBegin 1) (call.Refused (call.NotRooted 1)) ∷ told 1 call.Recycle (call.Recycled 0)
    ∷ told 1 (call.Store 8 key_3 account_24) call.Done ∷ told 1 (call.Root 8) call.Done ∷ told 1 (call.FlushBegin 8) (call.FlushBegun 4 136)
    ∷ told 1 (call.FlushEnd 8) call.Done ∷ told 1 (call.Raise 8) (call.Raised 8) ∷ told 1 (call.Reclaim None 256) (call.Reclaimed key_3)
    ∷ told 1 (call.Reclaim (Some key_3) 256) call.NothingLeft ∷ told 2 (call.ShrinkBegin 6) (call.ShrinkBegun 2 5 136)
    ∷ told 2 (call.ShrinkEnd 6) call.Done ∷ told 2 (call.Load (view_of [] 8) key_0) (call.Found 6 (call.InStorage 5) account_3)
    ∷ told 1 (call.Root 9) call.Done ∷ told 1 (call.FlushBegin 9) (call.Refused (call.NothingCached 9)) ∷ told 1 (call.Raise 9) (call.Raised 9)
    ∷ told 1 (call.Reclaim None 256) call.NothingLeft ∷ told 1 (call.ShrinkBegin 6) (call.Refused (call.NothingDead 6))
    ∷ told 1 call.Stats (call.Counted (counts 0 1 2 2 2 2 952 2)) ∷ told 1 (call.Raise 7) (call.Raised 9)
    ∷ told 1 (call.Reclaim None 256) call.NothingLeft ∷ told 2 call.Recycle (call.Recycled 1) ∷ told 2 (call.Purge 13) (call.Purged 0)
    ∷ told 2 (call.ShrinkEnd 4) (call.Superseded 4 1) ∷ told 2 (call.Unpin 5) call.Done ∷ told 1 (call.Store 12 key_2 tomb) call.Done
    ∷ told 2 (call.Root 12) call.Done ∷ told 2 (call.Store 15 key_2 tomb) call.Done
    ∷ told 1 (call.Load (view_of (9 ∷ []) 18446744073709551615) key_0) (call.Found 6 (call.InStorage 5) account_3)
    ∷ told 2 (call.Raise 12) (call.Raised 12) ∷ told 1 (call.FlushBegin 12) (call.FlushBegun 6 136) ∷ told 2 (call.Raise 9) (call.Raised 12)
    ∷ told 2 (call.Reclaim None 256) (call.Reclaimed key_2) ∷ told 2 (call.Reclaim (Some key_2) 256) call.NothingLeft
    ∷ told 2 (call.Raise 8) (call.Raised 12) ∷ told 2 (call.Reclaim None 256) (call.Reclaimed key_2)
    ∷ told 2 (call.Reclaim (Some key_2) 256) call.NothingLeft ∷ told 1 (call.Store 15 key_3 account_13) call.Done
    ∷ told 1 (call.Store 15 key_4 tomb) call.Done ∷ told 1 (call.FlushBegin 6) (call.Refused (call.NothingCached 6)) ∷ told 1 (call.Root 13) call.Done
    ∷ told 1 (call.FlushBegin 13) (call.Refused (call.NothingCached 13)) ∷ told 1 (call.Raise 13) (call.Raised 13)
    ∷ told 1 (call.Reclaim None 256) (call.Reclaimed key_2) ∷ told 1 (call.Reclaim (Some key_2) 256) call.NothingLeft
    ∷ told 1 (call.FlushEnd 12) call.Done
    ∷ told 1 (call.Load (view_of (7 ∷ 9 ∷ []) 18446744073709551615) key_3) (call.Found 8 (call.InStorage 4) account_24)
    ∷ told 1 call.Recycle (call.Recycled 1) ∷ told 2 (call.Store 15 key_0 account_3) call.Done ∷ told 2 call.Recycle (call.Recycled 0)
    ∷ told 2 (call.FlushBegin 7) (call.Refused (call.NothingCached 7)) ∷ told 2 (call.Raise 9) (call.Raised 13)
    ∷ told 2 (call.Reclaim None 256) (call.Reclaimed key_2) ∷ told 2 (call.Reclaim (Some key_2) 256) call.NothingLeft
    ∷ told 1 call.Stats (call.Counted (counts 4 0 2 1 2 2 408 2)) ∷ told 1 (call.Store 17 key_3 tomb) call.Done
    ∷ told 1 (call.Load (view_of (12 ∷ 13 ∷ 17 ∷ []) 14) key_0) (call.Found 6 (call.InStorage 5) account_3)
    ∷ told 2 (call.Store 15 key_4 tomb) call.Done ∷ told 2 (call.Load (view_of (12 ∷ []) 14) key_3) (call.Found 8 (call.InStorage 4) account_24)
    ∷ told 2 (call.Unpin 4) call.Done ∷ [])

abbrev opened_last_0 : State
opened_last_0 = record {
  stores =
      (stored 4 key_3 account_40 ∷ stored 4 key_3 account_11 ∷ stored 6 key_0 account_3 ∷ stored 6 key_3 account_4 ∷ stored 8 key_3 account_24
      ∷ stored 12 key_2 tomb ∷ stored 15 key_2 tomb ∷ stored 15 key_3 account_13 ∷ stored 15 key_4 tomb ∷ stored 15 key_0 account_3
      ∷ stored 17 key_3 tomb ∷ stored 15 key_4 tomb ∷ []);
  roots = (4 ∷ 6 ∷ 7 ∷ 8 ∷ 9 ∷ 12 ∷ 13 ∷ []);
  cleaned = 13;
  leases = [];
  flushed = (4 ∷ 6 ∷ 8 ∷ 12 ∷ []);
  storages =
      (storage 4 8 (row key_3 account_24 ∷ []) 136 Live ∷ storage 5 6 (row key_0 account_3 ∷ []) 136 Live
      ∷ storage 6 12 (row key_2 tomb ∷ []) 136 Retired ∷ []);
  named = (pair 6 key_0 ∷ pair 8 key_3 ∷ []);
  pins = (pin 1 5 ∷ pin 1 4 ∷ pin 1 5 ∷ []);
  shrinks = [];
  snap = None;
  next_id = 7;
  budget = 4294967296;
}

opened_history_0 : run (opened 4294967296 6 images_0 []) (calls_of opened_events_0) ≡ (opened_last_0, replies_of opened_events_0)
opened_history_0 = refl

abbrev images_1 : List Image
images_1 =
    (image 7 (row key_0 account_30 ∷ []) 136 ∷ image 9 (row key_0 account_40 ∷ row key_0 account_5 ∷ []) 272 ∷ image 13 (row key_0 account_5 ∷ []) 136
    ∷ image 21 (row key_0 account_3 ∷ []) 136 ∷ image 24 (row key_0 account_3 ∷ []) 136 ∷ [])

abbrev opened_events_1 : List Event
opened_events_1 =
    (told 1 (call.SnapBegin 24) (call.SnapBegun 5) ∷ told 2 (call.Raise 21) (call.Raised 24) ∷ told 2 (call.Reclaim None 256) (call.Reclaimed key_0)
    ∷ told 2 (call.Reclaim (Some key_0) 256) call.NothingLeft ∷ told 1 (call.Root 25) call.Done ∷ told 1 call.Recycle (call.Recycled 0)
    ∷ told 2 (call.SnapBegin 25) (call.Refused (call.SnapOpen 24)) ∷ told 1 (call.Store 29 key_0 account_3) call.Done
    ∷ told 1 (call.Reclaim None 1) (call.Reclaimed key_0) ∷ told 2 (call.Root 28) call.Done ∷ told 2 call.Recycle (call.Recycled 0)
    ∷ told 2 (call.SnapEnd 24) call.Done ∷ told 2 (call.Raise 24) (call.Raised 24) ∷ told 2 (call.Reclaim None 256) (call.Reclaimed key_0)
    ∷ told 2 (call.Reclaim (Some key_0) 256) call.NothingLeft ∷ told 2 (call.Store 29 key_0 account_3) call.Done
    ∷ told 2 call.Recycle (call.Recycled 4) ∷ told 2 (call.SnapBegin 28) (call.SnapBegun 1) ∷ told 2 (call.Root 29) call.Done
    ∷ told 2 (call.Store 30 key_4 account_0) call.Done ∷ told 1 (call.Store 30 key_3 tomb) call.Done
    ∷ told 2 (call.ShrinkBegin 26) (call.Refused (call.NoStorage 26)) ∷ told 1 (call.SnapBegin 25) (call.Refused (call.SnapOpen 28))
    ∷ told 2 (call.FlushBegin 29) (call.FlushBegun 6 136) ∷ told 2 (call.FlushEnd 29) call.Done ∷ told 1 (call.Raise 25) (call.Raised 25)
    ∷ told 1 (call.Reclaim None 256) (call.Reclaimed key_0) ∷ told 1 (call.Reclaim (Some key_0) 256) call.NothingLeft
    ∷ told 2 (call.Load (view_of (27 ∷ 28 ∷ 29 ∷ []) 26) key_0) (call.Found 29 (call.InStorage 6) account_3) ∷ told 2 (call.Unpin 6) call.Done
    ∷ told 2 call.Recycle (call.Recycled 0) ∷ told 1 call.Recycle (call.Recycled 0) ∷ told 2 (call.Purge 30) (call.Purged 2)
    ∷ told 1 (call.FlushBegin 9) (call.Refused (call.NothingCached 9)) ∷ told 1 (call.ShrinkBegin 29) (call.Refused (call.NothingDead 29))
    ∷ told 1 (call.Load (view_of [] 25) key_4) call.NotFound ∷ told 1 (call.Raise 25) (call.Raised 25)
    ∷ told 1 (call.Reclaim None 256) (call.Reclaimed key_0) ∷ told 1 (call.Reclaim (Some key_0) 256) call.NothingLeft
    ∷ told 1 (call.Store 33 key_3 tomb) call.Done ∷ told 2 (call.Root 33) call.Done ∷ told 1 (call.SnapBegin 29) (call.Refused (call.SnapOpen 28))
    ∷ told 2 (call.FlushBegin 33) (call.FlushBegun 7 136) ∷ told 2 (call.FlushEnd 33) call.Done ∷ told 1 (call.Raise 29) (call.Raised 29)
    ∷ told 1 (call.Reclaim None 256) (call.Reclaimed key_0) ∷ told 1 (call.Reclaim (Some key_0) 256) call.NothingLeft
    ∷ told 2 (call.Load (view_of (7 ∷ []) 27) key_4) (call.Refused (call.ViewTooOld 27 29))
    ∷ told 1 (call.Load (view_of [] 18446744073709551615) key_1) call.NotFound ∷ told 1 call.Recycle (call.Recycled 0)
    ∷ told 1 (call.ShrinkBegin 30) (call.Refused (call.NoStorage 30)) ∷ told 1 (call.Store 35 key_1 account_5) call.Done
    ∷ told 2 call.Recycle (call.Recycled 0) ∷ told 2 (call.Load (view_of [] 18446744073709551615) key_1) call.NotFound
    ∷ told 2 (call.Store 35 key_1 account_41) call.Done ∷ told 2 (call.Load (view_of [] 28) key_4) (call.Refused (call.ViewTooOld 28 29))
    ∷ told 2 (call.Store 33 key_0 account_0) (call.Refused (call.SlotRooted 33 33)) ∷ told 1 (call.SnapEnd 28) call.Done
    ∷ told 2 (call.SnapBegin 29) (call.SnapBegun 1) ∷ told 2 (call.SnapEnd 29) call.Done ∷ [])

abbrev opened_last_1 : State
opened_last_1 = record {
  stores =
      (stored 7 key_0 account_30 ∷ stored 9 key_0 account_40 ∷ stored 9 key_0 account_5 ∷ stored 13 key_0 account_5 ∷ stored 21 key_0 account_3
      ∷ stored 24 key_0 account_3 ∷ stored 29 key_0 account_3 ∷ stored 29 key_0 account_3 ∷ stored 33 key_3 tomb ∷ stored 35 key_1 account_5
      ∷ stored 35 key_1 account_41 ∷ []);
  roots = (2 ∷ 7 ∷ 9 ∷ 13 ∷ 21 ∷ 24 ∷ 25 ∷ 28 ∷ 29 ∷ 33 ∷ []);
  cleaned = 29;
  leases = [];
  flushed = (2 ∷ 7 ∷ 9 ∷ 13 ∷ 21 ∷ 24 ∷ 29 ∷ 33 ∷ []);
  storages =
      (storage 5 24 (row key_0 account_3 ∷ []) 136 Retired ∷ storage 6 29 (row key_0 account_3 ∷ []) 136 Live
      ∷ storage 7 33 (row key_3 tomb ∷ []) 136 Live ∷ []);
  named = (pair 29 key_0 ∷ pair 33 key_3 ∷ []);
  pins = [];
  shrinks = [];
  snap = None;
  next_id = 8;
  budget = 4294967296;
}

opened_history_1 : run (opened 4294967296 24 images_1 (2 ∷ [])) (calls_of opened_events_1) ≡ (opened_last_1, replies_of opened_events_1)
opened_history_1 = refl

abbrev images_2 : List Image
images_2 =
    (image 3 (row key_3 account_42 ∷ row key_3 account_43 ∷ []) 272 ∷ image 10 (row key_3 account_40 ∷ row key_3 tomb ∷ row key_4 tomb ∷ []) 408
    ∷ image 12 (row key_4 tomb ∷ row key_3 account_9 ∷ row key_4 account_13 ∷ []) 408 ∷ image 13 (row key_3 account_24 ∷ []) 136
    ∷ image 21 (row key_4 account_0 ∷ []) 136 ∷ [])

abbrev opened_events_2 : List Event
opened_events_2 =
    (told 2 (call.Raise 21) (call.Raised 21) ∷ told 2 (call.Reclaim None 256) (call.Reclaimed key_4)
    ∷ told 2 (call.Reclaim (Some key_4) 256) call.NothingLeft ∷ told 2 (call.Load (view_of [] 18446744073709551615) key_5) call.NotFound
    ∷ told 2 (call.Reclaim (Some key_5) 256) call.NothingLeft ∷ told 1 call.Recycle (call.Recycled 3) ∷ told 1 (call.Raise 12) (call.Raised 21)
    ∷ told 1 (call.Reclaim None 256) call.NothingLeft ∷ told 2 (call.Load (view_of [] 16) key_0) (call.Refused (call.ViewTooOld 16 21))
    ∷ told 1 (call.Load (view_of [] 18446744073709551615) key_5) call.NotFound ∷ told 1 (call.ShrinkBegin 17) (call.Refused (call.NoStorage 17))
    ∷ told 1 (call.Root 25) call.Done ∷ told 1 (call.Store 26 key_0 account_0) call.Done ∷ told 2 (call.Reclaim None 1) call.NothingLeft
    ∷ told 1 (call.Load (view_of [] 22) key_0) call.NotFound ∷ told 2 (call.ShrinkBegin 25) (call.Refused (call.NoStorage 25))
    ∷ told 1 (call.Reclaim None 1) call.NothingLeft ∷ told 2 (call.Store 26 key_5 account_13) call.Done
    ∷ told 2 (call.Reclaim None 256) call.NothingLeft ∷ told 2 (call.Store 26 key_5 tomb) call.Done ∷ told 2 (call.Raise 13) (call.Raised 21)
    ∷ told 2 (call.Reclaim None 256) call.NothingLeft
    ∷ told 2 (call.Load (view_of (2 ∷ 10 ∷ 26 ∷ []) 20) key_0) (call.Refused (call.ViewTooOld 20 21))
    ∷ told 2 (call.Reclaim (Some key_5) 256) call.NothingLeft ∷ told 2 (call.Store 26 key_5 tomb) call.Done ∷ told 2 (call.Purge 26) (call.Purged 2)
    ∷ told 1 (call.Store 26 key_0 tomb) call.Done ∷ told 1 (call.Raise 21) (call.Raised 21) ∷ told 1 (call.Reclaim None 256) call.NothingLeft
    ∷ told 2 (call.SnapBegin 21) (call.SnapBegun 2) ∷ told 2 (call.SnapEnd 21) call.Done ∷ told 1 (call.Store 26 key_0 account_0) call.Done
    ∷ told 1 (call.Store 26 key_0 account_0) call.Done ∷ told 1 (call.ShrinkEnd 26) (call.Refused (call.NotShrinking 26))
    ∷ told 1 (call.Store 26 key_5 tomb) call.Done ∷ told 1 (call.SnapBegin 28) (call.Refused (call.NotRoot 28))
    ∷ told 2 (call.Store 29 key_0 tomb) call.Done ∷ told 1 call.Stats (call.Counted (counts 3 0 2 0 2 2 272 0))
    ∷ told 1 (call.Reclaim None 1) (call.Reclaimed key_0) ∷ told 2 (call.Store 27 key_0 tomb) call.Done
    ∷ told 2 (call.Store 26 key_5 account_11) call.Done ∷ told 1 (call.Root 26) call.Done ∷ told 1 (call.Raise 25) (call.Raised 25)
    ∷ told 1 (call.EndLease 18446744073709551615) (call.Refused (call.NotLeased 18446744073709551615))
    ∷ told 2 (call.FlushBegin 26) (call.FlushBegun 6 272) ∷ told 1 (call.Store 27 key_0 account_9) call.Done ∷ told 2 (call.FlushEnd 26) call.Done
    ∷ told 1 (call.Raise 21) (call.Raised 25) ∷ told 2 (call.Store 27 key_0 account_31) call.Done ∷ told 1 (call.Raise 26) (call.Raised 26)
    ∷ told 1 (call.Reclaim None 256) (call.Reclaimed key_0) ∷ told 1 (call.Reclaim (Some key_0) 256) call.NothingLeft
    ∷ told 1 (call.Lease 26) call.Done ∷ told 1 (call.Store 29 key_0 account_3) call.Done ∷ told 2 (call.Purge 22) (call.Purged 0)
    ∷ told 1 (call.Raise 26) (call.Raised 26) ∷ told 1 (call.Reclaim None 256) (call.Reclaimed key_0)
    ∷ told 1 (call.Reclaim (Some key_0) 256) call.NothingLeft ∷ told 2 call.Recycle (call.Recycled 0) ∷ told 2 (call.Store 29 key_5 tomb) call.Done
    ∷ [])

abbrev opened_last_2 : State
opened_last_2 = record {
  stores =
      (stored 3 key_3 account_42 ∷ stored 3 key_3 account_43 ∷ stored 10 key_3 account_40 ∷ stored 10 key_3 tomb ∷ stored 10 key_4 tomb
      ∷ stored 12 key_4 tomb ∷ stored 12 key_3 account_9 ∷ stored 12 key_4 account_13 ∷ stored 13 key_3 account_24 ∷ stored 21 key_4 account_0
      ∷ stored 26 key_0 tomb ∷ stored 26 key_0 account_0 ∷ stored 26 key_0 account_0 ∷ stored 26 key_5 tomb ∷ stored 29 key_0 tomb
      ∷ stored 27 key_0 tomb ∷ stored 26 key_5 account_11 ∷ stored 27 key_0 account_9 ∷ stored 27 key_0 account_31 ∷ stored 29 key_0 account_3
      ∷ stored 29 key_5 tomb ∷ []);
  roots = (2 ∷ 3 ∷ 10 ∷ 12 ∷ 13 ∷ 21 ∷ 25 ∷ 26 ∷ []);
  cleaned = 26;
  leases = (lease 1 26 ∷ []);
  flushed = (2 ∷ 3 ∷ 10 ∷ 12 ∷ 13 ∷ 21 ∷ 26 ∷ []);
  storages =
      (storage 4 13 (row key_3 account_24 ∷ []) 136 Live ∷ storage 5 21 (row key_4 account_0 ∷ []) 136 Live
      ∷ storage 6 26 (row key_0 account_0 ∷ row key_5 account_11 ∷ []) 272 Live ∷ []);
  named = (pair 13 key_3 ∷ pair 21 key_4 ∷ pair 26 key_0 ∷ pair 26 key_5 ∷ []);
  pins = [];
  shrinks = [];
  snap = None;
  next_id = 7;
  budget = 4294967296;
}

opened_history_2 : run (opened 4294967296 21 images_2 (2 ∷ [])) (calls_of opened_events_2) ≡ (opened_last_2, replies_of opened_events_2)
opened_history_2 = refl

abbrev images_3 : List Image
images_3 =
    (image 2 (row key_2 tomb ∷ row key_2 account_5 ∷ []) 272 ∷ image 4 (row key_1 account_45 ∷ row key_5 account_15 ∷ []) 272 ∷ [])

abbrev opened_events_3 : List Event
opened_events_3 =
    (told 2 (call.ShrinkBegin 2) (call.ShrinkBegun 1 3 136) ∷ told 1 (call.Raise 7) (call.Refused (call.PastRoot 7 (Some 4)))
    ∷ told 2 (call.ShrinkEnd 2) call.Done ∷ told 1 (call.Purge 0) (call.Purged 0) ∷ told 2 (call.Reclaim None 256) call.NothingLeft
    ∷ told 1 (call.Lease 4) call.Done ∷ told 1 (call.Store 5 key_2 account_3) call.Done ∷ told 2 call.Recycle (call.Recycled 1)
    ∷ told 2 (call.FlushBegin 4) (call.Refused (call.NothingCached 4)) ∷ told 2 (call.Store 5 key_1 account_13) call.Done
    ∷ told 1 (call.Store 5 key_3 account_11) call.Done ∷ told 2 (call.Reclaim (Some key_2) 1) call.NothingLeft
    ∷ told 1 (call.ShrinkBegin 2) (call.Refused (call.NothingDead 2)) ∷ told 1 (call.SnapBegin 4) (call.SnapBegun 2)
    ∷ told 2 (call.Purge 5) (call.Purged 3) ∷ told 2 (call.FlushBegin 0) (call.Refused (call.NotRooted 0))
    ∷ told 2 (call.ShrinkEnd 6) (call.Refused (call.NotShrinking 6)) ∷ told 1 (call.FlushEnd 1) (call.Refused (call.NotFlushing 1))
    ∷ told 2 (call.ShrinkAbort 4) (call.Refused (call.NotShrinking 4)) ∷ told 2 (call.Load (view_of [] 4) key_3) call.NotFound
    ∷ told 1 (call.ShrinkBegin 5) (call.Refused (call.NoStorage 5)) ∷ told 1 (call.FlushBegin 0) (call.Refused (call.NotRooted 0))
    ∷ told 1 (call.Store 8 key_4 account_44) call.Done ∷ told 1 (call.ShrinkAbort 2) (call.Refused (call.NotShrinking 2))
    ∷ told 1 (call.Root 8) call.Done ∷ told 1 (call.FlushBegin 8) (call.FlushBegun 4 136) ∷ told 1 (call.Store 9 key_0 account_11) call.Done
    ∷ told 2 (call.SnapEnd 4) call.Done ∷ told 2 (call.Load (view_of [] 5) key_4) call.NotFound
    ∷ told 2 (call.Load (view_of (2 ∷ []) 8) key_3) call.NotFound ∷ told 1 (call.Raise 3) (call.Raised 4)
    ∷ told 1 (call.Reclaim None 256) call.NothingLeft ∷ told 1 (call.FlushEnd 7) (call.Refused (call.NotFlushing 7))
    ∷ told 1 (call.Store 9 key_1 account_24) call.Done ∷ told 1 (call.Store 9 key_5 tomb) call.Done ∷ told 1 (call.Root 9) call.Done
    ∷ told 1 (call.FlushBegin 9) (call.FlushBegun 5 408) ∷ told 1 (call.FlushEnd 9) call.Done ∷ told 1 (call.Raise 9) (call.Refused (call.Leased 9 4))
    ∷ told 1 (call.Raise 4) (call.Raised 4) ∷ told 1 (call.Reclaim None 256) (call.Reclaimed key_5)
    ∷ told 1 (call.Reclaim (Some key_5) 256) call.NothingLeft ∷ told 2 (call.Store 10 key_1 account_3) call.Done
    ∷ told 2 (call.Raise 4) (call.Raised 4) ∷ told 2 (call.Reclaim None 256) (call.Reclaimed key_5)
    ∷ told 2 (call.Reclaim (Some key_5) 256) call.NothingLeft ∷ told 2 (call.FlushBegin 2) (call.Refused (call.NothingCached 2))
    ∷ told 2 (call.FlushEnd 8) call.Done ∷ told 1 (call.Raise 9) (call.Refused (call.Leased 9 4)) ∷ told 2 (call.Store 10 key_3 account_30) call.Done
    ∷ told 2 (call.Store 10 key_3 account_0) call.Done ∷ told 1 (call.Load (view_of [] 5) key_0) call.NotFound ∷ told 2 (call.Raise 3) (call.Raised 4)
    ∷ told 1 call.Recycle (call.Recycled 0) ∷ told 1 (call.Raise 2) (call.Raised 4) ∷ told 1 (call.Reclaim None 256) (call.Reclaimed key_5)
    ∷ told 1 (call.Reclaim (Some key_5) 256) call.NothingLeft ∷ told 2 (call.Raise 4) (call.Raised 4)
    ∷ told 2 (call.Reclaim None 256) (call.Reclaimed key_5) ∷ told 2 (call.Reclaim (Some key_5) 256) call.NothingLeft ∷ [])

abbrev opened_last_3 : State
opened_last_3 = record {
  stores =
      (stored 2 key_2 tomb ∷ stored 2 key_2 account_5 ∷ stored 4 key_1 account_45 ∷ stored 4 key_5 account_15 ∷ stored 8 key_4 account_44
      ∷ stored 9 key_0 account_11 ∷ stored 9 key_1 account_24 ∷ stored 9 key_5 tomb ∷ stored 10 key_1 account_3 ∷ stored 10 key_3 account_30
      ∷ stored 10 key_3 account_0 ∷ []);
  roots = (2 ∷ 3 ∷ 4 ∷ 8 ∷ 9 ∷ []);
  cleaned = 4;
  leases = (lease 1 4 ∷ []);
  flushed = (2 ∷ 3 ∷ 4 ∷ 9 ∷ 8 ∷ []);
  storages =
      (storage 2 4 (row key_1 account_45 ∷ row key_5 account_15 ∷ []) 272 Live ∷ storage 3 2 (row key_2 account_5 ∷ []) 136 Live
      ∷ storage 4 8 (row key_4 account_44 ∷ []) 136 Live ∷ storage 5 9 (row key_0 account_11 ∷ row key_1 account_24 ∷ row key_5 tomb ∷ []) 408 Live
      ∷ []);
  named = (pair 2 key_2 ∷ pair 4 key_1 ∷ pair 4 key_5 ∷ pair 9 key_0 ∷ pair 9 key_1 ∷ pair 9 key_5 ∷ pair 8 key_4 ∷ []);
  pins = [];
  shrinks = [];
  snap = None;
  next_id = 6;
  budget = 4294967296;
}

opened_history_3 : run (opened 4294967296 4 images_3 (3 ∷ [])) (calls_of opened_events_3) ≡ (opened_last_3, replies_of opened_events_3)
opened_history_3 = refl

abbrev images_4 : List Image
images_4 =
    (image 1 (row key_3 account_11 ∷ []) 136 ∷ image 2 (row key_0 tomb ∷ row key_0 account_36 ∷ []) 272
    ∷ image 4 (row key_3 account_40 ∷ row key_3 tomb ∷ row key_4 tomb ∷ row key_3 account_40 ∷ row key_2 tomb ∷ row key_3 tomb ∷ row key_0 account_0 ∷ row key_2 account_5 ∷ []) 1088
    ∷ image 5 (row key_4 account_40 ∷ row key_0 account_40 ∷ row key_4 account_24 ∷ row key_3 account_24 ∷ row key_0 tomb ∷ []) 680
    ∷ image 6 (row key_5 account_30 ∷ row key_2 account_40 ∷ row key_2 account_47 ∷ []) 408
    ∷ image 10 (row key_4 account_42 ∷ row key_5 account_40 ∷ row key_4 account_13 ∷ row key_3 account_11 ∷ row key_5 account_19 ∷ []) 680
    ∷ image 14 (row key_3 account_40 ∷ row key_2 account_11 ∷ row key_4 tomb ∷ row key_3 tomb ∷ []) 544 ∷ image 15 (row key_0 account_31 ∷ []) 136
    ∷ image 20 (row key_4 account_40 ∷ row key_4 tomb ∷ row key_3 tomb ∷ row key_0 tomb ∷ []) 544
    ∷ image 23 (row key_2 account_0 ∷ row key_5 account_40 ∷ row key_5 account_5 ∷ row key_0 account_13 ∷ []) 544
    ∷ image 25 (row key_2 account_40 ∷ row key_2 account_3 ∷ []) 272
    ∷ image 26 (row key_3 tomb ∷ row key_3 account_24 ∷ row key_2 tomb ∷ row key_2 tomb ∷ row key_4 account_24 ∷ row key_2 tomb ∷ []) 816
    ∷ image 27 (row key_5 tomb ∷ []) 136 ∷ image 28 (row key_2 account_5 ∷ []) 136
    ∷ image 29 (row key_0 tomb ∷ row key_3 account_42 ∷ row key_4 tomb ∷ row key_3 tomb ∷ row key_2 tomb ∷ row key_3 account_24 ∷ []) 816 ∷ [])

abbrev opened_events_4 : List Event
opened_events_4 =
    (told 2 (call.ShrinkBegin 28) (call.Refused (call.NothingDead 28)) ∷ told 1 (call.ShrinkBegin 30) (call.Refused (call.NoStorage 30))
    ∷ told 1 (call.ShrinkBegin 25) (call.ShrinkBegun 11 16 136) ∷ told 1 (call.Raise 27) (call.Raised 33)
    ∷ told 1 (call.Reclaim None 256) (call.Reclaimed key_4) ∷ told 1 (call.Reclaim (Some key_4) 256) call.NothingLeft
    ∷ told 1 (call.Load (view_of [] 33) key_4) call.NotFound ∷ told 2 (call.ShrinkEnd 25) (call.Superseded 25 11)
    ∷ told 2 (call.ShrinkBegin 29) (call.ShrinkBegun 15 17 136) ∷ told 1 (call.Root 34) call.Done
    ∷ told 1 (call.FlushBegin 34) (call.Refused (call.NothingCached 34)) ∷ told 1 (call.Raise 34) (call.Raised 34)
    ∷ told 1 (call.Reclaim None 256) call.NothingLeft ∷ told 2 (call.Raise 29) (call.Raised 34) ∷ told 2 (call.Reclaim None 256) call.NothingLeft
    ∷ told 1 (call.Root 36) call.Done ∷ told 1 (call.ShrinkBegin 29) (call.Refused (call.Shrinking 29 17)) ∷ told 2 (call.Raise 36) (call.Raised 36)
    ∷ told 2 (call.Reclaim None 256) call.NothingLeft ∷ told 2 (call.ShrinkBegin 29) (call.Refused (call.Shrinking 29 17))
    ∷ told 1 call.Recycle (call.Recycled 14) ∷ told 1 (call.Store 37 key_3 account_24) call.Done ∷ told 1 (call.Root 37) call.Done
    ∷ told 1 (call.FlushBegin 37) (call.FlushBegun 18 136) ∷ told 1 (call.FlushEnd 37) call.Done ∷ told 1 (call.Raise 37) (call.Raised 37)
    ∷ told 1 (call.Reclaim None 256) (call.Reclaimed key_3) ∷ told 1 (call.Reclaim (Some key_3) 256) call.NothingLeft
    ∷ told 1 (call.Raise 37) (call.Raised 37) ∷ told 1 (call.Reclaim None 256) call.NothingLeft
    ∷ told 1 (call.Load (view_of [] 37) key_0) call.NotFound ∷ told 2 (call.Store 39 key_3 account_11) call.Done
    ∷ told 2 (call.ShrinkEnd 29) (call.Superseded 29 15) ∷ told 2 (call.Store 39 key_3 account_3) call.Done
    ∷ told 2 (call.EndLease 37) (call.Refused (call.NotLeased 37)) ∷ told 1 (call.Load (view_of [] 34) key_4) (call.Refused (call.ViewTooOld 34 37))
    ∷ told 2 call.Stats (call.Counted (counts 1 0 1 1 1 1 952 0)) ∷ told 1 (call.Store 39 key_2 account_13) call.Done
    ∷ told 2 (call.Store 38 key_0 account_46) call.Done ∷ told 2 (call.Raise 36) (call.Raised 37)
    ∷ told 2 (call.Reclaim None 256) (call.Reclaimed key_3) ∷ told 2 (call.Reclaim (Some key_3) 256) call.NothingLeft
    ∷ told 1 (call.Root 39) call.Done ∷ told 2 (call.Root 40) call.Done ∷ told 1 (call.FlushBegin 39) (call.FlushBegun 19 272)
    ∷ told 1 (call.FlushEnd 39) call.Done ∷ told 2 (call.SnapBegin 37) (call.SnapBegun 1) ∷ told 2 (call.SnapEnd 37) call.Done
    ∷ told 2 (call.Purge 38) (call.Purged 1) ∷ told 2 (call.Lease 38) call.Done ∷ told 1 (call.Store 41 key_2 account_11) call.Done
    ∷ told 2 (call.SnapBegin 39) (call.SnapBegun 2) ∷ told 2 (call.SnapEnd 39) call.Done ∷ told 2 (call.Root 41) call.Done
    ∷ told 2 (call.Raise 36) (call.Raised 37) ∷ told 2 (call.Reclaim None 256) (call.Reclaimed key_2)
    ∷ told 2 (call.Reclaim (Some key_2) 256) call.NothingLeft ∷ told 1 (call.Store 45 key_3 account_11) call.Done
    ∷ told 1 (call.Load (view_of (14 ∷ 37 ∷ 44 ∷ []) 45) key_4) call.NotFound ∷ told 2 (call.Store 45 key_2 tomb) call.Done ∷ [])

abbrev opened_last_4 : State
opened_last_4 = record {
  stores =
      (stored 1 key_3 account_11 ∷ stored 2 key_0 tomb ∷ stored 2 key_0 account_36 ∷ stored 4 key_3 account_40 ∷ stored 4 key_3 tomb
      ∷ stored 4 key_4 tomb ∷ stored 4 key_3 account_40 ∷ stored 4 key_2 tomb ∷ stored 4 key_3 tomb ∷ stored 4 key_0 account_0
      ∷ stored 4 key_2 account_5 ∷ stored 5 key_4 account_40 ∷ stored 5 key_0 account_40 ∷ stored 5 key_4 account_24 ∷ stored 5 key_3 account_24
      ∷ stored 5 key_0 tomb ∷ stored 6 key_5 account_30 ∷ stored 6 key_2 account_40 ∷ stored 6 key_2 account_47 ∷ stored 10 key_4 account_42
      ∷ stored 10 key_5 account_40 ∷ stored 10 key_4 account_13 ∷ stored 10 key_3 account_11 ∷ stored 10 key_5 account_19 ∷ stored 14 key_3 account_40
      ∷ stored 14 key_2 account_11 ∷ stored 14 key_4 tomb ∷ stored 14 key_3 tomb ∷ stored 15 key_0 account_31 ∷ stored 20 key_4 account_40
      ∷ stored 20 key_4 tomb ∷ stored 20 key_3 tomb ∷ stored 20 key_0 tomb ∷ stored 23 key_2 account_0 ∷ stored 23 key_5 account_40
      ∷ stored 23 key_5 account_5 ∷ stored 23 key_0 account_13 ∷ stored 25 key_2 account_40 ∷ stored 25 key_2 account_3 ∷ stored 26 key_3 tomb
      ∷ stored 26 key_3 account_24 ∷ stored 26 key_2 tomb ∷ stored 26 key_2 tomb ∷ stored 26 key_4 account_24 ∷ stored 26 key_2 tomb
      ∷ stored 27 key_5 tomb ∷ stored 28 key_2 account_5 ∷ stored 29 key_0 tomb ∷ stored 29 key_3 account_42 ∷ stored 29 key_4 tomb
      ∷ stored 29 key_3 tomb ∷ stored 29 key_2 tomb ∷ stored 29 key_3 account_24 ∷ stored 37 key_3 account_24 ∷ stored 39 key_3 account_11
      ∷ stored 39 key_3 account_3 ∷ stored 39 key_2 account_13 ∷ stored 41 key_2 account_11 ∷ stored 45 key_3 account_11 ∷ stored 45 key_2 tomb ∷ []);
  roots = (1 ∷ 2 ∷ 4 ∷ 5 ∷ 6 ∷ 10 ∷ 14 ∷ 15 ∷ 18 ∷ 20 ∷ 23 ∷ 25 ∷ 26 ∷ 27 ∷ 28 ∷ 29 ∷ 33 ∷ 34 ∷ 36 ∷ 37 ∷ 39 ∷ 40 ∷ 41 ∷ []);
  cleaned = 37;
  leases = (lease 2 38 ∷ []);
  flushed = (1 ∷ 2 ∷ 4 ∷ 5 ∷ 6 ∷ 10 ∷ 14 ∷ 15 ∷ 18 ∷ 20 ∷ 23 ∷ 25 ∷ 26 ∷ 27 ∷ 28 ∷ 29 ∷ 33 ∷ 37 ∷ 39 ∷ []);
  storages =
      (storage 15 29 (row key_0 tomb ∷ row key_3 account_42 ∷ row key_4 tomb ∷ row key_3 tomb ∷ row key_2 tomb ∷ row key_3 account_24 ∷ []) 816 Retired
      ∷ storage 18 37 (row key_3 account_24 ∷ []) 136 Live ∷ storage 19 39 (row key_3 account_3 ∷ row key_2 account_13 ∷ []) 272 Live ∷ []);
  named = (pair 37 key_3 ∷ pair 39 key_3 ∷ pair 39 key_2 ∷ []);
  pins = [];
  shrinks = [];
  snap = None;
  next_id = 20;
  budget = 4294967296;
}

opened_history_4 : run (opened 4294967296 33 images_4 (18 ∷ [])) (calls_of opened_events_4) ≡ (opened_last_4, replies_of opened_events_4)
opened_history_4 = refl
