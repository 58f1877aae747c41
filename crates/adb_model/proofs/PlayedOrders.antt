-- The events of single orders, as another implementation of the machine plays them.
use Rattle.std.proofs.Common.{[], ◌∷◌, Some, None, refl}
use Rattle.adb_model.specs.View.{view_of}
use Rattle.adb_model.specs.Call as call
use Rattle.adb_model.specs.Call.{Call, Reply, Event}
use Rattle.adb_model.specs.Plays as plays
use Rattle.adb_model.specs.Plays.{Follow}
use Rattle.adb_model.proofs.PlayedValues.{told, key_0, key_3, account_11, account_48}

group_0 : Follow (record { lane = 2; order = plays.Plain (call.Load (view_of [] 0) key_3) }) None
    (told 2 (call.Load (view_of [] 0) key_3) call.NotFound ∷ [])
group_0 = (refl, refl, refl)

group_1 : Follow (record { lane = 1; order = plays.Plain (call.Root 2) }) None
    (told 1 (call.Root 2) call.Done ∷ [])
group_1 = (refl, refl, refl)

group_2 : Follow (record { lane = 1; order = plays.Flush 3 }) None
    (told 1 (call.FlushBegin 3) (call.Refused (call.NothingCached 3)) ∷ [])
group_2 = (refl, refl, refl)

group_3 : Follow (record { lane = 1; order = plays.Clean 3 }) None
    (told 1 (call.Raise 3) (call.Raised 3) ∷ told 1 (call.Reclaim None 256) call.NothingLeft ∷ [])
group_3 = (refl, refl, (refl, refl, refl))

group_4 : Follow (record { lane = 1; order = plays.Plain (call.Recycle) }) None
    (told 1 call.Recycle (call.Recycled 0) ∷ [])
group_4 = (refl, refl, refl)

group_5 : Follow (record { lane = 2; order = plays.Plain (call.Reclaim (Some key_3) 1) }) None
    (told 2 (call.Reclaim (Some key_3) 1) call.NothingLeft ∷ [])
group_5 = (refl, refl, refl)

group_6 : Follow (record { lane = 2; order = plays.Plain (call.Store 4 key_3 account_11) }) None
    (told 2 (call.Store 4 key_3 account_11) call.Done ∷ [])
group_6 = (refl, refl, refl)

group_7 : Follow (record { lane = 2; order = plays.Clean 4 }) None
    (told 2 (call.Raise 4) (call.Raised 4) ∷ told 2 (call.Reclaim None 256) (call.Reclaimed key_0)
    ∷ told 2 (call.Reclaim (Some key_0) 256) call.NothingLeft ∷ [])
group_7 = (refl, refl, (refl, refl, (refl, refl, refl)))

group_8 : Follow (record { lane = 1; order = plays.Plain (call.Reclaim None 2) }) None
    (told 1 (call.Reclaim None 2) (call.Reclaimed key_0) ∷ [])
group_8 = (refl, refl, refl)

group_9 : Follow (record { lane = 2; order = plays.Flush 4 }) None
    (told 2 (call.FlushBegin 4) (call.FlushBegun 1 136) ∷ told 2 (call.FlushEnd 4) call.Done ∷ [])
group_9 = (refl, refl, (refl, refl, refl))

group_10 : Follow (record { lane = 2; order = plays.Get (view_of (4 ∷ []) 4) key_3 }) None
    (told 2 (call.Load (view_of (4 ∷ []) 4) key_3) (call.Found 4 (call.InStorage 1) account_11) ∷ told 2 (call.Unpin 1) call.Done ∷ [])
group_10 = (refl, refl, (refl, refl, refl))

group_11 : Follow (record { lane = 2; order = plays.Shrink 5 }) None
    (told 2 (call.ShrinkBegin 5) (call.Refused (call.NoStorage 5)) ∷ [])
group_11 = (refl, refl, refl)

group_12 : Follow (record { lane = 2; order = plays.Shrink 6 }) None
    (told 2 (call.ShrinkBegin 6) (call.Refused (call.NothingDead 6)) ∷ [])
group_12 = (refl, refl, refl)

group_13 : Follow (record { lane = 2; order = plays.Snap 5 }) None
    (told 2 (call.SnapBegin 5) (call.Refused (call.SnapOpen 6)) ∷ [])
group_13 = (refl, refl, refl)

group_14 : Follow (record { lane = 1; order = plays.Get (view_of [] 0) key_0 }) None
    (told 1 (call.Load (view_of [] 0) key_0) call.NotFound ∷ [])
group_14 = (refl, refl, refl)

group_15 : Follow (record { lane = 2; order = plays.Get (view_of (6 ∷ []) 1) key_0 }) None
    (told 2 (call.Load (view_of (6 ∷ []) 1) key_0) (call.Found 6 call.Cached account_48) ∷ [])
group_15 = (refl, refl, refl)

group_16 : Follow (record { lane = 1; order = plays.Flush 3 }) None
    (told 1 (call.FlushBegin 3) (call.Refused (call.NotRooted 3)) ∷ [])
group_16 = (refl, refl, refl)

group_17 : Follow (record { lane = 2; order = plays.Snap 2 }) None
    (told 2 (call.SnapBegin 2) (call.SnapBegun 0) ∷ told 2 (call.SnapEnd 2) call.Done ∷ [])
group_17 = (refl, refl, (refl, refl, refl))

group_18 : Follow (record { lane = 1; order = plays.Get (view_of (2 ∷ 6 ∷ []) 1) key_0 }) None
    (told 1 (call.Load (view_of (2 ∷ 6 ∷ []) 1) key_0) (call.Refused (call.ViewTooOld 1 2)) ∷ [])
group_18 = (refl, refl, refl)

group_19 : Follow (record { lane = 1; order = plays.Clean 7 }) None
    (told 1 (call.Raise 7) (call.Refused (call.Leased 7 3)) ∷ [])
group_19 = (refl, refl, refl)

group_20 : Follow (record { lane = 2; order = plays.Snap 4 }) None
    (told 2 (call.SnapBegin 4) (call.Refused (call.Unflushed 3)) ∷ [])
group_20 = (refl, refl, refl)

group_21 : Follow (record { lane = 2; order = plays.Shrink 4 }) None
    (told 2 (call.ShrinkBegin 4) (call.ShrinkBegun 3 4 272) ∷ told 2 (call.ShrinkEnd 4) call.Done ∷ [])
group_21 = (refl, refl, (refl, refl, refl))

group_22 : Follow (record { lane = 1; order = plays.Clean 12 }) None
    (told 1 (call.Raise 12) (call.Refused (call.PastRoot 12 (Some 8))) ∷ [])
group_22 = (refl, refl, refl)

group_23 : Follow (record { lane = 1; order = plays.Snap 4 }) None
    (told 1 (call.SnapBegin 4) (call.Refused (call.SnapTooOld 4 6)) ∷ [])
group_23 = (refl, refl, refl)

group_24 : Follow (record { lane = 2; order = plays.Snap 5 }) None
    (told 2 (call.SnapBegin 5) (call.Refused (call.NotRoot 5)) ∷ [])
group_24 = (refl, refl, refl)

group_25 : Follow (record { lane = 2; order = plays.Flush 12 }) None
    (told 2 (call.FlushBegin 12) (call.Refused (call.Flushing 12 3)) ∷ [])
group_25 = (refl, refl, refl)

group_26 : Follow (record { lane = 1; order = plays.Shrink 3 }) None
    (told 1 (call.ShrinkBegin 3) (call.Refused (call.Shrinking 3 4)) ∷ [])
group_26 = (refl, refl, refl)
