-- Words of the laws of shrinks.
use Rattle.std.specs.Prelude.{◌≡◌, ◌≢◌, ◌<◌, Bool, true, false, ℕ, List, Some, None, All, AllPairs, IsTrue, IsFalse}
use Rattle.adb_model.specs.Lists.{among}
use Rattle.adb_model.specs.State.{Storage, Shrink, State}
use Rattle.adb_model.specs.Presence.{is_live, is_named, has_row}
use Rattle.adb_model.specs.Storages.{is_filling, is_copy, storage_with, live_storage, filling_storage, open_flush, pin_count}
use Rattle.adb_model.specs.Call as call
use Rattle.adb_model.specs.Call.{Call}
use Rattle.adb_model.specs.Shrink.{is_current}
use Rattle.adb_model.specs.Sound.{last_account, last_row}

-- the open shrink of the slot, between its old storage and the copy that it fills, which has a row of each named key
pub record IsOpenShrink (m : State) (slot : ℕ) (h : Shrink) (old copy : Storage) : Type 0 where
  pub of_slot : h.slot ≡ slot
  pub differ : h.old ≢ h.new
  pub old_with_id : storage_with m h.old ≡ Some old
  pub copy_with_id : storage_with m h.new ≡ Some copy
  pub old_slot : old.slot ≡ slot
  pub copy_slot : copy.slot ≡ slot
  pub filled : IsFalse (is_filling old)
  pub fills : IsTrue (is_filling copy)
  pub is_copy : IsTrue (is_copy m copy.id)
  pub in_slot : filling_storage m slot ≡ Some copy
  pub no_flush : open_flush m slot ≡ None
  pub flushed : IsTrue (among slot m.flushed)
  pub current : is_current m h ≡ is_live old
  pub in_use : IsTrue (is_current m h) → live_storage m slot ≡ Some old
  pub named : (k : List ℕ) → IsTrue (is_named m slot k) → IsTrue (has_row k copy.rows)
  pub within : (k : List ℕ) → IsTrue (has_row k copy.rows) → IsTrue (has_row k old.rows)
  pub last : (k : List ℕ) → IsTrue (has_row k copy.rows) → last_row k copy.rows ≡ last_account m slot k
  pub pinned : 0 < pin_count m h.old
  pub unpinned : pin_count m h.new ≡ 0

-- what is being filled has one row of each of its keys
abbrev pub FillsOnce : State → Type 0
FillsOnce m = All (λ t. IsTrue (is_filling t) → AllPairs (λ r q. r.key ≢ q.key) t.rows) m.storages

-- the call is none that begins, ends or gives up a shrink, so the shrinks stay
abbrev pub shrinks_stay : Call → Bool
shrinks_stay (call.Store slot key account) = true
shrinks_stay (call.Root slot) = true
shrinks_stay (call.Purge slot) = true
shrinks_stay (call.Load view key) = true
shrinks_stay (call.Unpin id) = true
shrinks_stay (call.Lease max_root) = true
shrinks_stay (call.EndLease max_root) = true
shrinks_stay (call.FlushBegin slot) = true
shrinks_stay (call.FlushEnd slot) = true
shrinks_stay (call.FlushAbort slot) = true
shrinks_stay (call.Raise upto) = true
shrinks_stay (call.Reclaim after most) = true
shrinks_stay (call.ShrinkBegin slot) = false
shrinks_stay (call.ShrinkEnd slot) = false
shrinks_stay (call.ShrinkAbort slot) = false
shrinks_stay (call.SnapBegin slot) = true
shrinks_stay (call.SnapEnd slot) = true
shrinks_stay call.Recycle = true
shrinks_stay call.Stats = true
