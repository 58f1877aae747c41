-- What the program's values stand for in the plain machine: an `Arc` stands for what it holds, a key for its bytes.
use Rattle.std.specs.Prelude.{ℕ, List, map, option_map}
use Rattle.std.specs.declared.sync.Arc.{Arc}
use Rattle.std.specs.Global.{Global}
use Rattle.adb_model.specs.Account.{Account}
use Rattle.adb_model.specs.State.{Stored, State, fresh}
use Rattle.adb_model.specs.Call as machine
use Rattle.adb_model.specs.declared.key.Key.{Key}
use Rattle.adb_model.specs.declared.call.Call.{Call}
use Rattle.adb_model.specs.declared.call.Call.TheVariants as calls
use Rattle.adb_model.specs.declared.call.Place.{Place}
use Rattle.adb_model.specs.declared.call.Place.TheVariants as places
use Rattle.adb_model.specs.declared.call.Refusal.{Refusal}
use Rattle.adb_model.specs.declared.call.Refusal.TheVariants as refusals
use Rattle.adb_model.specs.declared.call.Stats.{Stats}
use Rattle.adb_model.specs.declared.call.Reply.{Reply}
use Rattle.adb_model.specs.declared.call.Reply.TheVariants as replies
use Rattle.adb_model.specs.declared.call.Event.{Event}
use denote.Ref.{Bor}

-- a store as a slot, a key and an account
abbrev pub stored_of : ℕ × Key × Arc Account Global → Stored
stored_of s = record { slot = s.0; key = s.1.0; account = s.2.value }

-- a borrowed store
abbrev pub row_of : Bor (ℕ × Key × Arc Account Global) → Stored
row_of r = stored_of r.now

-- the slot and the account of an answer
abbrev pub found_of : ℕ × Bor (Arc Account Global) → ℕ × Account
found_of f = (f.0, f.1.now.value)

-- the slot and the account of a store
abbrev pub place_in : Stored → ℕ × Account
place_in t = (t.slot, t.account)

-- a state with these stores and roots, and nothing else
abbrev pub state_with : List (ℕ × Key × Arc Account Global) → List ℕ → State
state_with stores roots = record (fresh 0 1) { stores = map stored_of stores; roots = roots }

-- the machine's call
abbrev pub call_of : Call → machine.Call
call_of (calls.Store slot key account) = machine.Store slot key.0 account.value
call_of (calls.Root slot) = machine.Root slot
call_of (calls.Purge slot) = machine.Purge slot
call_of (calls.Load view key) = machine.Load view key.0
call_of (calls.Unpin id) = machine.Unpin id
call_of (calls.Lease max_root) = machine.Lease max_root
call_of (calls.EndLease max_root) = machine.EndLease max_root
call_of (calls.FlushBegin slot) = machine.FlushBegin slot
call_of (calls.FlushEnd slot) = machine.FlushEnd slot
call_of (calls.FlushAbort slot) = machine.FlushAbort slot
call_of (calls.Raise upto) = machine.Raise upto
call_of (calls.Reclaim after most) = machine.Reclaim (option_map (λ k. k.0) after) most
call_of (calls.ShrinkBegin slot) = machine.ShrinkBegin slot
call_of (calls.ShrinkEnd slot) = machine.ShrinkEnd slot
call_of (calls.ShrinkAbort slot) = machine.ShrinkAbort slot
call_of (calls.SnapBegin slot) = machine.SnapBegin slot
call_of (calls.SnapEnd slot) = machine.SnapEnd slot
call_of calls.Recycle = machine.Recycle
call_of calls.Stats = machine.Stats

-- the machine's place
abbrev pub place_of : Place → machine.Place
place_of places.Cached = machine.Cached
place_of (places.InStorage id) = machine.InStorage id

-- the machine's refusal
abbrev pub refusal_of : Refusal → machine.Refusal
refusal_of (refusals.SlotRooted slot newest) = machine.SlotRooted slot newest
refusal_of (refusals.RootOrder slot newest) = machine.RootOrder slot newest
refusal_of (refusals.Rooted slot) = machine.Rooted slot
refusal_of (refusals.ViewTooOld max_root cleaned) = machine.ViewTooOld max_root cleaned
refusal_of (refusals.TooManyPins most) = machine.TooManyPins most
refusal_of (refusals.NotPinned id) = machine.NotPinned id
refusal_of (refusals.NotLeased max_root) = machine.NotLeased max_root
refusal_of (refusals.NotRooted slot) = machine.NotRooted slot
refusal_of (refusals.NothingCached slot) = machine.NothingCached slot
refusal_of (refusals.Flushing slot id) = machine.Flushing slot id
refusal_of (refusals.NotFlushing slot) = machine.NotFlushing slot
refusal_of (refusals.Full used wanted limit) = machine.Full used wanted limit
refusal_of (refusals.NoCell limit) = machine.NoCell limit
refusal_of refusals.IdsSpent = machine.IdsSpent
refusal_of (refusals.PastRoot upto newest) = machine.PastRoot upto newest
refusal_of (refusals.Leased upto least) = machine.Leased upto least
refusal_of (refusals.NoStorage slot) = machine.NoStorage slot
refusal_of (refusals.Shrinking slot id) = machine.Shrinking slot id
refusal_of (refusals.NothingDead slot) = machine.NothingDead slot
refusal_of (refusals.NotShrinking slot) = machine.NotShrinking slot
refusal_of (refusals.SnapOpen slot) = machine.SnapOpen slot
refusal_of (refusals.NotRoot slot) = machine.NotRoot slot
refusal_of (refusals.SnapTooOld slot cleaned) = machine.SnapTooOld slot cleaned
refusal_of (refusals.Unflushed slot) = machine.Unflushed slot
refusal_of (refusals.NotSnapping slot) = machine.NotSnapping slot

-- the machine's counts
abbrev pub counts_of : Stats → machine.Counts
counts_of s = record {
  cached = s.cached;
  filling = s.filling;
  live = s.live;
  retired = s.retired;
  named = s.named;
  rows = s.rows;
  bytes = s.bytes;
  pins = s.pins;
}

-- the machine's reply
abbrev pub reply_of : Reply → machine.Reply
reply_of replies.Done = machine.Done
reply_of (replies.Refused refusal) = machine.Refused (refusal_of refusal)
reply_of (replies.Purged keys) = machine.Purged keys
reply_of replies.NotFound = machine.NotFound
reply_of (replies.Found slot place account) = machine.Found slot (place_of place) account.value
reply_of (replies.FlushBegun id bytes) = machine.FlushBegun id bytes
reply_of (replies.Raised cleaned) = machine.Raised cleaned
reply_of (replies.Reclaimed key) = machine.Reclaimed key.0
reply_of replies.NothingLeft = machine.NothingLeft
reply_of (replies.ShrinkBegun old new bytes) = machine.ShrinkBegun old new bytes
reply_of (replies.Superseded slot old) = machine.Superseded slot old
reply_of (replies.SnapBegun storages) = machine.SnapBegun storages
reply_of (replies.Recycled storages) = machine.Recycled storages
reply_of (replies.Counted stats) = machine.Counted (counts_of stats)

-- the machine's event
abbrev pub event_of : Event → machine.Event
event_of e = record { pass = e.pass; call = call_of e.call; reply = reply_of e.reply }
