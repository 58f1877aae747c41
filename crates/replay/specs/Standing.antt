-- What a player stands for: a history of its book, the pins of its lanes, and the flushes, shrinks and the snapshot that it has begun.
use Rattle.std.specs.Prelude.{◌≡◌, ℕ, ◌+◌, ◌<◌, ◌≤◌, ◌==◌, Bool, List, [], ◌++◌, length, map, find, count_by, Option, Some, None, option_map, Result, Ok, Err, IsFalse, IsSomeAnd, All, slice_get}
use Rattle.std.specs.declared.alloc.AllocError.{AllocError}
use Rattle.adb_model.specs.State.{State}
use Rattle.adb_model.specs.Storages.{is_filling, open_flush, open_shrink}
use Rattle.adb_model.specs.Call as machine
use Rattle.adb_model.specs.History.{state_after}
use Rattle.adb_model.specs.Laws.{ShowLive}
use Rattle.adb_model.specs.Seen.{call_of, reply_of}
use Rattle.adb_model.specs.declared.call.Call.{Call}
use Rattle.adb_model.specs.declared.call.Reply.{Reply}
use Rattle.accounts_index.specs.Index.{crowded_after}
use Rattle.vec_scan.specs.Shown.{shown}
use Rattle.pass_pins.specs.Pins.{Pins}
use Rattle.book_parts.specs.Parts.{Parts}
use Rattle.book_parts.specs.Pins.{HoldsPins}
use Rattle.book_parts.specs.Shrinks.{Copy, shrink_of, IsOpenCopy}
use Rattle.book_parts.specs.Snaps.{Snapshot, IsOpenSnap}
use Rattle.book_parts.specs.Stands.{Stands}
use Rattle.flush_plan.specs.Jobs.{Job, storage_of}

-- the number of a lane
abbrev pub IsLane : ℕ → Type 0
IsLane lane = (1 ≤ lane) × (lane ≤ 64)

-- a reclaim is asked for 1 to 256 keys
abbrev pub IsOfFewKeys : machine.Call → Type 0
IsOfFewKeys (machine.Reclaim after most) = (1 ≤ most) × (most ≤ 256)
IsOfFewKeys call = Unit {0}

-- where a reclaim took a key, fewer crowded keys are above that one than were above the one it went on from
abbrev pub FewerLeft : machine.Call → machine.Reply → Parts → Parts → Type 0
FewerLeft call reply old new = (after : Option (List ℕ)) (most : ℕ) (key : List ℕ) → call ≡ machine.Reclaim after most → reply ≡ machine.Reclaimed key
    → length (crowded_after new.index (Some key)) < length (crowded_after old.index after)

-- where a snapshot began, the one in hand is of its slot and has the images of the storages that are in use up to it
abbrev pub ShowsLive : machine.Call → machine.Reply → State → Option Snapshot → Type 0
ShowsLive call reply m snap = (slot storages : ℕ) → call ≡ machine.SnapBegin slot → reply ≡ machine.SnapBegun storages
    → IsSomeAnd snap (λ job. (job.slot ≡ slot) × ShowLive m slot (map shown job.storages))

-- what contracts see of a player: its book, the pins of lane 1, of lane 2, and so on, and the flushes, the shrinks and the snapshot in hand
pub record Lanes : Type 0 where
  pub book : Parts
  pub pins : List Pins
  pub jobs : List Job
  pub shrinks : List Copy
  pub snap : Option Snapshot

-- there are 64 lanes, and each has in hand what its pass has pinned
pub record LanesHold (pins : List Pins) (m : State) : Type 0 where
  pub count : length pins ≡ 64
  pub each : (i : ℕ) (p : Pins) → slice_get pins i ≡ Some p → (p.pass ≡ i + 1) × HoldsPins p m

-- the flush is of the slot
abbrev pub is_of : ℕ → Job → Bool
is_of slot job = job.slot == slot

-- the shrink is of the slot
abbrev pub is_shrink_of : ℕ → Copy → Bool
is_shrink_of slot copy = copy.slot == slot

-- of each slot the one in hand is the one that is open, and no two in hand are of one slot
pub record AreOpen {X Y : Type 0} (slot_of : X → ℕ) (seen : X → Y) (in_hand : List X) (opened : ℕ → Option Y) : Type 0 where
  pub each : (slot : ℕ) → opened slot ≡ option_map seen (find (λ x. slot_of x == slot) in_hand)
  pub differ : (slot : ℕ) → count_by (λ x. slot_of x == slot) in_hand ≤ 1

-- the flushes in hand are those that are open
abbrev pub JobsStand : List Job → State → Type 0
JobsStand jobs m = AreOpen (λ (job : Job). job.slot) storage_of jobs (open_flush m)

-- the shrinks in hand are those that are open, each between its storages
pub record ShrinksStand (shrinks : List Copy) (m : State) : Type 0 where
  pub opened : AreOpen (λ (copy : Copy). copy.slot) shrink_of shrinks (open_shrink m)
  pub copies : All (λ copy. IsOpenCopy copy m) shrinks

-- the snapshot in hand is the one that is open, and where there is none, none is
abbrev pub SnapStands : Option Snapshot → State → Type 0
SnapStands None m = m.snap ≡ None
SnapStands (Some job) m = IsOpenSnap job m

-- the player stands for this history from this start
pub record PlayerStands (p : Lanes) (start : State) (history : List machine.Event) : Type 0 where
  pub book : Stands p.book start history
  pub pins : LanesHold p.pins (state_after start history)
  pub jobs : JobsStand p.jobs (state_after start history)
  pub shrinks : ShrinksStand p.shrinks (state_after start history)
  pub snap : SnapStands p.snap (state_after start history)

-- the player stands for some history
pub record HasHistory (p : Lanes) : Type 0 where
  pub start : State
  pub history : List machine.Event
  pub stands : PlayerStands p start history

-- nobody has anything pinned, and no flush, shrink or snapshot is open
pub record IsQuiet (m : State) : Type 0 where
  pub pins : m.pins ≡ []
  pub shrinks : m.shrinks ≡ []
  pub filling : All (λ t. IsFalse (is_filling t)) m.storages
  pub snap : m.snap ≡ None

-- the reply that was told; for want of memory there is none
abbrev pub told : Result Reply AllocError → Option machine.Reply
told (Ok reply) = Some (reply_of reply)
told (Err error) = None

-- a lane's call
abbrev pub asked : ℕ × Call → ℕ × machine.Call
asked c = (c.0, call_of c.1)

-- the events are those of the calls, in order
abbrev pub AreOf : List (ℕ × machine.Call) → List machine.Event → Type 0
AreOf calls events = map (λ e. (e.pass, e.call)) events ≡ calls

-- the calls were made after a history, each with its reply
pub record HasMade (p : Lanes) (start : State) (history : List machine.Event) (calls : List (ℕ × machine.Call)) (replies : List Reply) : Type 0 where
  pub events : List machine.Event
  pub are_of : AreOf calls events
  pub replied : map (λ e. e.reply) events ≡ map reply_of replies
  pub stands : PlayerStands p start (history ++ events)

-- some of the first calls were made after a history
pub record HasMadeFirst (p : Lanes) (start : State) (history : List machine.Event) (calls : List (ℕ × machine.Call)) : Type 0 where
  pub first : List (ℕ × machine.Call)
  pub rest : List (ℕ × machine.Call)
  pub split : calls ≡ first ++ rest
  pub events : List machine.Event
  pub are_of : AreOf first events
  pub stands : PlayerStands p start (history ++ events)

-- each of the 64 lanes has no pin in hand
pub record HaveNoPins (pins : List Pins) : Type 0 where
  pub count : length pins ≡ 64
  pub each : (i : ℕ) (p : Pins) → slice_get pins i ≡ Some p → p ≡ record { pass = i + 1; pins = [] }
