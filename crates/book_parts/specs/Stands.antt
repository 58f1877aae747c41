-- What a book stands for.
use Rattle.std.specs.Prelude.{ℕ, List, [], ◌∷◌, ◌++◌, Option, Some, None}
use Rattle.pass_pins.specs.Pins.{Pins}
use Rattle.adb_model.specs.State.{State}
use Rattle.adb_model.specs.Call.{Call, Reply, Event}
use Rattle.adb_model.specs.History.{state_after, IsLegal}
use Rattle.adb_model.specs.Sound.{IsSound}
use Rattle.adb_model.specs.Once.{IsOnce}
use Rattle.adb_model.specs.RowBytes.{HaveBytes}
use Rattle.book_parts.specs.Parts.{Parts}
use Rattle.book_parts.specs.Reflects.{Reflects}
use Rattle.book_parts.specs.Pins.{HoldsPins}

-- from this start, the history is legal, and the parts are those of the state after it, which is sound
pub record Stands (p : Parts) (start : State) (history : List Event) : Type 0 where
  pub legal : IsLegal start history
  pub sound : IsSound (state_after start history)
  pub once : IsOnce (state_after start history)
  pub bytes : HaveBytes (state_after start history)
  pub parts : Reflects p (state_after start history)

-- the history with one more event, unless there was no reply, as for want of memory
abbrev pub with_event : List Event → ℕ → Call → Option Reply → List Event
with_event history pass call None = history
with_event history pass call (Some reply) = history ++ record { pass = pass; call = call; reply = reply } ∷ []

-- after a call of a pass the parts stand for the history with that event
abbrev pub After : Parts → State → List Event → ℕ → Call → Option Reply → Type 0
After p start history pass call reply = Stands p start (with_event history pass call reply)

-- and the pins in hand, of the pass that called, are those of the state then
pub record AfterWithPins (p : Parts) (in_hand : Pins) (start : State) (history : List Event) (call : Call) (reply : Option Reply) : Type 0 where
  pub stands : After p start history in_hand.pass call reply
  pub pins : HoldsPins in_hand (state_after start (with_event history in_hand.pass call reply))

-- the parts stand for some history
pub record HasHistory (p : Parts) : Type 0 where
  pub start : State
  pub history : List Event
  pub stands : Stands p start history

-- and the pins in hand are those of the state after it
pub record HasHistoryWithPins (p : Parts) (in_hand : Pins) : Type 0 where
  pub start : State
  pub history : List Event
  pub stands : Stands p start history
  pub pins : HoldsPins in_hand (state_after start history)
