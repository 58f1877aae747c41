-- The pins of a pass in a state.
use Rattle.std.specs.Prelude.{◌≡◌, ℕ, ◌==◌, length, count_by}
use Rattle.pass_pins.specs.Pins.{Pins, count_of}
use Rattle.adb_model.specs.State.{State}
use Rattle.adb_model.specs.Callers.{is_pin}
use Rattle.adb_model.specs.History.{IsPass}

-- the pins in hand are those that their pass has in the state
pub record HoldsPins (pins : Pins) (m : State) : Type 0 where
  pub pass : IsPass pins.pass
  pub each : (id : ℕ) → count_of id pins.pins ≡ count_by (is_pin pins.pass id) m.pins
  pub count : length pins.pins ≡ count_by (λ p. p.pass == pins.pass) m.pins
