-- What a load finds in a storage, and the pin that it leaves.
use Rattle.std.specs.Prelude.{◌≡◌, ℕ, false, List, [], ◌∷◌, ◌++◌, Option, Some, None, option_map, IsSome, Result, Ok, Err}
use Rattle.vec_scan.specs.Seal.{row_at, row_there}
use Rattle.pass_pins.specs.Pins.{Pins}
use Rattle.book.specs.declared.refusals.LoadRefusal.{LoadRefusal}
use Rattle.book.specs.declared.loading.Found.{Found}
use Rattle.book.specs.declared.loading.FoundAt.{FoundAt}
use Rattle.book.specs.declared.loading.FoundAt.TheVariants.{Cached, Stored}

-- a record of the key starts at the place that was found in a storage
abbrev pub IsThere : List ℕ → FoundAt → Type 0
IsThere key (Cached account) = Unit {0}
IsThere key (Stored id sealed offset) =
    IsSome (row_at sealed.value.rows offset) × (option_map (λ r. r.key) (row_there sealed.value.rows offset) ≡ Some key)

-- with one pin more, of the storage in which something was found
abbrev pub pins_for : FoundAt → Pins → Pins
pins_for (Cached account) pins = pins
pins_for (Stored id sealed offset) pins = record pins { pins = pins.pins ++ record { id = id; finished = false } ∷ [] }

-- what a load leaves of the pins in hand
abbrev pub pins_after : Result (Option Found) LoadRefusal → Pins → Pins
pins_after (Ok None) pins = pins
pins_after (Ok (Some found)) pins = pins_for found.at pins
pins_after (Err refusal) pins = pins
