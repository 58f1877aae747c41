-- How a step ends: refused, with nothing changed, or done.
use Rattle.std.specs.Prelude.{ℕ, ◌+◌, ◌==◌, nat_lt, nat_le, Bool, if◌then◌else◌, List, [], ◌∷◌, length, Option, Some, None}
use Rattle.std.specs.Option.{option_or}
use Rattle.adb_model.specs.State.{State}
use Rattle.adb_model.specs.Storages.{used}
use Rattle.adb_model.specs.Call.{Refusal, Full, NoCell, IdsSpent, Reply, Refused}

-- refused where there is a refusal
abbrev pub unless : Option Refusal → State → State × Reply → State × Reply
unless None m done = done
unless (Some refusal) m done = (m, Refused refusal)

-- what is done with what was found, refused where nothing was
abbrev pub when_found : {A : Type 0} → Option A → Refusal → State → (A → State × Reply) → State × Reply
when_found None refusal m done = (m, Refused refusal)
when_found (Some x) refusal m done = done x

-- a refusal, where the test holds
abbrev pub refused_if : Bool → Refusal → Option Refusal
refused_if test refusal = if test then Some refusal else None

-- refusals are tried in this order
abbrev pub first_of : List (Option Refusal) → Option Refusal
first_of [] = None
first_of (refusal ∷ others) = option_or refusal (first_of others)

-- why one more storage, of so many bytes, cannot be
abbrev pub room_refusals : State → ℕ → List (Option Refusal)
room_refusals m wanted =
    refused_if (nat_lt m.budget (used m + wanted)) (Full (used m) wanted m.budget)
    ∷ refused_if (nat_le 1048576 (length m.storages)) (NoCell 1048576)
    ∷ refused_if (m.next_id == 18446744073709551615) IdsSpent
    ∷ []
