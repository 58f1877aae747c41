-- Histories.
use Rattle.std.specs.Prelude.{◌≡◌, List, [], ◌∷◌, ℕ, ◌≤◌}
use Rattle.std.specs.List.{AllByRecursion}
use Rattle.adb_model.specs.State.{State}
use Rattle.adb_model.specs.Call.{Call, Reply, Event}
use Rattle.adb_model.specs.Step.{step}

-- the state after these events
abbrev pub state_after : State → List Event → State
state_after m [] = m
state_after m (e ∷ events) = state_after (step m e.pass e.call).0 events

-- the state and the replies after these calls of passes
abbrev pub run : State → List (ℕ × Call) → State × List Reply
run m [] = (m, [])
run m (c ∷ calls) = let done = step m c.0 c.1 in let rest = run done.0 calls in (rest.0, done.1 ∷ rest.1)

-- the reply of each event is its step's
abbrev pub IsLegal : State → List Event → Type 0
IsLegal m [] = Unit {0}
IsLegal m (e ∷ events) = (e.reply ≡ (step m e.pass e.call).1) × IsLegal (step m e.pass e.call).0 events

-- the number of a pass
abbrev pub IsPass : ℕ → Type 0
IsPass pass = (1 ≤ pass) × (pass ≤ 65536)

-- each event is of a pass
abbrev pub AreOfPasses : List Event → Type 0
AreOfPasses events = AllByRecursion (λ e. IsPass e.pass) events
