-- What a script says: its budget, the snapshot that it opens, and what each line has a lane do.
use Rattle.std.specs.Prelude.{ℕ, List, [], ◌∷◌, ◌++◌, codes, map, Option, Some, None}
use Rattle.std.specs.Fmt.{decimal}
use Rattle.adb_model.specs.Call.{Call, Event}
use Rattle.adb_model.specs.Plays as machine
use Rattle.adb_model.specs.View.{View}
use Rattle.script.specs.Text.{spaced, journal_of}

-- what a line asks for; `workers` threads fill a flushed storage
pub data Order : Type 0 where
  Plain : (call : Call) → Order
  Get : (view : View) (key : List ℕ) → Order
  Flush : (slot workers : ℕ) → Order
  Clean : (upto : ℕ) → Order
  Shrink : (slot : ℕ) → Order
  Snap : (slot : ℕ) (name : List ℕ) → Order

-- an order of a lane
pub record Line : Type 0 where
  pub lane : ℕ
  pub order : Order

-- the budget of the header, and the name of the snapshot that it opens, where there are such header lines; and the lines
pub record Said : Type 0 where
  pub budget : Option ℕ
  pub opened : Option (List ℕ)
  pub lines : List Line

-- the machine's order; it has no workers and no names
abbrev pub order_played : Order → machine.Order
order_played (Plain call) = machine.Plain call
order_played (Get view key) = machine.Get view key
order_played (Flush slot workers) = machine.Flush slot
order_played (Clean upto) = machine.Clean upto
order_played (Shrink slot) = machine.Shrink slot
order_played (Snap slot name) = machine.Snap slot

abbrev pub line_played : Line → machine.Line
line_played l = record { lane = l.lane; order = order_played l.order }

-- the machine's lines of a script
abbrev pub lines_played : Said → List machine.Line
lines_played s = map line_played s.lines

-- the most bytes that the storages have together, where no header says another number
abbrev pub default_budget : ℕ
default_budget = 4294967296

-- the header's budget, or the default
abbrev pub budget_of : Option ℕ → ℕ
budget_of None = default_budget
budget_of (Some budget) = budget

-- the journal's line of the budget, where the header says one
unfoldable pub budget_line : Option ℕ → List ℕ
budget_line None = []
budget_line (Some budget) = spaced (codes "budget" ∷ decimal budget ∷ codes "=" ∷ codes "ok" ∷ []) ++ 10 ∷ []

-- the line of a snapshot of this name that was opened, and of its slot
unfoldable pub open_line : List ℕ → ℕ → List ℕ
open_line name slot = spaced (codes "open" ∷ name ∷ codes "=" ∷ codes "ok" ∷ decimal slot ∷ []) ++ 10 ∷ []

-- the same, where the header opens a snapshot and it has a slot
abbrev pub opened_line : Option (List ℕ) → Option ℕ → List ℕ
opened_line (Some name) (Some slot) = open_line name slot
opened_line (Some name) None = []
opened_line None slot = []

-- the journal of a script, by the slot of the snapshot that it opened, if it did, and the history that its lines made
abbrev pub whole_journal : Said → Option ℕ → List Event → List ℕ
whole_journal s slot h = budget_line s.budget ++ (opened_line s.opened slot ++ journal_of h)
