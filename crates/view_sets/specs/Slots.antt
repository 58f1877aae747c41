-- Words on lists of slots.
use Rattle.std.specs.Prelude.{ℕ, ◌-◌, ◌==◌, Bool, List, length, Option, slice_get}
use Rattle.std.specs.List.{list_any}

-- whether the slot is in the list
abbrev pub among : ℕ → List ℕ → Bool
among slot slots = list_any (λ s. s == slot) slots

-- the last slot, which is the greatest where they rise
abbrev pub newest : List ℕ → Option ℕ
newest slots = slice_get slots (length slots - 1)
