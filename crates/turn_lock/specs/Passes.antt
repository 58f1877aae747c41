-- What contracts see of a turn, a pass and a hold, and what each call does to them.
use Rattle.std.specs.Prelude.{◌≡◌, ℕ, ◌+◌, ◌-◌, List, [], ◌∷◌, ◌++◌, Option, Some, None, length, nat_le, if◌then◌else◌}
use mathlib.Core.List.{IsPrefix}
use Rattle.atomic_table.specs.Seated.{TableId}
use Rattle.turn_lock.specs.Numbers.{HaveAll, borne_by}

-- a turn: which one it is, and the value that it was made with
pub record TurnState (V : Type 0) : Type 0 where
  pub id : TableId
  pub start : V

-- a pass: its turn, its own number, all its numbers, the numbers that it may still give out, the history that it
-- knows, how often it looked at serving, what its last look found there, and what ticket its exchange found after that
pub record PassState (E : Type 0) : Type 0 where
  pub turn : TableId
  pub number : ℕ
  pub numbers : List (ℕ × ℕ)
  pub stock : ℕ × ℕ
  pub seen : List E
  pub looks : ℕ
  pub noted : ℕ
  pub found : Option ℕ

-- a hold: the value, and the pass that took the turn
pub record HoldState (V E : Type 0) : Type 0 where
  pub value : V
  pub pass : PassState E

-- a hold with another value
abbrev pub with_value : {V E : Type 0} → HoldState V E → V → HoldState V E
with_value hold value = record hold { value = value }

-- the pass of a new turn
abbrev pub first_pass : {E : Type 0} → TableId → PassState E
first_pass id = record { turn = id; number = 1; numbers = (1, 1) ∷ []; stock = (2, 65535); seen = []; looks = 0; noted = 0; found = None }

-- the longer of two lists
abbrev pub longer : {A : Type 0} → List A → List A → List A
longer xs ys = if nat_le (length ys) (length xs) then xs else ys

module _ {E : Type 0} where
  -- the entries of a pass: those it has seen that bear one of its numbers
  abbrev pub mine_of : (E → ℕ) → PassState E → List E
  mine_of bears pass = borne_by bears pass.numbers pass.seen

  -- every number is the pass's, or in its stock
  abbrev pub IsWhole : PassState E → Type 0
  IsWhole pass = HaveAll (pass.stock ∷ pass.numbers)

  -- the pass has taken its turn: it has seen the whole history, in which the entries that are new to it are of others
  pub record Enters (bears : E → ℕ) (before after : PassState E) : Type 0 where
    pub turn : after.turn ≡ before.turn
    pub number : after.number ≡ before.number
    pub numbers : after.numbers ≡ before.numbers
    pub stock : after.stock ≡ before.stock
    pub seen : IsPrefix before.seen after.seen
    pub mine : mine_of bears after ≡ mine_of bears before

  -- the pass has looked once more and found this number serving, and its exchange then found this ticket
  abbrev pub refused : PassState E → ℕ → ℕ → PassState E
  refused pass serving ticket = record pass { looks = pass.looks + 1; noted = serving; found = Some ticket }

  -- the pass has seen these further entries
  abbrev pub seeing : PassState E → List E → PassState E
  seeing pass entries = record pass { seen = pass.seen ++ entries }

  -- what the old pass keeps at a split: its stock without the first number and the last ones
  abbrev pub kept_part : PassState E → ℕ → PassState E
  kept_part pass share = record pass { stock = (pass.stock.0 + 1, pass.stock.1 - (1 + share)) }

  -- what the new pass gets at a split: the first number of the stock, and as its own stock the last ones
  abbrev pub new_part : PassState E → ℕ → PassState E
  new_part pass share = record pass { number = pass.stock.0; numbers = (pass.stock.0, 1) ∷ []; stock = (pass.stock.0 + (pass.stock.1 - share), share) }

  -- two passes in one: the longer history, and the numbers and the stock of the other among its numbers
  abbrev pub joined : PassState E → PassState E → PassState E
  joined pass other = record pass { numbers = pass.numbers ++ other.stock ∷ other.numbers; seen = longer pass.seen other.seen }

  -- the two histories begin the one, in which each pass's entries are still its own, and those of both are the joined pass's
  pub record Joins (bears : E → ℕ) (pass other result : PassState E) : Type 0 where
    pub seen : IsPrefix pass.seen result.seen
    pub seen_other : IsPrefix other.seen result.seen
    pub mine : borne_by bears pass.numbers result.seen ≡ mine_of bears pass
    pub mine_other : borne_by bears other.numbers result.seen ≡ mine_of bears other
    pub mine_both : mine_of bears result ≡ borne_by bears (pass.numbers ++ other.numbers) result.seen
