-- Pairs that leave one after another, on the way to the state in which all of them have left.
use Rattle.std.specs.Prelude.{◌≡◌, ℕ, Bool, List, map, IsTrue, IsFalse}
use Rattle.accounts_index.specs.Index.{Index}
use Rattle.storage_map.specs.Slots.{Slots}
use Rattle.cell_table.specs.Cells.{Table}
use Rattle.adb_model.specs.declared.key.Key.{Key}
use Rattle.adb_model.specs.State.{State}
use Rattle.adb_model.specs.Reclaim.{is_taken}
use Rattle.book_parts.specs.Parts.{Parts, Shared}
use Rattle.book_parts.specs.Reflects.{Reflects}
use Rattle.book_parts.specs.Reclaims.{IsMidway}

-- the bytes of the keys
abbrev pub bytes_of : List Key → List (List ℕ)
bytes_of keys = map (λ k. k.0) keys

-- parts with these roots and this cleaned slot
abbrev pub rooted : Parts → List ℕ → ℕ → Parts
rooted p roots cleaned = record p { roots = roots; cleaned = cleaned }

-- with this index and this map the parts reflect the state, which is as sound as a reclaim asks
pub record StandAs (p : Parts) (index : Index) (map : Slots) (m : State) : Type 0 where
  pub midway : IsMidway m
  pub parts : Reflects (record p { index = index; map = map }) m

-- from m to n some pairs of the key left, until none passes the test: what is still to drop of taken keys leads to the same state,
-- and no other pair has come to pass
pub record Leave (test : State → ℕ → List ℕ → Bool) (drop : List (List ℕ) → State → State) (key : List ℕ) (m n : State) : Type 0 where
  pub rest : (keys : List (List ℕ)) → IsTrue (is_taken keys key) → drop keys n ≡ drop keys m
  pub none : (s : ℕ) → IsFalse (test n s key)
  pub others : (s : ℕ) (k : List ℕ) → IsFalse (test m s k) → IsFalse (test n s k)

-- with this index, these cells and this map the parts reflect the state, which is as sound as a reclaim asks
abbrev pub StandWith : Parts → Index → Table Shared → Slots → State → Type 0
StandWith p index cells slots m = StandAs (record p { cells = cells }) index slots m
