-- What contracts see of the pins of a pass.
use Rattle.std.specs.Prelude.{ℕ, ◌≤◌, ◌==◌, ◌&&◌, not, Bool, true, if◌then◌else◌, List, [], ◌∷◌, Option, min, map, filter, count_by}
use Rattle.std.specs.List.{list_any, reduce}
use Rattle.pass_pins.specs.declared.Pin.{Pin}

-- a pass and its pins
pub record Pins : Type 0 where
  pub pass : ℕ
  pub pins : List Pin

-- a number that names a caller
abbrev pub IsPass : ℕ → Type 0
IsPass pass = (1 ≤ pass) × (pass ≤ 65536)

abbrev pub has_id : ℕ → Pin → Bool
has_id id p = p.id == id

abbrev pub is_unfinished : ℕ → Pin → Bool
is_unfinished id p = p.id == id && not p.finished

abbrev pub is_finished : ℕ → Pin → Bool
is_finished id p = p.id == id && p.finished

-- how many pins of an id there are
abbrev pub count_of : ℕ → List Pin → ℕ
count_of id pins = count_by (has_id id) pins

-- the least id of the finished pins
abbrev pub least_finished : List Pin → Option ℕ
least_finished pins = reduce min (map (λ p. p.id) (filter (λ p. p.finished) pins))

-- with the first unfinished pin of an id finished
abbrev pub with_finished : ℕ → List Pin → List Pin
with_finished id [] = []
with_finished id (p ∷ ps) = if is_unfinished id p then record p { finished = true } ∷ ps else p ∷ with_finished id ps

-- without the first pin that passes
abbrev pub without_first : (Pin → Bool) → List Pin → List Pin
without_first test [] = []
without_first test (p ∷ ps) = if test p then ps else p ∷ without_first test ps

-- without one pin of an id, a finished one before others
abbrev pub without_one : ℕ → List Pin → List Pin
without_one id pins =
    if list_any (is_finished id) pins then without_first (is_finished id) pins
    else without_first (has_id id) pins
