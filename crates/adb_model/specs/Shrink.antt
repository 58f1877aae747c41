-- A storage's living rows are copied to a new one.
use Rattle.std.specs.Prelude.{ℕ, ◌==◌, ◌&&◌, not, Bool, if◌then◌else◌, List, [], ◌∷◌, ◌++◌, length, map, filter, count_by, Option, option_map}
use Rattle.std.specs.List.{list_any}
use Rattle.adb_model.specs.State.{Row, Live, Retired, Storage, Shrink, State}
use Rattle.adb_model.specs.Presence.{has_row, is_named, is_live}
use Rattle.adb_model.specs.Storages.{bytes_of, live_storage, open_shrink, in_phase, without_id}
use Rattle.adb_model.specs.Call.{Refusal, NoStorage, Shrinking, NothingDead, NotShrinking, Reply, Done, ShrinkBegun, Superseded}
use Rattle.adb_model.specs.Outcome.{unless, when_found, refused_if, first_of, room_refusals}
use Rattle.adb_model.specs.Flush.{with_filling}

-- the last row of each key, in the order of these rows
abbrev pub last_rows : List Row → List Row
last_rows [] = []
last_rows (r ∷ rows) = if has_row r.key rows then last_rows rows else r ∷ last_rows rows

-- the last rows of the keys that are named in the slot
abbrev pub shrink_rows : State → Storage → List Row
shrink_rows m t = filter (λ r. is_named m t.slot r.key) (last_rows t.rows)

-- how many keys are named in the slot
abbrev pub named_in : State → ℕ → ℕ
named_in m slot = count_by (λ p. p.slot == slot) m.named

-- the old storage is being copied to a new one
abbrev pub shrinking : State → Storage → State
shrinking m old =
    let begun = with_filling m old.slot (shrink_rows m old) in
    record begun { shrinks = m.shrinks ++ record { slot = old.slot; old = old.id; new = m.next_id } ∷ [] }

-- it is being copied, has nothing dead, or there is no room
abbrev pub shrink_begin_refusals : State → ℕ → Storage → List (Option Refusal)
shrink_begin_refusals m slot old =
    option_map (λ h. Shrinking slot h.new) (open_shrink m slot)
    ∷ refused_if (length old.rows == named_in m slot) (NothingDead slot)
    ∷ room_refusals m (bytes_of (shrink_rows m old))

-- a slot's storage begins to be copied without its dead rows
abbrev pub shrink_begin_step : State → ℕ → State × Reply
shrink_begin_step m slot =
    when_found (live_storage m slot) (NoStorage slot) m (λ old.
    unless (first_of (shrink_begin_refusals m slot old)) m
    (shrinking m old, ShrinkBegun old.id m.next_id (bytes_of (shrink_rows m old))))

-- the slot's shrink is over
abbrev pub without_shrink : State → ℕ → State
without_shrink m slot = record m { shrinks = filter (λ h. not (h.slot == slot)) m.shrinks }

-- the old storage is Live still
abbrev pub is_current : State → Shrink → Bool
is_current m h = list_any (λ t. t.id == h.old && is_live t) m.storages

-- the storage, Retired where it is the old one, Live where it is the new one
abbrev pub exchanged : Shrink → Storage → Storage
exchanged h t = in_phase h.new Live (in_phase h.old Retired t)

-- the copy takes the old storage's place
abbrev pub installed : State → Shrink → State
installed m h = record (without_shrink m h.slot) { storages = map (exchanged h) m.storages }

-- the copy leaves
abbrev pub copy_dropped : State → Shrink → State
copy_dropped m h = record (without_shrink m h.slot) { storages = without_id h.new m.storages }

-- a copy comes into use, unless its old storage was retired meanwhile
abbrev pub shrink_end_step : State → ℕ → State × Reply
shrink_end_step m slot =
    when_found (open_shrink m slot) (NotShrinking slot) m (λ h.
    if is_current m h then (installed m h, Done) else (copy_dropped m h, Superseded slot h.old))

-- a copy is given up
abbrev pub shrink_abort_step : State → ℕ → State × Reply
shrink_abort_step m slot =
    when_found (open_shrink m slot) (NotShrinking slot) m (λ h. (copy_dropped m h, Done))
