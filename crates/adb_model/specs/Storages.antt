-- A slot's storages, and what all storages have together.
use Rattle.std.specs.Prelude.{ℕ, ◌+◌, ◌==◌, ◌&&◌, ◌||◌, not, Bool, true, false, if◌then◌else◌, List, Option, find, filter, map, count_by, sum_by}
use Rattle.std.specs.List.{list_any}
use Rattle.std.specs.Option.{option_map_or}
use Rattle.adb_model.specs.Lists.{among}
use Rattle.adb_model.specs.Account.{size}
use Rattle.adb_model.specs.State.{Row, Phase, Filling, Live, Retired, Storage, Shrink, State}
use Rattle.adb_model.specs.Presence.{is_live}

-- the phase is Filling
abbrev pub is_filling_phase : Phase → Bool
is_filling_phase Filling = true
is_filling_phase Live = false
is_filling_phase Retired = false

-- the storage is being filled
abbrev pub is_filling : Storage → Bool
is_filling t = is_filling_phase t.phase

-- the storage is no longer of use
abbrev pub is_retired : Storage → Bool
is_retired t = not (is_live t || is_filling t)

-- the bytes of the rows' records
abbrev pub bytes_of : List Row → ℕ
bytes_of rows = sum_by (λ r. size r.account) rows

-- the bytes of all storages
abbrev pub used : State → ℕ
used m = sum_by (λ t. t.bytes) m.storages

-- the slot's Live storage
abbrev pub live_storage : State → ℕ → Option Storage
live_storage m s = find (λ t. is_live t && t.slot == s) m.storages

-- the storage with the id
abbrev pub storage_with : State → ℕ → Option Storage
storage_with m id = find (λ t. t.id == id) m.storages

-- the slot's storage that is being filled
abbrev pub filling_storage : State → ℕ → Option Storage
filling_storage m s = find (λ t. is_filling t && t.slot == s) m.storages

-- the slot's open shrink
abbrev pub open_shrink : State → ℕ → Option Shrink
open_shrink m s = find (λ h. h.slot == s) m.shrinks

-- the storage is being filled by a shrink
abbrev pub is_copy : State → ℕ → Bool
is_copy m id = list_any (λ h. h.new == id) m.shrinks

-- the slot's storage that a flush is filling
abbrev pub open_flush : State → ℕ → Option Storage
open_flush m s = find (λ t. (is_filling t && t.slot == s) && not (is_copy m t.id)) m.storages

-- a pin, a shrink or the snapshot needs the storage as it is
abbrev pub is_pinned : State → ℕ → Bool
is_pinned m id =
    list_any (λ p. p.id == id) m.pins || list_any (λ h. h.old == id) m.shrinks
    || option_map_or (λ n. among id n.ids) m.snap false

-- how often a storage is pinned: by callers, shrinks and the snapshot
abbrev pub pin_count : State → ℕ → ℕ
pin_count m id =
    count_by (λ p. p.id == id) m.pins + count_by (λ h. h.old == id) m.shrinks
    + option_map_or (λ n. count_by (λ i. i == id) n.ids) m.snap 0

-- the storage, in this phase where it has the id
abbrev pub in_phase : ℕ → Phase → Storage → Storage
in_phase id phase t = if t.id == id then record t { phase = phase } else t

-- the storages, the one with the id in this phase
abbrev pub with_phase : ℕ → Phase → List Storage → List Storage
with_phase id phase storages = map (in_phase id phase) storages

-- the storages without the one with the id
abbrev pub without_id : ℕ → List Storage → List Storage
without_id id storages = filter (λ t. not (t.id == id)) storages
