-- One pair or one storage that a reclaim drops, and the keys that it goes on to.
use Rattle.std.specs.Prelude.{ℕ, true, List, filter, Option}
use Rattle.std.specs.Ordering.{is_lt}
use Rattle.std.specs.Option.{option_map_or}
use Rattle.adb_model.specs.State.{Retired, Storage, State}
use Rattle.adb_model.specs.Presence.{is_pair}
use Rattle.adb_model.specs.Storages.{with_phase}
use Rattle.adb_model.specs.Reclaimable.{key_cmp, crowded_keys}
use Rattle.adb_model.specs.Reclaim.{without_names}

-- the pair is named no longer
abbrev pub without_name : State → ℕ → List ℕ → State
without_name m slot key = without_names (is_pair slot key) m

-- the storage is Retired
abbrev pub with_retired : State → Storage → State
with_retired m t = record m { storages = with_phase t.id Retired m.storages }

-- the crowded keys above a key, or all of them, rising
abbrev pub crowded_above : State → Option (List ℕ) → List (List ℕ)
crowded_above m after = filter (λ k. option_map_or (λ a. is_lt (key_cmp a k)) after true) (crowded_keys m)
