-- Pairs that nobody can need any more are dropped.
use Rattle.std.specs.Prelude.{ℕ, ◌&&◌, not, Bool, true, if◌then◌else◌, List, map, filter, take, Option}
use Rattle.std.specs.List.{list_any}
use Rattle.std.specs.Ordering.{is_lt}
use Rattle.std.specs.Option.{option_map_or}
use Rattle.std.specs.Str.{bytes_eq}
use Rattle.adb_model.specs.Lists.{last}
use Rattle.adb_model.specs.State.{Retired, Storage, Pair, State}
use Rattle.adb_model.specs.Presence.{is_named, is_live}
use Rattle.adb_model.specs.Reclaimable.{is_shadowed, is_spent, key_cmp, crowded_keys}
use Rattle.adb_model.specs.Call.{Reply, Reclaimed, NothingLeft}

-- the first crowded keys above a key, or of all of them, rising
abbrev pub keys_taken : State → Option (List ℕ) → ℕ → List (List ℕ)
keys_taken m after most = take most (filter (λ k. option_map_or (λ a. is_lt (key_cmp a k)) after true) (crowded_keys m))

-- the key is among those taken
abbrev pub is_taken : List (List ℕ) → List ℕ → Bool
is_taken keys k = list_any (λ taken. bytes_eq taken k) keys

-- the pairs that pass are named no longer
abbrev pub without_names : (Pair → Bool) → State → State
without_names test m = record m { named = filter (λ p. not (test p)) m.named }

-- a Live storage has a row whose pair is named
abbrev pub has_named_row : State → Storage → Bool
has_named_row m t = list_any (λ r. is_named m t.slot r.key) t.rows

-- the storage, Retired where it is Live without a named row
abbrev pub retired : State → Storage → Storage
retired m t = if is_live t && not (has_named_row m t) then record t { phase = Retired } else t

-- Live storages without a named row become Retired
abbrev pub retire_unnamed : State → State
retire_unnamed m = record m { storages = map (retired m) m.storages }

-- the taken keys' pairs that are shadowed now are dropped
abbrev pub drop_shadowed : List (List ℕ) → State → State
drop_shadowed keys m = without_names (λ p. is_taken keys p.key && is_shadowed m p.slot p.key) m

-- the taken keys' pairs that are spent now are dropped
abbrev pub drop_spent : List (List ℕ) → State → State
drop_spent keys m = without_names (λ p. is_taken keys p.key && is_spent m p.slot p.key) m

-- shadowed pairs are dropped, then spent ones, and each time what has no named row is retired
abbrev pub reclaimed : List (List ℕ) → State → State
reclaimed keys m = retire_unnamed (drop_spent keys (retire_unnamed (drop_shadowed keys m)))

-- the reply is the last key taken, from which the next call goes on
abbrev pub reclaim_step : State → Option (List ℕ) → ℕ → State × Reply
reclaim_step m after most =
    let keys = keys_taken m after most in
    (reclaimed keys m, option_map_or Reclaimed (last keys) NothingLeft)
