-- The counts of a state.
use Rattle.std.specs.Prelude.{◌+◌, ◌==◌, ◌&&◌, not, Bool, List, length, filter, count_by, sum_by}
use Rattle.std.specs.Option.{option_map_or}
use Rattle.std.specs.Str.{bytes_eq}
use Rattle.adb_model.specs.Lists.{among, distinct}
use Rattle.adb_model.specs.State.{Stored, State}
use Rattle.adb_model.specs.Presence.{is_live}
use Rattle.adb_model.specs.Storages.{is_filling, is_retired, used}
use Rattle.adb_model.specs.Call.{Counts, Reply, Counted}

-- the stores are of one slot and key
abbrev pub same_pair : Stored → Stored → Bool
same_pair t u = t.slot == u.slot && bytes_eq t.key u.key

-- the cached pairs, by their first stores
abbrev pub cached_pairs : State → List Stored
cached_pairs m = distinct same_pair (filter (λ t. not (among t.slot m.flushed)) m.stores)

-- what is counted
abbrev pub counts_of : State → Counts
counts_of m = record {
  cached = length (cached_pairs m);
  filling = count_by is_filling m.storages;
  live = count_by is_live m.storages;
  retired = count_by is_retired m.storages;
  named = length m.named;
  rows = sum_by (λ t. length t.rows) (filter is_live m.storages);
  bytes = used m;
  pins = length m.pins + length m.shrinks + option_map_or (λ n. length n.ids) m.snap 0;
}

-- the counts, and nothing else
abbrev pub stats_step : State → State × Reply
stats_step m = (m, Counted (counts_of m))
