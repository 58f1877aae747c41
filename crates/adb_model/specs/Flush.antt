-- A root's stores go to a storage.
use Rattle.std.specs.Prelude.{ℕ, ◌+◌, ◌==◌, ◌&&◌, not, Bool, List, [], ◌∷◌, ◌++◌, map, filter_map, Option, option_map}
use Rattle.std.specs.List.{list_any}
use Rattle.adb_model.specs.Lists.{among}
use Rattle.adb_model.specs.State.{Row, Filling, Live, Storage, State}
use Rattle.adb_model.specs.Load.{last_store}
use Rattle.adb_model.specs.Storages.{bytes_of, open_flush, with_phase, without_id}
use Rattle.adb_model.specs.Call.{Refusal, NotRooted, NothingCached, Flushing, NotFlushing, Reply, Done, FlushBegun}
use Rattle.adb_model.specs.Outcome.{unless, when_found, refused_if, first_of, room_refusals}
use Rattle.adb_model.specs.Callers.{keys_of}

-- per key of the slot, in order of its first store, its last account
abbrev pub flush_rows : State → ℕ → List Row
flush_rows m slot = filter_map (λ k. option_map (λ t. record { key = t.key; account = t.account }) (last_store m slot k)) (keys_of m slot)

-- a key is cached in the slot
abbrev pub has_cached_key : State → ℕ → Bool
has_cached_key m slot = list_any (λ t. t.slot == slot) m.stores && not (among slot m.flushed)

-- the storage that is being filled then
abbrev pub filling_with : State → ℕ → List Row → Storage
filling_with m slot rows = record { id = m.next_id; slot = slot; rows = rows; bytes = bytes_of rows; phase = Filling }

-- one more storage is being filled
abbrev pub with_filling : State → ℕ → List Row → State
with_filling m slot rows = record m {
  storages = m.storages ++ record { id = m.next_id; slot = slot; rows = rows; bytes = bytes_of rows; phase = Filling } ∷ [];
  next_id = m.next_id + 1;
}

-- it is no root, has nothing to flush or is being flushed, or there is no room
abbrev pub flush_begin_refusals : State → ℕ → List (Option Refusal)
flush_begin_refusals m slot =
    refused_if (not (among slot m.roots)) (NotRooted slot)
    ∷ refused_if (not (has_cached_key m slot)) (NothingCached slot)
    ∷ option_map (λ t. Flushing slot t.id) (open_flush m slot)
    ∷ room_refusals m (bytes_of (flush_rows m slot))

-- a root's cached rows begin to go to a new storage
abbrev pub flush_begin_step : State → ℕ → State × Reply
flush_begin_step m slot =
    unless (first_of (flush_begin_refusals m slot)) m
    (with_filling m slot (flush_rows m slot), FlushBegun m.next_id (bytes_of (flush_rows m slot)))

-- the storage is in use, and its pairs are found in it
abbrev pub flushed_with : State → Storage → State
flushed_with m t = record m {
  flushed = m.flushed ++ t.slot ∷ [];
  storages = with_phase t.id Live m.storages;
  named = m.named ++ map (λ r. record { slot = t.slot; key = r.key }) t.rows;
}

-- the storage that a flush filled comes into use
abbrev pub flush_end_step : State → ℕ → State × Reply
flush_end_step m slot = when_found (open_flush m slot) (NotFlushing slot) m (λ t. (flushed_with m t, Done))

-- the storage leaves
abbrev pub flush_dropped : State → Storage → State
flush_dropped m t = record m { storages = without_id t.id m.storages }

-- a flush is given up
abbrev pub flush_abort_step : State → ℕ → State × Reply
flush_abort_step m slot = when_found (open_flush m slot) (NotFlushing slot) m (λ t. (flush_dropped m t, Done))
