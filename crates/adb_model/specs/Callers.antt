-- Stores, roots, purges and loads.
use Rattle.std.specs.Prelude.{Bool, ℕ, ◌==◌, nat_lt, nat_le, ◌&&◌, not, if◌then◌else◌, List, [], ◌∷◌, ◌++◌, length, map, filter, Option, Some, None, option_map, option_and_then, count_by}
use Rattle.std.specs.List.{list_any}
use Rattle.std.specs.Option.{option_map_or}
use Rattle.std.specs.Str.{bytes_eq}
use Rattle.adb_model.specs.Lists.{among, last, without_last, distinct}
use Rattle.adb_model.specs.Account.{Account}
use Rattle.adb_model.specs.View.{View}
use Rattle.adb_model.specs.State.{Stored, Pin, State}
use Rattle.adb_model.specs.Load.{answer}
use Rattle.adb_model.specs.Presence.{is_named}
use Rattle.adb_model.specs.Storages.{live_storage}
use Rattle.adb_model.specs.Call.{Place, Cached, InStorage, Refusal, SlotRooted, RootOrder, Rooted, ViewTooOld, TooManyPins, NotPinned, Reply, Done, Purged, NotFound, Found}
use Rattle.adb_model.specs.Outcome.{unless, refused_if, first_of}

-- the newest root, where the slot is not above it
abbrev pub rooted_by : State → ℕ → Option ℕ
rooted_by m slot = option_and_then (λ newest. if nat_le slot newest then Some newest else None) (last m.roots)

-- one more store, the last of all
abbrev pub with_store : State → ℕ → List ℕ → Account → State
with_store m slot key account = record m { stores = m.stores ++ record { slot = slot; key = key; account = account } ∷ [] }

-- only a slot above the newest root takes stores
abbrev pub store_step : State → ℕ → List ℕ → Account → State × Reply
store_step m slot key account =
    unless (option_map (SlotRooted slot) (rooted_by m slot)) m (with_store m slot key account, Done)

-- one more root, the newest
abbrev pub with_root : State → ℕ → State
with_root m slot = record m { roots = m.roots ++ slot ∷ [] }

-- only a slot above the newest root becomes a root
abbrev pub root_step : State → ℕ → State × Reply
root_step m slot = unless (option_map (RootOrder slot) (rooted_by m slot)) m (with_root m slot, Done)

-- the keys that have a store in the slot, in order of their first
abbrev pub keys_of : State → ℕ → List (List ℕ)
keys_of m slot = distinct bytes_eq (map (λ t. t.key) (filter (λ t. t.slot == slot) m.stores))

-- the slot's stores leave
abbrev pub without_stores : State → ℕ → State
without_stores m slot = record m { stores = filter (λ t. not (t.slot == slot)) m.stores }

-- a slot that is no root loses its stores; the reply counts their keys
abbrev pub purge_step : State → ℕ → State × Reply
purge_step m slot =
    unless (refused_if (among slot m.roots) (Rooted slot)) m (without_stores m slot, Purged (length (keys_of m slot)))

-- in the slot's Live storage, where the pair is named
abbrev pub place_of : State → ℕ → List ℕ → Place
place_of m s k = if is_named m s k then option_map_or (λ t. InStorage t.id) (live_storage m s) Cached else Cached

-- a pass keeps the storage in which it found something
abbrev pub pinned : State → ℕ → Place → State
pinned m pass Cached = m
pinned m pass (InStorage id) = record m { pins = m.pins ++ record { pass = pass; id = id } ∷ [] }

-- the reply to what was found, and the pin that it leaves
abbrev pub found : State → ℕ → Option Stored → State × Reply
found m pass None = (m, NotFound)
found m pass (Some t) = (pinned m pass (place_of m t.slot t.key), Found t.slot (place_of m t.slot t.key) t.account)

-- the view is too old, or the pass has all the pins that it may have
abbrev pub load_refusals : State → ℕ → View → List (Option Refusal)
load_refusals m pass view =
    refused_if (nat_lt view.max_root m.cleaned) (ViewTooOld view.max_root m.cleaned)
    ∷ refused_if (nat_le 64 (count_by (λ p. p.pass == pass) m.pins)) (TooManyPins 64)
    ∷ []

-- the answer at the view, and where it stands
abbrev pub load_step : State → ℕ → View → List ℕ → State × Reply
load_step m pass view key = unless (first_of (load_refusals m pass view)) m (found m pass (answer m view key))

-- the pin is the pass's, on the storage
abbrev pub is_pin : ℕ → ℕ → Pin → Bool
is_pin pass id p = p.pass == pass && p.id == id

-- the last such pin leaves
abbrev pub unpinned : State → ℕ → ℕ → State
unpinned m pass id = record m { pins = without_last (is_pin pass id) m.pins }

-- a pass lets go of a storage
abbrev pub unpin_step : State → ℕ → ℕ → State × Reply
unpin_step m pass id =
    unless (refused_if (not (list_any (is_pin pass id) m.pins)) (NotPinned id)) m (unpinned m pass id, Done)
