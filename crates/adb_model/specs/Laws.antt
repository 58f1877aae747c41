-- Words of the laws that hold of sound states.
use Rattle.std.specs.Prelude.{◌≡◌, ℕ, ◌<◌, ◌≤◌, ◌==◌, ◌&&◌, IsTrue, IsFalse, List, [], length, filter, Option, Some, None, option_and_then, All, AllPairs, Any, sum_by}
use Rattle.std.specs.Str.{bytes_eq}
use Rattle.adb_model.specs.Lists.{among, greatest}
use Rattle.adb_model.specs.View.{View}
use Rattle.adb_model.specs.State.{Stored, Row, Storage, State}
use Rattle.adb_model.specs.Load.{sees, last_store, unless_tomb}
use Rattle.adb_model.specs.Presence.{has_store, is_cached, is_named, is_present, is_live, is_held, has_row}
use Rattle.adb_model.specs.Storages.{is_filling, storage_with, live_storage, filling_storage, is_copy}
use Rattle.adb_model.specs.Shrink.{named_in}
use Rattle.adb_model.specs.Reclaimable.{present_slots}
use Rattle.adb_model.specs.Flush.{has_cached_key}
use Rattle.adb_model.specs.Opened.{Image}
use Rattle.adb_model.specs.Call.{InStorage}
use Rattle.adb_model.specs.Callers.{place_of}
use Rattle.adb_model.specs.Sound.{last_account, last_row}

-- what a view is answered where only present pairs are looked at
abbrev pub answer_of_present : State → View → List ℕ → Option Stored
answer_of_present m v k = option_and_then unless_tomb (option_and_then (λ s. last_store m s k) (greatest (filter (sees m v) (present_slots m k))))

-- the slot's Live storages
abbrev pub live_storages : State → ℕ → List Storage
live_storages m s = filter (λ t. is_live t && t.slot == s) m.storages

-- a pair is cached or named, and not both; where it is named, its slot has exactly one Live storage
pub record IsKept (m : State) (s : ℕ) (k : List ℕ) : Type 0 where
  pub present : IsTrue (is_present m s k)
  pub not_both : IsTrue (is_cached m s k) → IsTrue (is_named m s k) → ⊥
  pub one : IsTrue (is_named m s k) → length (live_storages m s) ≡ 1

-- the view without ancestors, up to a root
abbrev pub at_root : ℕ → View
at_root root = record { ancestors = []; max_root = root }

-- no root up to this one has a cached key
abbrev pub IsFlushedUpto : State → ℕ → Type 0
IsFlushedUpto m root = (r : ℕ) → IsTrue (among r m.roots) → r ≤ root → IsFalse (has_cached_key m r)

-- the same rows, in some order in which the rows of one key keep theirs
abbrev pub SameRows : List Row → List Row → Type 0
SameRows rows others = (k : List ℕ) → filter (λ r. bytes_eq r.key k) rows ≡ filter (λ r. bytes_eq r.key k) others

-- the image is of the storage, which is Live
pub record IsImageOf (root : ℕ) (i : Image) (t : Storage) : Type 0 where
  pub live : IsTrue (is_live t)
  pub slot : t.slot ≡ i.slot
  pub upto : t.slot ≤ root
  pub rows : SameRows i.rows t.rows

-- the images, by rising slot, are those of the Live storages of the slots up to the root
pub record ShowLive (m : State) (root : ℕ) (images : List Image) : Type 0 where
  pub rise : AllPairs (λ i j. i.slot < j.slot) images
  pub each : All (λ i. Any (IsImageOf root i) m.storages) images
  pub all : All (λ t. IsTrue (is_live t) → t.slot ≤ root → Any (λ i. i.slot ≡ t.slot) images) m.storages

-- the storage's image
abbrev pub image_of : Storage → Image
image_of t = record { slot = t.slot; rows = t.rows; bytes = t.bytes }

-- what an opened state's images have: rows, rising slots, and room
pub record MayOpen (budget : ℕ) (images : List Image) : Type 0 where
  pub rise : AllPairs (λ i j. i.slot < j.slot) images
  pub some : All (λ i. 0 < length i.rows) images
  pub fits : sum_by (λ i. i.bytes) images ≤ budget
  pub cells : length images ≤ 1048576

-- the Live storage of the slot in which the pair is found, by its last store
pub record IsPlacedIn (m : State) (s : ℕ) (k : List ℕ) (t : Storage) : Type 0 where
  pub there : IsTrue (is_live t)
  pub slot : t.slot ≡ s
  pub place : place_of m s k ≡ InStorage t.id
  pub row : IsTrue (has_row k t.rows)
  pub last : last_row k t.rows ≡ last_account m s k

-- the storage that a flush of the slot is filling: it has a row of each key stored in the slot, and nothing of the slot is in use
pub record IsOpenFlush (m : State) (slot : ℕ) (t : Storage) : Type 0 where
  pub of_slot : t.slot ≡ slot
  pub fills : IsTrue (is_filling t)
  pub no_copy : IsFalse (is_copy m t.id)
  pub with_id : storage_with m t.id ≡ Some t
  pub in_slot : filling_storage m slot ≡ Some t
  pub root : IsTrue (among slot m.roots)
  pub unflushed : IsFalse (among slot m.flushed)
  pub live : live_storage m slot ≡ None
  pub held : (k : List ℕ) → IsFalse (is_held m slot k)
  pub named : (k : List ℕ) → IsFalse (is_named m slot k)
  pub none_named : named_in m slot ≡ 0
  pub stored : (k : List ℕ) → has_row k t.rows ≡ has_store m slot k
  pub some : 0 < length t.rows
  pub last : (k : List ℕ) → IsTrue (has_row k t.rows) → last_row k t.rows ≡ last_account m slot k
