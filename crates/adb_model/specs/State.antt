-- The state of the plain machine: lists that are searched anew each time.
use Rattle.std.specs.Prelude.{ℕ, List, [], Option, None}
use Rattle.adb_model.specs.Account.{Account}

-- one store of an account under a key, in a slot
pub record Stored : Type 0 where
  pub slot : ℕ
  pub key : List ℕ
  pub account : Account

-- a key's account in a storage
pub record Row : Type 0 where
  pub key : List ℕ
  pub account : Account

-- being filled, in use, or no longer of use
pub data Phase : Type 0 where
  Filling : Phase
  Live : Phase
  Retired : Phase

-- a storage, which has rows of one slot
pub record Storage : Type 0 where
  pub id : ℕ
  pub slot : ℕ
  pub rows : List Row
  pub bytes : ℕ
  pub phase : Phase

-- a key in a slot
pub record Pair : Type 0 where
  pub slot : ℕ
  pub key : List ℕ

-- a caller's hold on a storage
pub record Pin : Type 0 where
  pub pass : ℕ
  pub id : ℕ

-- a caller's hold on the views from a greatest root on
pub record Lease : Type 0 where
  pub pass : ℕ
  pub max_root : ℕ

-- a slot's storage is being copied
pub record Shrink : Type 0 where
  pub slot : ℕ
  pub old : ℕ
  pub new : ℕ

-- a snapshot of a slot is being written, from these storages
pub record Snap : Type 0 where
  pub slot : ℕ
  pub ids : List ℕ

-- the twelve parts of the machine's state
pub record State : Type 0 where
  -- in order of storing
  pub stores : List Stored
  -- rising, the newest last
  pub roots : List ℕ
  -- what newer roots up to this slot shadow may be dropped
  pub cleaned : ℕ
  pub leases : List Lease
  -- the slots whose stores have gone to a storage
  pub flushed : List ℕ
  pub storages : List Storage
  -- the pairs that a load finds in a storage
  pub named : List Pair
  pub pins : List Pin
  pub shrinks : List Shrink
  pub snap : Option Snap
  pub next_id : ℕ
  -- the most bytes that the storages may have together
  pub budget : ℕ

-- the state before the first event
abbrev pub fresh : ℕ → ℕ → State
fresh budget id = record {
  stores = [];
  roots = [];
  cleaned = 0;
  leases = [];
  flushed = [];
  storages = [];
  named = [];
  pins = [];
  shrinks = [];
  snap = None;
  next_id = id;
  budget = budget;
}
