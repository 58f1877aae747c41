-- What callers ask for, and what they are told.
use Rattle.std.specs.Prelude.{ℕ, List, Option}
use Rattle.adb_model.specs.Account.{Account}
use Rattle.adb_model.specs.View.{View}

-- what a caller asks for
pub data Call : Type 0 where
  Store : (slot : ℕ) (key : List ℕ) (account : Account) → Call
  Root : (slot : ℕ) → Call
  Purge : (slot : ℕ) → Call
  Load : (view : View) (key : List ℕ) → Call
  Unpin : (id : ℕ) → Call
  Lease : (max_root : ℕ) → Call
  EndLease : (max_root : ℕ) → Call
  FlushBegin : (slot : ℕ) → Call
  FlushEnd : (slot : ℕ) → Call
  FlushAbort : (slot : ℕ) → Call
  Raise : (upto : ℕ) → Call
  Reclaim : (after : Option (List ℕ)) (most : ℕ) → Call
  ShrinkBegin : (slot : ℕ) → Call
  ShrinkEnd : (slot : ℕ) → Call
  ShrinkAbort : (slot : ℕ) → Call
  SnapBegin : (slot : ℕ) → Call
  SnapEnd : (slot : ℕ) → Call
  Recycle : Call
  Stats : Call

-- where a loaded version stands: in the write cache, or in the storage with this id
pub data Place : Type 0 where
  Cached : Place
  InStorage : (id : ℕ) → Place

-- why a call changes nothing
pub data Refusal : Type 0 where
  SlotRooted : (slot newest : ℕ) → Refusal
  RootOrder : (slot newest : ℕ) → Refusal
  Rooted : (slot : ℕ) → Refusal
  ViewTooOld : (max_root cleaned : ℕ) → Refusal
  TooManyPins : (most : ℕ) → Refusal
  NotPinned : (id : ℕ) → Refusal
  NotLeased : (max_root : ℕ) → Refusal
  NotRooted : (slot : ℕ) → Refusal
  NothingCached : (slot : ℕ) → Refusal
  Flushing : (slot id : ℕ) → Refusal
  NotFlushing : (slot : ℕ) → Refusal
  Full : (used wanted limit : ℕ) → Refusal
  NoCell : (limit : ℕ) → Refusal
  IdsSpent : Refusal
  PastRoot : (upto : ℕ) (newest : Option ℕ) → Refusal
  Leased : (upto least : ℕ) → Refusal
  NoStorage : (slot : ℕ) → Refusal
  Shrinking : (slot id : ℕ) → Refusal
  NothingDead : (slot : ℕ) → Refusal
  NotShrinking : (slot : ℕ) → Refusal
  SnapOpen : (slot : ℕ) → Refusal
  NotRoot : (slot : ℕ) → Refusal
  SnapTooOld : (slot cleaned : ℕ) → Refusal
  Unflushed : (slot : ℕ) → Refusal
  NotSnapping : (slot : ℕ) → Refusal

-- cached pairs; storages of each phase; named pairs; rows of Live storages; bytes; pins of every kind
pub record Counts : Type 0 where
  pub cached : ℕ
  pub filling : ℕ
  pub live : ℕ
  pub retired : ℕ
  pub named : ℕ
  pub rows : ℕ
  pub bytes : ℕ
  pub pins : ℕ

-- what a caller is told
pub data Reply : Type 0 where
  Done : Reply
  Refused : (refusal : Refusal) → Reply
  Purged : (keys : ℕ) → Reply
  NotFound : Reply
  Found : (slot : ℕ) (place : Place) (account : Account) → Reply
  FlushBegun : (id bytes : ℕ) → Reply
  Raised : (cleaned : ℕ) → Reply
  Reclaimed : (key : List ℕ) → Reply
  NothingLeft : Reply
  ShrinkBegun : (old new bytes : ℕ) → Reply
  Superseded : (slot old : ℕ) → Reply
  SnapBegun : (storages : ℕ) → Reply
  Recycled : (storages : ℕ) → Reply
  Counted : (counts : Counts) → Reply

-- a call of a pass, and its reply
pub record Event : Type 0 where
  pub pass : ℕ
  pub call : Call
  pub reply : Reply
