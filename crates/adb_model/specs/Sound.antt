-- What holds in every state that the machine reaches.
use Rattle.std.specs.Prelude.{◌≡◌, ◌≢◌, ℕ, ◌<◌, ◌≤◌, ◌==◌, ◌⊎◌, ◌&&◌, not, Bool, false, IsTrue, IsFalse, List, length, filter, Option, option_map, IsSomeAnd, All, AllPairs, count_by}
use Rattle.std.specs.List.{list_any}
use Rattle.std.specs.Str.{bytes_eq}
use Rattle.std.specs.Option.{option_map_or}
use Rattle.adb_model.specs.Lists.{among, last}
use Rattle.adb_model.specs.Account.{Account}
use Rattle.adb_model.specs.State.{Row, Storage, Shrink, State}
use Rattle.adb_model.specs.Load.{last_store}
use Rattle.adb_model.specs.Presence.{has_store, is_named, has_row, is_live, is_held}
use Rattle.adb_model.specs.Storages.{is_filling, used, is_copy}
use Rattle.adb_model.specs.Reclaim.{has_named_row}
use Rattle.adb_model.specs.History.{IsPass}
use Rattle.adb_model.specs.Gone.{UnnamedAreGone}

-- 1: roots rise, leases hold, and limits are kept
abbrev pub LimitsHold : State → Type 0
LimitsHold m = record {
  roots : AllPairs (λ r s. r < s) m.roots;
  cleaned : (m.cleaned ≡ 0) ⊎ IsSomeAnd (last m.roots) (λ newest. m.cleaned ≤ newest);
  leases : All (λ l. IsPass l.pass × (m.cleaned ≤ l.max_root)) m.leases;
  passes : All (λ p. IsPass p.pass) m.pins;
  pins : (pass : ℕ) → count_by (λ p. p.pass == pass) m.pins ≤ 64;
  bytes : used m ≤ m.budget;
  count : length m.storages ≤ 1048576;
}

-- 2: of a Live or Retired storage the slot is flushed; of a Filling one it is a root, and flushed where a shrink fills it
abbrev pub SlotFits : State → Storage → Type 0
SlotFits m t = record {
  settled : IsFalse (is_filling t) → IsTrue (among t.slot m.flushed);
  rooted : IsTrue (is_filling t) → IsTrue (among t.slot m.roots);
  copied : IsTrue (is_filling t) → among t.slot m.flushed ≡ is_copy m t.id;
}

-- 2: flushed slots are roots, and have one Live storage at most
abbrev pub SlotsFit : State → Type 0
SlotsFit m = record {
  roots : (s : ℕ) → IsTrue (among s m.flushed) → IsTrue (among s m.roots);
  named : (s : ℕ) (k : List ℕ) → IsTrue (is_named m s k) → IsTrue (among s m.flushed);
  storages : All (SlotFits m) m.storages;
  one_live : AllPairs (λ t u. IsTrue (is_live t) → IsTrue (is_live u) → t.slot ≢ u.slot) m.storages;
  one_filling : AllPairs (λ t u. IsTrue (is_filling t) → IsTrue (is_filling u) → t.slot ≢ u.slot) m.storages;
}

-- the id is of a storage that has been filled
abbrev pub is_settled : State → ℕ → Bool
is_settled m id = list_any (λ t. t.id == id && not (is_filling t)) m.storages

-- 3: the old id is of a storage of the slot that has been filled, and the new one of one that is being filled
abbrev pub ShrinkFits : State → Shrink → Type 0
ShrinkFits m h = record {
  old : IsTrue (list_any (λ t. (t.id == h.old && t.slot == h.slot) && not (is_filling t)) m.storages);
  new : IsTrue (list_any (λ t. (t.id == h.new && t.slot == h.slot) && is_filling t) m.storages);
}

-- 3: ids name one storage each, and what is pinned is there
abbrev pub IdsFit : State → Type 0
IdsFit m = record {
  differ : AllPairs (λ t u. t.id ≢ u.id) m.storages;
  below : All (λ t. t.id < m.next_id) m.storages;
  one_shrink : AllPairs (λ h g. h.slot ≢ g.slot) m.shrinks;
  shrinks : All (ShrinkFits m) m.shrinks;
  pins : All (λ p. IsTrue (is_settled m p.id)) m.pins;
  snap : (id : ℕ) → IsTrue (option_map_or (λ n. among id n.ids) m.snap false) → IsTrue (is_settled m id);
}

-- the account of the last store of a key in a slot
abbrev pub last_account : State → ℕ → List ℕ → Option Account
last_account m s k = option_map (λ t. t.account) (last_store m s k)

-- the account of the last row of a key
abbrev pub last_row : List ℕ → List Row → Option Account
last_row k rows = option_map (λ r. r.account) (last (filter (λ r. bytes_eq r.key k) rows))

-- 4: a storage's rows are stores of its slot, the last of a key the last store; a flush has every key of its slot
abbrev pub RowsFit : State → Storage → Type 0
RowsFit m t = record {
  stored : (k : List ℕ) → IsTrue (has_row k t.rows) → IsTrue (has_store m t.slot k);
  last : (k : List ℕ) → IsTrue (has_row k t.rows) → last_row k t.rows ≡ last_account m t.slot k;
  some : IsTrue (is_filling t) → IsFalse (among t.slot m.flushed) → 0 < length t.rows;
  whole : IsTrue (is_filling t) → IsFalse (among t.slot m.flushed) → (k : List ℕ) → IsTrue (has_store m t.slot k) → IsTrue (has_row k t.rows);
}

-- 5: a named pair is held, and a Live storage has a named row
abbrev pub NamesHold : State → Type 0
NamesHold m = record {
  held : (s : ℕ) (k : List ℕ) → IsTrue (is_named m s k) → IsTrue (is_held m s k);
  live : All (λ t. IsTrue (is_live t) → IsTrue (has_named_row m t)) m.storages;
}

-- 6: a shrink's new storage has every key named in its slot, and only keys of the old one
abbrev pub CopyFits : State → Shrink → Type 0
CopyFits m h = record {
  named : All (λ t. t.id ≡ h.new → (k : List ℕ) → IsTrue (is_named m h.slot k) → IsTrue (has_row k t.rows)) m.storages;
  old : All (λ t. t.id ≡ h.new → All (λ u. u.id ≡ h.old → (k : List ℕ) → IsTrue (has_row k t.rows) → IsTrue (has_row k u.rows)) m.storages) m.storages;
}

-- what every step keeps
pub record IsSound (m : State) : Type 0 where
  pub limits : LimitsHold m
  pub slots : SlotsFit m
  pub ids : IdsFit m
  pub rows : All (RowsFit m) m.storages
  pub names : NamesHold m
  pub copies : All (CopyFits m) m.shrinks
  pub gone : UnnamedAreGone m

-- what holds between the parts of a reclaim: all, but that a Live storage has a named row
pub record IsSoundMidway (m : State) : Type 0 where
  pub limits : LimitsHold m
  pub slots : SlotsFit m
  pub ids : IdsFit m
  pub rows : All (RowsFit m) m.storages
  pub held : (s : ℕ) (k : List ℕ) → IsTrue (is_named m s k) → IsTrue (is_held m s k)
  pub copies : All (CopyFits m) m.shrinks
  pub gone : UnnamedAreGone m
