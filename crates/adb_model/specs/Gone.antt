-- Why a pair that was flushed is no longer named.
use Rattle.std.specs.Prelude.{ℕ, ◌<◌, ◌≤◌, ◌⊎◌, IsTrue, IsFalse, List}
use Rattle.adb_model.specs.Lists.{among}
use Rattle.adb_model.specs.State.{State}
use Rattle.adb_model.specs.Presence.{has_store, is_named, is_present, is_held, ends_in_tomb}

-- nothing of the key is in a lower slot
abbrev pub IsLowest : State → ℕ → List ℕ → Type 0
IsLowest m s k = (q : ℕ) → q < s → IsFalse (is_present m q k) × IsFalse (is_held m q k)

-- a root above, up to the cleaned slot, has a store of the key
abbrev pub IsCovered : State → ℕ → List ℕ → Type 0
IsCovered m s k = record {
  root : ℕ;
  is_root : IsTrue (among root m.roots);
  above : s < root;
  upto : root ≤ m.cleaned;
  stored : IsTrue (has_store m root k);
}

-- it is a tomb, up to the cleaned slot, and hides nothing
abbrev pub IsBuried : State → ℕ → List ℕ → Type 0
IsBuried m s k = record {
  tomb : IsTrue (ends_in_tomb m s k);
  upto : s ≤ m.cleaned;
  lowest : IsLowest m s k;
}

-- one of the two causes
abbrev pub IsGone : State → ℕ → List ℕ → Type 0
IsGone m s k = IsCovered m s k ⊎ IsBuried m s k

-- a flushed pair that has a store is named, or it is gone for one of two causes
abbrev pub UnnamedAreGone : State → Type 0
UnnamedAreGone m = (s : ℕ) (k : List ℕ) → IsTrue (has_store m s k) → IsTrue (among s m.flushed) → IsFalse (is_named m s k) → IsGone m s k
