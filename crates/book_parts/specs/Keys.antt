-- The keys that have an account, in their order.
use Rattle.std.specs.Prelude.{◌≡◌, ℕ, IsTrue, IsFalse, List, Option, Some, None}
use Rattle.std.specs.declared.cmp.Ordering.TheVariants.{Less}
use Rattle.accounts_index.specs.Index.{is_above}
use Rattle.adb_model.specs.State.{State}
use Rattle.adb_model.specs.Presence.{is_present}
use Rattle.adb_model.specs.Reclaimable.{key_cmp}

-- no slot has the key present
abbrev pub IsAbsent : State → List ℕ → Type 0
IsAbsent m key = (s : ℕ) → IsFalse (is_present m s key)

-- the least key above another one, if one is given, that is present in some slot
abbrev pub IsNextKey : State → Option (List ℕ) → Option (List ℕ) → Type 0
IsNextKey m after None = (k : List ℕ) → IsTrue (is_above after k) → IsAbsent m k
IsNextKey m after (Some key) = IsTrue (is_above after key) × ((s : ℕ) × IsTrue (is_present m s key))
    × ((k : List ℕ) → IsTrue (is_above after k) → key_cmp k key ≡ Less → IsAbsent m k)
