-- A store keeps a sound state sound.
use Rattle.std.proofs.Common.{ℕ, ◌<◌, eqb, IsTrue, IsFalse, List, [], ◌∷◌, ◌++◌, sym, ap, ◌∙◌, arith}
use Rattle.std.specs.Str.{bytes_eq}
use Rattle.std.proofs.lemmas.Bool.{and_left, ne_eqb}
use Rattle.adb_model.specs.Lists.{among, last}
use Rattle.adb_model.specs.Account.{Account}
use Rattle.adb_model.specs.State.{Stored, State}
use Rattle.adb_model.specs.Load.{is_of}
use Rattle.adb_model.specs.Call.{SlotRooted}
use Rattle.adb_model.specs.Callers.{rooted_by, store_step}
use Rattle.adb_model.specs.Sound.{IsSound}
use Rattle.adb_model.proofs.Members.{any_push_other}
use Rattle.adb_model.proofs.Filters.{filter_push_other}
use Rattle.adb_model.proofs.Roots.{above_roots}
use Rattle.adb_model.proofs.Outcomes.{through_unless, nothing_mapped}
use Rattle.adb_model.proofs.StoresChange.{KeepsRooted, stores_changed}

other_slot : (t : Stored) (s : ℕ) (k : List ℕ) → s < t.slot → IsFalse (is_of s k t)
other_slot t s k lt = and_left (eqb t.slot s) (bytes_eq t.key k) (ne_eqb t.slot s (λ e. omega arith))

pub above_all : (m : State) (t : Stored) → ((r : ℕ) → IsTrue (among r m.roots) → r < t.slot) → KeepsRooted m (m.stores ++ t ∷ [])
above_all m t above = record {
  same = λ s root k. any_push_other (is_of s k) m.stores t (other_slot t s k (above s root));
  last = λ s root k. ap last (filter_push_other (is_of s k) m.stores t (other_slot t s k (above s root)));
  fewer = λ s root q lt k st. sym (any_push_other (is_of q k) m.stores t (other_slot t q k (let up = above s root in omega arith))) ∙ st;
}

pub store_keeps : (m : State) (slot : ℕ) (key : List ℕ) (account : Account) → IsSound m → IsSound (store_step m slot key account).0
store_keeps m slot key account h =
    let t : Stored = record { slot = slot; key = key; account = account } in
    through_unless IsSound _ m _ h (λ free.
    stores_changed m (m.stores ++ t ∷ []) (above_all m t (above_roots m slot h.limits.roots (nothing_mapped (SlotRooted slot) (rooted_by m slot) free))) h)
