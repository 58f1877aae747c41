-- What the machine does where a call is refused, and where it isn't.
use Rattle.std.proofs.Common.{◌≡◌, ℕ, List, Bool, Option, option_map, ap, length}
use Rattle.adb_model.specs.Lists.{among}
use Rattle.adb_model.specs.Account.{Account}
use Rattle.adb_model.specs.State.{State}
use Rattle.adb_model.specs.Call.{Reply, SlotRooted, RootOrder, Rooted, Done, Purged, Store, Root, Purge}
use Rattle.adb_model.specs.Outcome.{unless, refused_if}
use Rattle.adb_model.specs.Callers.{with_store, with_root, without_stores, keys_of}
use Rattle.adb_model.specs.Step.{step}
use Rattle.book_parts.specs.Changes.{rooted_by}

abbrev Outcome : Type 0
Outcome = State × Reply

pub store_step_is : (m : State) (pass slot : ℕ) (key : List ℕ) (account : Account) (o : Option ℕ) → rooted_by m.roots slot ≡ o
    → step m pass (Store slot key account) ≡ unless (option_map (SlotRooted slot) o) m (with_store m slot key account, Done)
store_step_is m pass slot key account o e = ap (λ o. unless (option_map (SlotRooted slot) o) m (with_store m slot key account, Done)) e

pub root_step_is : (m : State) (pass slot : ℕ) (o : Option ℕ) → rooted_by m.roots slot ≡ o
    → step m pass (Root slot) ≡ unless (option_map (RootOrder slot) o) m (with_root m slot, Done)
root_step_is m pass slot o e = ap (λ o. unless (option_map (RootOrder slot) o) m (with_root m slot, Done)) e

pub purge_step_is : (m : State) (pass slot : ℕ) (b : Bool) → among slot m.roots ≡ b
    → step m pass (Purge slot) ≡ unless (refused_if b (Rooted slot)) m (without_stores m slot, Purged (length (keys_of m slot)))
purge_step_is m pass slot b e = ap (λ b. unless (refused_if b (Rooted slot)) m (without_stores m slot, Purged (length (keys_of m slot)))) e
