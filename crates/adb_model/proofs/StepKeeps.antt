-- Each step keeps a sound state sound, and so does each history.
use Rattle.std.proofs.Common.{◌≢◌, ℕ, ◌<◌, ◌≤◌, IsTrue, List, [], ◌∷◌, refl, arith, inl}
use Rattle.std.specs.List.{AllByRecursion}
use Rattle.std.proofs.lemmas.List.Elements.{All-nil}
use Rattle.adb_model.specs.State.{State, fresh}
use Rattle.adb_model.specs.Call as call
use Rattle.adb_model.specs.Call.{Call, Event}
use Rattle.adb_model.specs.Step.{step}
use Rattle.adb_model.specs.History.{IsPass, state_after}
use Rattle.adb_model.specs.Sound.{IsSound, SlotFits, RowsFit, ShrinkFits, CopyFits, is_settled}
use Rattle.adb_model.specs.Presence.{is_live}
use Rattle.adb_model.specs.Storages.{is_filling}
use Rattle.adb_model.specs.Reclaim.{has_named_row}
use Rattle.std.proofs.lemmas.Bool.{false≢true}
use Rattle.adb_model.proofs.Pairs.{pairs_none}
use Rattle.adb_model.proofs.StoreKeeps.{store_keeps}
use Rattle.adb_model.proofs.RootKeeps.{root_keeps}
use Rattle.adb_model.proofs.PurgeKeeps.{purge_keeps}
use Rattle.adb_model.proofs.PinsChange.{load_keeps, unpin_keeps}
use Rattle.adb_model.proofs.LeasesKeep.{lease_keeps, end_lease_keeps, raise_keeps}
use Rattle.adb_model.proofs.FlushBeginKeeps.{flush_begin_keeps}
use Rattle.adb_model.proofs.FlushEndKeeps.{flush_end_keeps}
use Rattle.adb_model.proofs.FlushAbortKeeps.{flush_abort_keeps}
use Rattle.adb_model.proofs.ReclaimKeeps.{reclaim_keeps}
use Rattle.adb_model.proofs.ShrinkBeginKeeps.{shrink_begin_keeps}
use Rattle.adb_model.proofs.ShrinkEndKeeps.{shrink_end_keeps}
use Rattle.adb_model.proofs.ShrinkAbortKeeps.{shrink_abort_keeps}
use Rattle.adb_model.proofs.SnapKeeps.{snap_begin_keeps, snap_end_keeps, recycle_keeps}

pub step_keeps : (m : State) (pass : ℕ) (c : Call) → IsPass pass → IsSound m → IsSound (step m pass c).0
step_keeps m pass (call.Store slot key account) is h = store_keeps m slot key account h
step_keeps m pass (call.Root slot) is h = root_keeps m slot h
step_keeps m pass (call.Purge slot) is h = purge_keeps m slot h
step_keeps m pass (call.Load view key) is h = load_keeps m pass view key is h
step_keeps m pass (call.Unpin id) is h = unpin_keeps m pass id h
step_keeps m pass (call.Lease max_root) is h = lease_keeps m pass max_root is h
step_keeps m pass (call.EndLease max_root) is h = end_lease_keeps m pass max_root h
step_keeps m pass (call.FlushBegin slot) is h = flush_begin_keeps m slot h
step_keeps m pass (call.FlushEnd slot) is h = flush_end_keeps m slot h
step_keeps m pass (call.FlushAbort slot) is h = flush_abort_keeps m slot h
step_keeps m pass (call.Raise upto) is h = raise_keeps m upto h
step_keeps m pass (call.Reclaim after most) is h = reclaim_keeps m after most h
step_keeps m pass (call.ShrinkBegin slot) is h = shrink_begin_keeps m slot h
step_keeps m pass (call.ShrinkEnd slot) is h = shrink_end_keeps m slot h
step_keeps m pass (call.ShrinkAbort slot) is h = shrink_abort_keeps m slot h
step_keeps m pass (call.SnapBegin slot) is h = snap_begin_keeps m slot h
step_keeps m pass (call.SnapEnd slot) is h = snap_end_keeps m slot h
step_keeps m pass call.Recycle is h = recycle_keeps m h
step_keeps m pass call.Stats is h = h

pub history_keeps : (m : State) (events : List Event) → AllByRecursion (λ e. IsPass e.pass) events → IsSound m → IsSound (state_after m events)
history_keeps m [] passes h = h
history_keeps m (e ∷ events) passes h = history_keeps (step m e.pass e.call).0 events passes.1 (step_keeps m e.pass e.call passes.0 h)

pub fresh_sound : (budget id : ℕ) → IsSound (fresh budget id)
fresh_sound budget id =
    let m = fresh budget id in
    record {
      limits = record {
        roots = pairs_none (λ r s. r < s);
        cleaned = inl refl;
        leases = All-nil (λ l. IsPass l.pass × (0 ≤ l.max_root));
        passes = All-nil (λ p. IsPass p.pass);
        pins = λ pass. omega arith;
        bytes = omega arith;
        count = omega arith;
      };
      slots = record {
        roots = λ s f. absurd (false≢true f);
        named = λ s k n. absurd (false≢true n);
        storages = All-nil (SlotFits m);
        one_live = pairs_none (λ t u. IsTrue (is_live t) → IsTrue (is_live u) → t.slot ≢ u.slot);
        one_filling = pairs_none (λ t u. IsTrue (is_filling t) → IsTrue (is_filling u) → t.slot ≢ u.slot);
      };
      ids = record {
        differ = pairs_none (λ t u. t.id ≢ u.id);
        below = All-nil (λ t. t.id < id);
        one_shrink = pairs_none (λ a b. a.slot ≢ b.slot);
        shrinks = All-nil (ShrinkFits m);
        pins = All-nil (λ p. IsTrue (is_settled m p.id));
        snap = λ n i. absurd (false≢true i);
      };
      rows = All-nil (RowsFit m);
      names = record { held = λ s k n. absurd (false≢true n); live = All-nil (λ t. IsTrue (is_live t) → IsTrue (has_named_row m t)) };
      copies = All-nil (CopyFits m);
      gone = λ s k st f u. absurd (false≢true st);
    }
