-- A snapshot is open from its begin to its end.
use Rattle.std.proofs.Common.{◌≡◌, ℕ, ◌≤◌, eqb, nat_lt, false, cond, not, IsTrue, length, Option, Some, None, option_and_then, refl, ap, ◌∙◌}
use Rattle.std.specs.Option.{option_map_or}
use Rattle.std.proofs.lemmas.Bool.{or_right, eq-eqb, not-false, ltb-false}
use Rattle.adb_model.specs.Lists.{among}
use Rattle.adb_model.specs.State.{Snap, State}
use Rattle.adb_model.specs.Storages.{is_pinned}
use Rattle.adb_model.specs.Call as call
use Rattle.adb_model.specs.Call.{Refusal, SnapOpen, NotRoot, SnapTooOld, Unflushed, NotSnapping, Reply, Done, SnapBegun}
use Rattle.adb_model.specs.Outcome.{unless, when_found, first_of}
use Rattle.adb_model.specs.Snap.{live_ids, first_unflushed, snap_begin_refusals, without_snap}
use Rattle.adb_model.specs.Step.{step}
use Rattle.adb_model.specs.Laws.{IsFlushedUpto}
use Rattle.adb_model.specs.Snapping.{snapped}
use Rattle.adb_model.proofs.Outcomes.{not_refused, nothing_mapped, none_of}
use Rattle.adb_model.proofs.SnapStorages.{all_flushed}

pub pinned : (m : State) (n : Snap) → m.snap ≡ Some n → (id : ℕ) → IsTrue (among id n.ids) → IsTrue (is_pinned m id)
pinned m n e id t = or_right _ _ (ap (λ (o : Option Snap). option_map_or (λ n. among id n.ids) o false) e ∙ t)

abbrev done : State → ℕ → State × Reply
done m slot = (snapped m slot (live_ids m slot), SnapBegun (length (live_ids m slot)))

-- a begin that is told its storages was not refused
record IsBegun (m : State) (slot storages : ℕ) (o : Option Refusal) : Type 0 where
  free : o ≡ None
  count : storages ≡ length (live_ids m slot)

begun_unless : (m : State) (slot storages : ℕ) (o : Option Refusal) → (unless o m (done m slot)).1 ≡ SnapBegun storages → IsBegun m slot storages o
begun_unless m slot storages None e = record { free = refl; count = cc }
begun_unless m slot storages (Some r) e = absurd cc

pub begun : (m : State) (pass slot storages : ℕ) → (step m pass (call.SnapBegin slot)).1 ≡ SnapBegun storages
    → (m.snap ≡ None) × (storages ≡ length (live_ids m slot)) × ((step m pass (call.SnapBegin slot)).0 ≡ snapped m slot (live_ids m slot))
begun m pass slot storages e =
    let b = begun_unless m slot storages (first_of (snap_begin_refusals m slot)) e in (
      nothing_mapped (λ n. SnapOpen n.slot) m.snap (none_of (snap_begin_refusals m slot) b.free).0,
      b.count,
      ap (λ (o : Option Refusal). (unless o m (done m slot)).0) b.free,
    )

pub may : (m : State) (pass slot storages : ℕ) → (step m pass (call.SnapBegin slot)).1 ≡ SnapBegun storages → IsTrue (among slot m.roots) × (m.cleaned ≤ slot) × IsFlushedUpto m slot
may m pass slot storages e =
    let b = begun_unless m slot storages (first_of (snap_begin_refusals m slot)) e in
    let none = none_of (snap_begin_refusals m slot) b.free in (
      not-false (among slot m.roots) (not_refused (not (among slot m.roots)) (NotRoot slot) none.1.0),
      ltb-false slot m.cleaned (not_refused (nat_lt slot m.cleaned) (SnapTooOld slot m.cleaned) none.1.1.0),
      all_flushed m slot (nothing_mapped Unflushed (first_unflushed m slot) none.1.1.1.0),
    )

pub ended : (m : State) (pass : ℕ) (n : Snap) → m.snap ≡ Some n → step m pass (call.SnapEnd n.slot) ≡ (without_snap m, Done)
ended m pass n e =
    ap (λ (o : Option Snap). ending (option_and_then (λ k. cond (eqb k.slot n.slot) (Some k) None) o)) e
    ∙ ap (λ b. ending (cond b (Some n) None)) (eq-eqb n.slot n.slot refl)
  where
    ending : Option Snap → State × Reply
    ending o = when_found o (NotSnapping n.slot) m (λ k. (without_snap m, Done))
