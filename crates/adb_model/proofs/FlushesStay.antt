-- A flush of a slot is open from its begin to its end.
use Rattle.std.proofs.Common.{◌≡◌, ℕ, eqb, true, cond, not, ◌&&◌, List, find, Option, Some, None, IsSome, refl, ap, ap₂, ◌∙◌}
use Rattle.std.specs.List.{list_any}
use Rattle.adb_model.specs.State.{Stored, Storage, Shrink, State}
use Rattle.adb_model.specs.Storages.{is_filling, bytes_of, open_flush}
use Rattle.adb_model.specs.Call as call
use Rattle.adb_model.specs.Call.{Call, Place, Cached, InStorage, Refusal, NotFlushing, Reply, Done, FlushBegun, Refused, Flushing}
use Rattle.adb_model.specs.Outcome.{unless, when_found, first_of}
use Rattle.adb_model.specs.Load.{answer}
use Rattle.adb_model.specs.Callers.{place_of, pinned, found}
use Rattle.adb_model.specs.Flush.{flush_rows, filling_with, with_filling, flushed_with, flush_dropped, flush_begin_refusals}
use Rattle.adb_model.specs.Snap.{open_snap}
use Rattle.adb_model.specs.Step.{step}
use Rattle.adb_model.specs.Sound.{IsSound}
use Rattle.adb_model.specs.Passing.{storages_stay}
use Rattle.adb_model.proofs.Outcomes.{through_unless, through_found, none_of, nothing_mapped}
use Rattle.adb_model.proofs.Through.{through_step}
use Rattle.adb_model.proofs.FlushBegins.{flush_begun}
use Rattle.adb_model.proofs.FlushEnds.{flush_ended}
use Rattle.adb_model.proofs.FlushDrops.{flush_dropped_too}

-- ---- calls that leave the storages and the shrinks

-- a load leaves all but the pins
pins_alone : {X : Type 0} (f : State → X) (m : State) (pass : ℕ) → ((id : ℕ) → f (pinned m pass (InStorage id)) ≡ f m) → (o : Option Stored) → f (found m pass o).0 ≡ f m
pins_alone f m pass pins None = refl
pins_alone f m pass pins (Some t) = by (place_of m t.slot t.key)
  where
    by : (place : Place) → f (pinned m pass place) ≡ f m
    by Cached = refl
    by (InStorage id) = pins id

abbrev AsIn : State → State → Type 0
AsIn m n = (n.storages ≡ m.storages) × (n.shrinks ≡ m.shrinks)

same_lists : (m : State) (pass : ℕ) (c : Call) → storages_stay c ≡ true → AsIn m (step m pass c).0
same_lists m pass (call.Store slot key account) h = through_unless (AsIn m) _ m _ (refl, refl) (λ e. (refl, refl))
same_lists m pass (call.Root slot) h = through_unless (AsIn m) _ m _ (refl, refl) (λ e. (refl, refl))
same_lists m pass (call.Purge slot) h = through_unless (AsIn m) _ m _ (refl, refl) (λ e. (refl, refl))
same_lists m pass (call.Load view key) h =
    through_unless (AsIn m) _ m _ (refl, refl) (λ e. (pins_alone (λ n. n.storages) m pass (λ id. refl) (answer m view key), pins_alone (λ n. n.shrinks) m pass (λ id. refl) (answer m view key)))
same_lists m pass (call.Unpin id) h = through_unless (AsIn m) _ m _ (refl, refl) (λ e. (refl, refl))
same_lists m pass (call.Lease max_root) h = through_unless (AsIn m) _ m _ (refl, refl) (λ e. (refl, refl))
same_lists m pass (call.EndLease max_root) h = through_unless (AsIn m) _ m _ (refl, refl) (λ e. (refl, refl))
same_lists m pass (call.FlushBegin slot) h = absurd cc
same_lists m pass (call.FlushEnd slot) h = absurd cc
same_lists m pass (call.FlushAbort slot) h = absurd cc
same_lists m pass (call.Raise upto) h = through_unless (AsIn m) _ m _ (refl, refl) (λ e. (refl, refl))
same_lists m pass (call.Reclaim after most) h = absurd cc
same_lists m pass (call.ShrinkBegin slot) h = absurd cc
same_lists m pass (call.ShrinkEnd slot) h = absurd cc
same_lists m pass (call.ShrinkAbort slot) h = absurd cc
same_lists m pass (call.SnapBegin slot) h = through_unless (AsIn m) _ m _ (refl, refl) (λ e. (refl, refl))
same_lists m pass (call.SnapEnd slot) h = through_found (AsIn m) (open_snap m slot) _ m _ (refl, refl) (λ n e. (refl, refl))
same_lists m pass call.Recycle h = absurd cc
same_lists m pass call.Stats h = (refl, refl)

pub same_flushes : (m : State) (pass : ℕ) (c : Call) → storages_stay c ≡ true → (s : ℕ) → open_flush (step m pass c).0 s ≡ open_flush m s
same_flushes m pass c h s =
    let same = same_lists m pass c h in
    ap₂ (λ (ts : List Storage) (gs : List Shrink). find (λ t. (is_filling t && eqb t.slot s) && not (list_any (λ g. eqb g.new t.id) gs)) ts) same.0 same.1

-- ---- a begin

-- a begin that is not refused leaves the new storage, with its id and its bytes
begun_cases : (m : State) (slot id bytes : ℕ) (o : Option Refusal)
    → (unless o m (with_filling m slot (flush_rows m slot), FlushBegun m.next_id (bytes_of (flush_rows m slot)))).1 ≡ FlushBegun id bytes
    → (o ≡ None) × (id ≡ m.next_id) × (bytes ≡ bytes_of (flush_rows m slot))
begun_cases m slot id bytes (Some r) e = absurd cc
begun_cases m slot id bytes None e = (refl, cc, cc)

refused_cases : (m : State) (slot : ℕ) (refusal : Refusal) (o : Option Refusal)
    → (unless o m (with_filling m slot (flush_rows m slot), FlushBegun m.next_id (bytes_of (flush_rows m slot)))).1 ≡ Refused refusal
    → (unless o m (with_filling m slot (flush_rows m slot), FlushBegun m.next_id (bytes_of (flush_rows m slot)))).0 ≡ m
refused_cases m slot refusal (Some r) e = refl
refused_cases m slot refusal None e = absurd cc

module _ (m : State) (pass slot id bytes : ℕ) (e : (step m pass (call.FlushBegin slot)).1 ≡ FlushBegun id bytes) where
  cases : (first_of (flush_begin_refusals m slot) ≡ None) × (id ≡ m.next_id) × (bytes ≡ bytes_of (flush_rows m slot))
  cases = begun_cases m slot id bytes (first_of (flush_begin_refusals m slot)) e

  closed : open_flush m slot ≡ None
  closed = nothing_mapped (λ t. Flushing slot t.id) (open_flush m slot) (none_of (flush_begin_refusals m slot) cases.0).1.1.0

  opens : IsSound m → (s : ℕ) → open_flush (step m pass (call.FlushBegin slot)).0 s ≡ cond (eqb slot s) (Some (filling_with m slot (flush_rows m slot))) (open_flush m s)
  opens h s =
      ap (λ (o : Option Refusal). open_flush (unless o m (with_filling m slot (flush_rows m slot), FlushBegun m.next_id (bytes_of (flush_rows m slot)))).0 s) cases.0
      ∙ flush_begun m slot (flush_rows m slot) h closed s

pub begun : (m : State) → IsSound m → (pass slot id bytes : ℕ) → (step m pass (call.FlushBegin slot)).1 ≡ FlushBegun id bytes → (s : ℕ)
    → open_flush (step m pass (call.FlushBegin slot)).0 s ≡ cond (eqb slot s) (Some (filling_with m slot (flush_rows m slot))) (open_flush m s)
begun m h pass slot id bytes e s = opens m pass slot id bytes e h s

pub begun_id : (m : State) (pass slot id bytes : ℕ) → (step m pass (call.FlushBegin slot)).1 ≡ FlushBegun id bytes → id ≡ m.next_id
begun_id m pass slot id bytes e = (cases m pass slot id bytes e).1

pub begun_bytes : (m : State) (pass slot id bytes : ℕ) → (step m pass (call.FlushBegin slot)).1 ≡ FlushBegun id bytes → bytes ≡ bytes_of (flush_rows m slot)
begun_bytes m pass slot id bytes e = (cases m pass slot id bytes e).2

pub begin_refused : (m : State) (pass slot : ℕ) (refusal : Refusal) → (step m pass (call.FlushBegin slot)).1 ≡ Refused refusal → (step m pass (call.FlushBegin slot)).0 ≡ m
begin_refused m pass slot refusal e = refused_cases m slot refusal (first_of (flush_begin_refusals m slot)) e

-- ---- an end or an abort

-- where a flush is open, it is done with
done_with : (m : State) (slot : ℕ) (after : Storage → State) (o : Option Storage) → IsSome o → (when_found o (NotFlushing slot) m (λ t. (after t, Done))).1 ≡ Done
done_with m slot after None is = absurd cc
done_with m slot after (Some t) is = refl

-- it is open no longer
closes : (m : State) (slot s : ℕ) (after : Storage → State) → ((t : Storage) → open_flush m slot ≡ Some t → open_flush (after t) s ≡ cond (eqb slot s) None (open_flush m s))
    → (o : Option Storage) → open_flush m slot ≡ o → IsSome o → open_flush (when_found o (NotFlushing slot) m (λ t. (after t, Done))).0 s ≡ cond (eqb slot s) None (open_flush m s)
closes m slot s after closed None e is = absurd cc
closes m slot s after closed (Some t) e is = closed t e

-- and where none is open, that is what is told
none_open : (m : State) (slot : ℕ) (after : Storage → State) → open_flush m slot ≡ None → when_found (open_flush m slot) (NotFlushing slot) m (λ t. (after t, Done)) ≡ (m, Refused (NotFlushing slot))
none_open m slot after e = ap (λ (o : Option Storage). when_found o (NotFlushing slot) m (λ t. (after t, Done))) e

pub ended : (m : State) → IsSound m → (pass slot : ℕ) → IsSome (open_flush m slot) → (s : ℕ) → open_flush (step m pass (call.FlushEnd slot)).0 s ≡ cond (eqb slot s) None (open_flush m s)
ended m h pass slot is s = closes m slot s (flushed_with m) (λ t e. flush_ended m h slot t e s) (open_flush m slot) refl is

pub end_done : (m : State) (pass slot : ℕ) → IsSome (open_flush m slot) → (step m pass (call.FlushEnd slot)).1 ≡ Done
end_done m pass slot is = done_with m slot (flushed_with m) (open_flush m slot) is

pub aborted : (m : State) → IsSound m → (pass slot : ℕ) → IsSome (open_flush m slot) → (s : ℕ) → open_flush (step m pass (call.FlushAbort slot)).0 s ≡ cond (eqb slot s) None (open_flush m s)
aborted m h pass slot is s = closes m slot s (flush_dropped m) (λ t e. flush_dropped_too m h slot t e s) (open_flush m slot) refl is

pub abort_done : (m : State) (pass slot : ℕ) → IsSome (open_flush m slot) → (step m pass (call.FlushAbort slot)).1 ≡ Done
abort_done m pass slot is = done_with m slot (flush_dropped m) (open_flush m slot) is

pub no_end : (m : State) (pass slot : ℕ) → open_flush m slot ≡ None → step m pass (call.FlushEnd slot) ≡ (m, Refused (NotFlushing slot))
no_end m pass slot e = none_open m slot (flushed_with m) e

pub no_abort : (m : State) (pass slot : ℕ) → open_flush m slot ≡ None → step m pass (call.FlushAbort slot) ≡ (m, Refused (NotFlushing slot))
no_abort m pass slot e = none_open m slot (flush_dropped m) e

-- ---- the budget

pub budget_same : (m : State) (pass : ℕ) (c : Call) → (step m pass c).0.budget ≡ m.budget
budget_same m pass c = through_step (λ n. n.budget ≡ m.budget) m pass refl (record {
  store = λ slot key account e. refl;
  root = λ slot e. refl;
  purge = λ slot e. refl;
  load = λ view key t e f. pins_alone (λ (n : State). n.budget) m pass (λ id. refl) (Some t);
  unpin = λ id. refl;
  lease = λ max_root e. refl;
  end_lease = λ max_root. refl;
  flush_begin = λ slot e. refl;
  flush_end = λ slot t e. refl;
  flush_abort = λ slot t e. refl;
  raise = λ upto e. refl;
  reclaim = λ keys. refl;
  shrink_begin = λ slot old e f. refl;
  installed = λ slot g e f. refl;
  dropped = λ slot g e. refl;
  snap_begin = λ slot e. refl;
  snap_end = refl;
  recycle = refl;
}) c
