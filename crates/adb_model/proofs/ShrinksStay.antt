-- A shrink of a slot is open from its begin to its end, and no shrink changes which flushes are open.
use Rattle.std.proofs.Common.{◌≡◌, ℕ, eqb, Bool, true, false, cond, Option, Some, None, IsSome, refl, sym, ap, ap₂, ◌∙◌}
use Rattle.adb_model.specs.State.{Storage, Shrink, State}
use Rattle.adb_model.specs.Storages.{bytes_of, live_storage, open_flush, open_shrink}
use Rattle.adb_model.specs.Call as call
use Rattle.adb_model.specs.Call.{Refusal, NoStorage, Shrinking, NotShrinking, Reply, Done, ShrinkBegun, Superseded}
use Rattle.adb_model.specs.Outcome.{unless, when_found, first_of}
use Rattle.adb_model.specs.Shrink.{shrink_rows, shrinking, shrink_begin_refusals, is_current, installed, copy_dropped}
use Rattle.adb_model.specs.Step.{step}
use Rattle.adb_model.specs.Sound.{IsSound}
use Rattle.adb_model.proofs.Outcomes.{through_unless, through_found, none_of, nothing_mapped}
use Rattle.adb_model.proofs.ShrinkBegins as begins
use Rattle.adb_model.proofs.ShrinkInstalls.{flush_installed}
use Rattle.adb_model.proofs.ShrinkDrops as drops
use Rattle.adb_model.proofs.ShrinksLeave.{shrink_closed}

-- ---- a begin

abbrev done : State → Storage → State × Reply
done m old = (shrinking m old, ShrinkBegun old.id m.next_id (bytes_of (shrink_rows m old)))

abbrev tried : State → ℕ → Storage → State × Reply
tried m slot old = unless (first_of (shrink_begin_refusals m slot old)) m (done m old)

-- a begin that is told its storages was not refused
record IsBegun (m : State) (slot old new bytes : ℕ) (t : Storage) : Type 0 where
  free : first_of (shrink_begin_refusals m slot t) ≡ None
  old_is : old ≡ t.id
  new_is : new ≡ m.next_id

begun_unless : (m : State) (slot old new bytes : ℕ) (t : Storage) (o : Option Refusal) → first_of (shrink_begin_refusals m slot t) ≡ o → (unless o m (done m t)).1 ≡ ShrinkBegun old new bytes → IsBegun m slot old new bytes t
begun_unless m slot old new bytes t None free e = record { free = free; old_is = cc; new_is = cc }
begun_unless m slot old new bytes t (Some r) free e = absurd cc

begun_cases : (m : State) (slot old new bytes : ℕ) (o : Option Storage) → (when_found o (NoStorage slot) m (tried m slot)).1 ≡ ShrinkBegun old new bytes → (t : Storage) × (o ≡ Some t) × IsBegun m slot old new bytes t
begun_cases m slot old new bytes None e = absurd cc
begun_cases m slot old new bytes (Some t) e = (t, refl, begun_unless m slot old new bytes t (first_of (shrink_begin_refusals m slot t)) refl e)

abbrev entry : ℕ → ℕ → ℕ → Shrink
entry slot old new = record { slot = slot; old = old; new = new }

pub begun : (m : State) (pass slot old new bytes : ℕ) → (step m pass (call.ShrinkBegin slot)).1 ≡ ShrinkBegun old new bytes → (s : ℕ)
    → open_shrink (step m pass (call.ShrinkBegin slot)).0 s ≡ cond (eqb slot s) (Some (record { slot = slot; old = old; new = new })) (open_shrink m s)
begun m pass slot old new bytes e s =
    let b = begun_cases m slot old new bytes (live_storage m slot) e in
    let t = b.0 in
    let closed : open_shrink m slot ≡ None = nothing_mapped (λ k. Shrinking slot k.new) (open_shrink m slot) (none_of (shrink_begin_refusals m slot t) b.2.free).0 in
    ap (λ (o : Option Storage). open_shrink (when_found o (NoStorage slot) m (tried m slot)).0 s) b.1
    ∙ ap (λ (o : Option Refusal). open_shrink (unless o m (done m t)).0 s) b.2.free
    ∙ begins.shrink_begun m slot t b.1 closed s
    ∙ sym (ap₂ (λ (x y : ℕ). cond (eqb slot s) (Some (entry slot x y)) (open_shrink m s)) b.2.old_is b.2.new_is)

pub flush_begun : (m : State) → IsSound m → (pass slot s : ℕ) → open_flush (step m pass (call.ShrinkBegin slot)).0 s ≡ open_flush m s
flush_begun m h pass slot s =
    through_found (λ n. open_flush n s ≡ open_flush m s) (live_storage m slot) (NoStorage slot) m (tried m slot) refl (λ old e.
    through_unless (λ n. open_flush n s ≡ open_flush m s) (first_of (shrink_begin_refusals m slot old)) m (done m old) refl (λ free. begins.flush_begun m old h s))

-- ---- an end or an abort

abbrev ending : State → ℕ → Shrink → Bool → State × Reply
ending m slot g b = cond b (installed m g, Done) (copy_dropped m g, Superseded slot g.old)

-- what holds of both states that an end may lead to
at_end : (P : State → Type 0) (m : State) (slot : ℕ) (g : Shrink) (b : Bool) → P (installed m g) → P (copy_dropped m g) → P (ending m slot g b).0
at_end P m slot g true there left = there
at_end P m slot g false there left = left

-- where one was open, it is open no longer
closes : (m : State) (slot s : ℕ) (after : Shrink → State × Reply) → ((g : Shrink) → open_shrink m slot ≡ Some g → open_shrink (after g).0 s ≡ cond (eqb slot s) None (open_shrink m s))
    → (o : Option Shrink) → open_shrink m slot ≡ o → IsSome o → open_shrink (when_found o (NotShrinking slot) m after).0 s ≡ cond (eqb slot s) None (open_shrink m s)
closes m slot s after closed None e is = absurd cc
closes m slot s after closed (Some g) e is = closed g e

pub ended : (m : State) (pass slot : ℕ) → IsSome (open_shrink m slot) → (s : ℕ) → open_shrink (step m pass (call.ShrinkEnd slot)).0 s ≡ cond (eqb slot s) None (open_shrink m s)
ended m pass slot is s =
    closes m slot s (λ g. ending m slot g (is_current m g))
    (λ g e. at_end (λ n. open_shrink n s ≡ cond (eqb slot s) None (open_shrink m s)) m slot g (is_current m g) (shrink_closed m slot g e s) (shrink_closed m slot g e s))
    (open_shrink m slot) refl is

pub aborted : (m : State) (pass slot : ℕ) → IsSome (open_shrink m slot) → (s : ℕ) → open_shrink (step m pass (call.ShrinkAbort slot)).0 s ≡ cond (eqb slot s) None (open_shrink m s)
aborted m pass slot is s = closes m slot s (λ g. (copy_dropped m g, Done)) (λ g e. shrink_closed m slot g e s) (open_shrink m slot) refl is

pub flush_ended : (m : State) → IsSound m → (pass slot s : ℕ) → open_flush (step m pass (call.ShrinkEnd slot)).0 s ≡ open_flush m s
flush_ended m h pass slot s =
    through_found (λ n. open_flush n s ≡ open_flush m s) (open_shrink m slot) (NotShrinking slot) m (λ g. ending m slot g (is_current m g)) refl
    (λ g e. at_end (λ n. open_flush n s ≡ open_flush m s) m slot g (is_current m g) (flush_installed m h slot g e s) (drops.flush_dropped m h slot g e s))

pub flush_aborted : (m : State) → IsSound m → (pass slot s : ℕ) → open_flush (step m pass (call.ShrinkAbort slot)).0 s ≡ open_flush m s
flush_aborted m h pass slot s =
    through_found (λ n. open_flush n s ≡ open_flush m s) (open_shrink m slot) (NotShrinking slot) m (λ g. (copy_dropped m g, Done)) refl (λ g e. drops.flush_dropped m h slot g e s)
