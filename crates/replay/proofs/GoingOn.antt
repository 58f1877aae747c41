-- How a player stands after one more event.
use Rattle.std.proofs.Common.{◌≡◌, ◌≢◌, ℕ, ◌-◌, ◌==◌, List, [], ◌∷◌, ◌++◌, set, count_by, Option, Some, None, Err, refl, sym, ap, subst, ◌∙◌, arith}
use Rattle.std.specs.Option.{option_map}
use Rattle.adb_model.specs.State.{State, Storage}
use Rattle.adb_model.specs.Storages.{open_flush, open_shrink, bytes_of}
use Rattle.adb_model.specs.Call as machine
use Rattle.adb_model.specs.Call.{Event, Call, Reply, Refusal, Refused, FlushBegun, Flushing}
use Rattle.adb_model.specs.Outcome.{unless, first_of, room_refusals}
use Rattle.adb_model.specs.Flush.{flush_rows, with_filling}
use Rattle.adb_model.specs.Sound.{IsSound}
use Rattle.adb_model.specs.Once.{IsOnce}
use Rattle.adb_model.specs.RowBytes.{HaveBytes}
use Rattle.book_parts.specs.Reflects.{Reflects}
use Rattle.book_parts.specs.Pins.{HoldsPins}
use Rattle.adb_model.specs.Callers.{is_pin}
use Rattle.adb_model.specs.Step.{step}
use Rattle.adb_model.specs.History.{state_after, IsLegal, IsPass}
use Rattle.pass_pins.specs.Pins.{Pins}
use Rattle.flush_plan.specs.Jobs.{Job, storage_of}
use Rattle.book_parts.specs.Parts.{Parts}
use Rattle.book_parts.specs.Shrinks.{Copy}
use Rattle.book_parts.specs.Snaps.{Snapshot}
use Rattle.book_parts.specs.Stands.{Stands, After, AfterWithPins, with_event}
use Rattle.book.specs.declared.refusals.FlushRefusal.{FlushRefusal}
use Rattle.book.specs.declared.refusals.FlushRefusal.TheVariants as flushes
use Rattle.book.specs.declared.refusals.ShrinkRefusal.{ShrinkRefusal}
use Rattle.book.specs.declared.refusals.ShrinkRefusal.TheVariants as shrinks
use Rattle.book.specs.declared.refusals.SnapRefusal.{SnapRefusal}
use Rattle.book.specs.declared.refusals.SnapRefusal.TheVariants as snaps
use Rattle.book.specs.Replies.{flush_reply, shrink_reply, snap_reply}
use Rattle.replay.specs.Standing.{IsLane, Lanes, LanesHold, JobsStand, ShrinksStand, SnapStands, PlayerStands}
use Rattle.replay.proofs.Lanes.{lanes_as, lanes_with}
use Rattle.replay.proofs.InHand.{open_as}
use Rattle.replay.proofs.Copies.{CopiesStay, shrinks_as}
use Rattle.replay.proofs.Snaps.{SnapsStay, snap_as}

abbrev pub StateGoesOn : Type 0
StateGoesOn = (m : State) (h : List Event) (e : Event) → state_after m (h ++ e ∷ []) ≡ (step (state_after m h) e.pass e.call).0

abbrev pub EachLegal : Type 0
EachLegal = (m : State) (h g : List Event) → IsLegal m (h ++ g) → IsLegal m h × IsLegal (state_after m h) g

abbrev pub event : ℕ → Call → Reply → Event
event pass call reply = record { pass = pass; call = call; reply = reply }

-- the reply of the last event is its step's
pub last_reply : EachLegal → (start : State) (h : List Event) (pass : ℕ) (call : Call) (reply : Reply) → IsLegal start (h ++ event pass call reply ∷ []) → (step (state_after start h) pass call).1 ≡ reply
last_reply each_legal start h pass call reply legal = sym (each_legal start h (event pass call reply ∷ []) legal).1.0

-- parts that stand for one history stand for another that leads to the same state
pub stands_same : (b : Parts) (start : State) (h g : List Event) → state_after start h ≡ state_after start g → IsLegal start g → Stands b start h → Stands b start g
stands_same b start h g e legal st = record {
  legal = legal;
  sound = subst (λ (m : State). IsSound m) e st.sound;
  once = subst (λ (m : State). IsOnce m) e st.once;
  bytes = subst (λ (m : State). HaveBytes m) e st.bytes;
  parts = subst (λ (m : State). Reflects b m) e st.parts;
}

-- the number of a lane is that of a pass
pub is_pass : (lane : ℕ) → IsLane lane → IsPass lane
is_pass lane is = (is.0, omega (arith, is.1))

module _ (goes_on : StateGoesOn) (start : State) (h : List Event) (pass : ℕ) (call : Call) where
  abbrev before : State
  before = state_after start h

  abbrev after : State
  after = (step before pass call).0

  -- what holds after the step holds after the event
  pub after_event : (P : State → Type 0) (reply : Reply) → P after → P (state_after start (h ++ event pass call reply ∷ []))
  after_event P reply p = subst P (sym (goes_on start h (event pass call reply))) p

  -- the player stands for a history with one more event, where what it has in hand stands after the step
  pub made : (p : Lanes) (new : Parts) (jobs : List Job) (copies : List Copy) (snap : Option Snapshot) (reply : Reply) → after.pins ≡ before.pins → JobsStand jobs after → ShrinksStand copies after → SnapStands snap after
      → PlayerStands p start h → After new start h pass call (Some reply)
      → PlayerStands (record p { book = new; jobs = jobs; shrinks = copies; snap = snap }) start (with_event h pass call (Some reply))
  made p new jobs copies snap reply pins js cs s st told = record {
    book = told;
    pins = after_event (λ n. LanesHold p.pins n) reply (lanes_as p.pins before after pins st.pins);
    jobs = after_event (λ n. JobsStand jobs n) reply js;
    shrinks = after_event (λ n. ShrinksStand copies n) reply cs;
    snap = after_event (λ n. SnapStands snap n) reply s;
  }

  -- the same flushes, shrinks and snapshot are open
  pub steady_after : CopiesStay → SnapsStay → IsLane pass → (p : Lanes) (new : Parts) (reply : Option Reply) → after.pins ≡ before.pins → ((s : ℕ) → open_flush after s ≡ open_flush before s)
      → ((s : ℕ) → open_shrink after s ≡ open_shrink before s) → after.snap ≡ before.snap
      → PlayerStands p start h → After new start h pass call reply → PlayerStands (record p { book = new }) start (with_event h pass call reply)
  steady_after stay snaps is p new None pins flushes shrinks snap st told = record { book = told; pins = st.pins; jobs = st.jobs; shrinks = st.shrinks; snap = st.snap }
  steady_after stay snaps is p new (Some reply) pins flushes shrinks snap st told =
      made p new p.jobs p.shrinks p.snap reply pins (open_as (λ (j : Job). j.slot) storage_of p.jobs (open_flush before) (open_flush after) flushes st.jobs) (shrinks_as stay before st.book.sound pass (is_pass pass is) call p.shrinks st.shrinks shrinks)
      (snap_as snaps before st.book.sound pass (is_pass pass is) call p.snap snap st.snap) st told

-- a call of a lane that takes or gives back a pin
module _ (goes_on : StateGoesOn) (stay : CopiesStay) (snaps : SnapsStay)
    (others : (m : State) (pass p : ℕ) (c : Call) → pass ≢ p → (id : ℕ) → count_by (is_pin p id) (step m pass c).0.pins ≡ count_by (is_pin p id) m.pins)
    (others_of : (m : State) (pass p : ℕ) (c : Call) → pass ≢ p → count_by (λ q. q.pass == p) (step m pass c).0.pins ≡ count_by (λ q. q.pass == p) m.pins)
    (start : State) (h : List Event) (lane : ℕ) (call : Call) where
  pub lane_after : (p : Lanes) (new : Parts) (after : Pins) (reply : Option Reply) → ((s : ℕ) → open_flush (step (state_after start h) lane call).0 s ≡ open_flush (state_after start h) s)
      → ((s : ℕ) → open_shrink (step (state_after start h) lane call).0 s ≡ open_shrink (state_after start h) s) → (step (state_after start h) lane call).0.snap ≡ (state_after start h).snap → IsLane lane → PlayerStands p start h → after.pass ≡ lane → AfterWithPins new after start h call reply
      → PlayerStands (record p { book = new; pins = set p.pins (lane - 1) after }) start (with_event h lane call reply)
  lane_after p new after None flushes shrinks snap is st same made = record {
    book = made.stands;
    pins = lanes_with p.pins (state_after start h) (state_after start h) lane after is st.pins same made.pins (λ pass ne id. refl) (λ pass ne. refl);
    jobs = st.jobs;
    shrinks = st.shrinks;
    snap = st.snap;
  }
  lane_after p new after (Some reply) flushes shrinks snap is st same made =
      let m = state_after start h in
      let g = h ++ event lane call reply ∷ [] in
      let n = state_after start g in
      let to : n ≡ (step m lane call).0 = goes_on start h (event lane call reply) in
      record {
        book = subst (λ (k : ℕ). Stands new start (h ++ event k call reply ∷ [])) same made.stands;
        pins = lanes_with p.pins m n lane after is st.pins same (subst (λ (k : ℕ). HoldsPins after (state_after start (h ++ event k call reply ∷ []))) same made.pins)
            (λ q ne id. ap (λ (o : State). count_by (is_pin q id) o.pins) to ∙ others m lane q call ne id)
            (λ q ne. ap (λ (o : State). count_by (λ r. r.pass == q) o.pins) to ∙ others_of m lane q call ne);
        jobs = after_event goes_on start h lane call (λ o. JobsStand p.jobs o) reply (open_as (λ (j : Job). j.slot) storage_of p.jobs (open_flush m) (open_flush (step m lane call).0) flushes st.jobs);
        shrinks = after_event goes_on start h lane call (λ o. ShrinksStand p.shrinks o) reply (shrinks_as stay m st.book.sound lane (is_pass lane is) call p.shrinks st.shrinks shrinks);
        snap = after_event goes_on start h lane call (λ o. SnapStands p.snap o) reply (snap_as snaps m st.book.sound lane (is_pass lane is) call p.snap snap st.snap);
      }

-- a flush begins only where none of its slot was open
begun_alone : (a b : Option Refusal) (o : Option Storage) (slot : ℕ) (more : List (Option Refusal)) (m : State) (done : State × Reply) (id bytes : ℕ)
    → (unless (first_of (a ∷ b ∷ option_map (λ t. Flushing slot t.id) o ∷ more)) m done).1 ≡ FlushBegun id bytes → o ≡ None
begun_alone (Some r) b o slot more m done id bytes e = absurd cc
begun_alone None (Some r) o slot more m done id bytes e = absurd cc
begun_alone None None None slot more m done id bytes e = refl
begun_alone None None (Some t) slot more m done id bytes e = absurd cc

pub none_before : (m : State) (pass slot id bytes : ℕ) → (step m pass (machine.FlushBegin slot)).1 ≡ FlushBegun id bytes → open_flush m slot ≡ None
none_before m pass slot id bytes e =
    begun_alone _ _ (open_flush m slot) slot (room_refusals m (bytes_of (flush_rows m slot))) m (with_filling m slot (flush_rows m slot), FlushBegun m.next_id (bytes_of (flush_rows m slot))) id bytes e

-- a refused call changes nothing
pub with_none : StateGoesOn → ((m : State) (h : List Event) (e : Event) → IsLegal m h → e.reply ≡ (step (state_after m h) e.pass e.call).1 → IsLegal m (h ++ e ∷ []))
    → (start : State) (h : List Event) (pass : ℕ) (call : Call) (refusal : Refusal) (p : Lanes) → step (state_after start h) pass call ≡ (state_after start h, Refused refusal)
    → PlayerStands p start h → PlayerStands p start (h ++ event pass call (Refused refusal) ∷ [])
with_none on legal start h pass call refusal p nothing st =
    let e = event pass call (Refused refusal) in
    let same : state_after start h ≡ state_after start (h ++ e ∷ []) = sym (on start h e ∙ ap (λ d. d.0) nothing) in
    record {
      book = stands_same p.book start h (h ++ e ∷ []) same (legal start h e st.book.legal (sym (ap (λ d. d.1) nothing))) st.book;
      pins = subst (λ (n : State). LanesHold p.pins n) same st.pins;
      jobs = subst (λ (n : State). JobsStand p.jobs n) same st.jobs;
      shrinks = subst (λ (n : State). ShrinksStand p.shrinks n) same st.shrinks;
      snap = subst (λ (n : State). SnapStands p.snap n) same st.snap;
    }

-- a begin that is refused changes nothing
abbrev pub BeginRefused : (ℕ → Call) → Type 0
BeginRefused begin = (m : State) (pass slot : ℕ) (refusal : Refusal) → (step m pass (begin slot)).1 ≡ Refused refusal → (step m pass (begin slot)).0 ≡ m

module _ (on : StateGoesOn) (stay : CopiesStay) (snaps_stay : SnapsStay) (each_legal : EachLegal) (p : Lanes) (new : Parts) (start : State) (h : List Event) (pass slot : ℕ) (is : IsLane pass) (st : PlayerStands p start h) where
  begin_refused : (begin : ℕ → Call) → BeginRefused begin → (r : Refusal) → After new start h pass (begin slot) (Some (Refused r))
      → PlayerStands (record p { book = new }) start (with_event h pass (begin slot) (Some (Refused r)))
  begin_refused begin unchanged r after =
      let same = unchanged (state_after start h) pass slot r (last_reply each_legal start h pass (begin slot) (Refused r) after.legal) in
      steady_after on start h pass (begin slot) stay snaps_stay is p new (Some (Refused r)) (ap (λ (n : State). n.pins) same) (λ s. ap (λ (n : State). open_flush n s) same)
      (λ s. ap (λ (n : State). open_shrink n s) same) (ap (λ (n : State). n.snap) same) st after

  none_begun : (call : Call) → After new start h pass call None → PlayerStands (record p { book = new }) start (with_event h pass call None)
  none_begun call after = record { book = after; pins = st.pins; jobs = st.jobs; shrinks = st.shrinks; snap = st.snap }

  pub flush_refused : BeginRefused machine.FlushBegin → (refusal : FlushRefusal) → After new start h pass (machine.FlushBegin slot) (flush_reply (Err refusal))
      → PlayerStands (record p { book = new }) start (with_event h pass (machine.FlushBegin slot) (flush_reply (Err refusal)))
  flush_refused unchanged (flushes.NotRooted s) after = begin_refused machine.FlushBegin unchanged (machine.NotRooted s) after
  flush_refused unchanged (flushes.NothingCached s) after = begin_refused machine.FlushBegin unchanged (machine.NothingCached s) after
  flush_refused unchanged (flushes.Flushing s id) after = begin_refused machine.FlushBegin unchanged (machine.Flushing s id) after
  flush_refused unchanged (flushes.Full used wanted limit) after = begin_refused machine.FlushBegin unchanged (machine.Full used wanted limit) after
  flush_refused unchanged (flushes.NoCell limit) after = begin_refused machine.FlushBegin unchanged (machine.NoCell limit) after
  flush_refused unchanged flushes.IdsSpent after = begin_refused machine.FlushBegin unchanged machine.IdsSpent after
  flush_refused unchanged flushes.NoMemory after = none_begun (machine.FlushBegin slot) after

  pub shrink_refused : BeginRefused machine.ShrinkBegin → (refusal : ShrinkRefusal) → After new start h pass (machine.ShrinkBegin slot) (shrink_reply (Err refusal))
      → PlayerStands (record p { book = new }) start (with_event h pass (machine.ShrinkBegin slot) (shrink_reply (Err refusal)))
  shrink_refused unchanged (shrinks.NoStorage s) after = begin_refused machine.ShrinkBegin unchanged (machine.NoStorage s) after
  shrink_refused unchanged (shrinks.Shrinking s id) after = begin_refused machine.ShrinkBegin unchanged (machine.Shrinking s id) after
  shrink_refused unchanged (shrinks.NothingDead s) after = begin_refused machine.ShrinkBegin unchanged (machine.NothingDead s) after
  shrink_refused unchanged (shrinks.Full used wanted limit) after = begin_refused machine.ShrinkBegin unchanged (machine.Full used wanted limit) after
  shrink_refused unchanged (shrinks.NoCell limit) after = begin_refused machine.ShrinkBegin unchanged (machine.NoCell limit) after
  shrink_refused unchanged shrinks.IdsSpent after = begin_refused machine.ShrinkBegin unchanged machine.IdsSpent after
  shrink_refused unchanged shrinks.NoMemory after = none_begun (machine.ShrinkBegin slot) after

  pub snap_refused : BeginRefused machine.SnapBegin → (refusal : SnapRefusal) → After new start h pass (machine.SnapBegin slot) (snap_reply (Err refusal))
      → PlayerStands (record p { book = new }) start (with_event h pass (machine.SnapBegin slot) (snap_reply (Err refusal)))
  snap_refused unchanged (snaps.SnapOpen s) after = begin_refused machine.SnapBegin unchanged (machine.SnapOpen s) after
  snap_refused unchanged (snaps.NotRoot s) after = begin_refused machine.SnapBegin unchanged (machine.NotRoot s) after
  snap_refused unchanged (snaps.SnapTooOld s cleaned) after = begin_refused machine.SnapBegin unchanged (machine.SnapTooOld s cleaned) after
  snap_refused unchanged (snaps.Unflushed s) after = begin_refused machine.SnapBegin unchanged (machine.Unflushed s) after
  snap_refused unchanged snaps.NoMemory after = none_begun (machine.SnapBegin slot) after
