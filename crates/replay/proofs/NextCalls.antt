-- The calls that are left of an order: one more at the most, but for the reclaims of a clean, each of which leaves fewer crowded keys.
use Rattle.std.proofs.Common.{◌≡◌, ℕ, zero, suc, ◌+◌, ◌<◌, ◌≤◌, List, [], ◌∷◌, length, Bool, true, false, if◌then◌else◌, Option, Some, None, refl, sym, subst, arith}
use Rattle.std.specs.Option.{option_map_or}
use Rattle.std.proofs.lemmas.Option.{same_Some}
use Rattle.adb_model.specs.View.{View}
use Rattle.adb_model.specs.State as state
use Rattle.adb_model.specs.State.{State, Storage}
use Rattle.adb_model.specs.Storages.{open_flush, open_shrink}
use Rattle.adb_model.specs.Lists.{last}
use Rattle.adb_model.specs.Call as machine
use Rattle.adb_model.specs.Call.{Call, Refusal, Reply, Event, NotFlushing, NotShrinking, NotSnapping, Done, Superseded}
use Rattle.adb_model.specs.Outcome.{unless, when_found}
use Rattle.adb_model.specs.Snap.{open_snap}
use Rattle.adb_model.specs.Shrink.{is_current, installed, copy_dropped}
use Rattle.adb_model.specs.Reclaim.{keys_taken, reclaimed}
use Rattle.adb_model.specs.Cleaning.{crowded_above}
use Rattle.adb_model.specs.Step.{step}
use Rattle.adb_model.specs.History.{IsLegal}
use Rattle.adb_model.specs.Plays as plays
use Rattle.adb_model.specs.Plays.{next_call, Follow}
use Rattle.script.specs.Said.{Order, Plain, Get, Flush, Clean, Shrink, Snap, order_played}
use Rattle.replay.specs.Saved.{event_of}

-- ---- no get, no flush, no shrink and no snapshot has a third call

after_refusal : (view : View) (key : List ℕ) (o : Option Refusal) (m n : State) → next_call (plays.Get view key) (Some (unless o m (n, Done)).1) ≡ None
after_refusal view key None m n = refl
after_refusal view key (Some r) m n = refl

after_end : (slot : ℕ) (o : Option Storage) (m : State) (f : Storage → State) → next_call (plays.Flush slot) (Some (when_found o (NotFlushing slot) m (λ t. (f t, Done))).1) ≡ None
after_end slot None m f = refl
after_end slot (Some t) m f = refl

after_snap : (slot : ℕ) (o : Option state.Snap) (m : State) (f : state.Snap → State) → next_call (plays.Snap slot) (Some (when_found o (NotSnapping slot) m (λ n. (f n, Done))).1) ≡ None
after_snap slot None m f = refl
after_snap slot (Some n) m f = refl

abbrev either : Bool → State × Reply → State × Reply → State × Reply
either b in_time late = if b then in_time else late

after_shrink : (slot : ℕ) (o : Option state.Shrink) (m : State) (current : state.Shrink → Bool) (f g : state.Shrink → State)
    → next_call (plays.Shrink slot) (Some (when_found o (NotShrinking slot) m (λ h. either (current h) (f h, Done) (g h, Superseded slot h.old))).1) ≡ None
after_shrink slot None m current f g = refl
after_shrink slot (Some h) m current f g = by (current h)
  where
    by : (b : Bool) → next_call (plays.Shrink slot) (Some (either b (f h, Done) (g h, Superseded slot h.old)).1) ≡ None
    by true = refl
    by false = refl

abbrev IsLast : plays.Order → State → ℕ → Call → Type 0
IsLast order m pass call = next_call order (Some (step m pass call).1) ≡ None

unpin_ends : (view : View) (key : List ℕ) (id : ℕ) (m : State) (pass : ℕ) → IsLast (plays.Get view key) m pass (machine.Unpin id)
unpin_ends view key id m pass = after_refusal view key _ m _

flush_ends : (slot : ℕ) (m : State) (pass : ℕ) → IsLast (plays.Flush slot) m pass (machine.FlushEnd slot)
flush_ends slot m pass = after_end slot (open_flush m slot) m _

shrink_ends : (slot : ℕ) (m : State) (pass : ℕ) → IsLast (plays.Shrink slot) m pass (machine.ShrinkEnd slot)
shrink_ends slot m pass = after_shrink slot (open_shrink m slot) m (is_current m) (installed m) (copy_dropped m)

pub snap_ends : (slot : ℕ) (m : State) (pass : ℕ) → IsLast (plays.Snap slot) m pass (machine.SnapEnd slot)
snap_ends slot m pass = after_snap slot (open_snap m slot) m _

get_second : (view : View) (key : List ℕ) (r : Reply) (call : Call) → next_call (plays.Get view key) (Some r) ≡ Some call → (m : State) (pass : ℕ) → IsLast (plays.Get view key) m pass call
get_second view key machine.Done call e m pass = absurd cc
get_second view key (machine.Refused refusal) call e m pass = absurd cc
get_second view key (machine.Purged keys) call e m pass = absurd cc
get_second view key machine.NotFound call e m pass = absurd cc
get_second view key (machine.Found slot machine.Cached account) call e m pass = absurd cc
get_second view key (machine.Found slot (machine.InStorage id) account) call e m pass = subst (λ (c : Call). IsLast (plays.Get view key) m pass c) (same_Some (machine.Unpin id) call e) (unpin_ends view key id m pass)
get_second view key (machine.FlushBegun id bytes) call e m pass = absurd cc
get_second view key (machine.Raised cleaned) call e m pass = absurd cc
get_second view key (machine.Reclaimed k) call e m pass = absurd cc
get_second view key machine.NothingLeft call e m pass = absurd cc
get_second view key (machine.ShrinkBegun old new bytes) call e m pass = absurd cc
get_second view key (machine.Superseded slot old) call e m pass = absurd cc
get_second view key (machine.SnapBegun storages) call e m pass = absurd cc
get_second view key (machine.Recycled storages) call e m pass = absurd cc
get_second view key (machine.Counted counts) call e m pass = absurd cc

flush_second : (slot : ℕ) (r : Reply) (call : Call) → next_call (plays.Flush slot) (Some r) ≡ Some call → (m : State) (pass : ℕ) → IsLast (plays.Flush slot) m pass call
flush_second slot machine.Done call e m pass = absurd cc
flush_second slot (machine.Refused refusal) call e m pass = absurd cc
flush_second slot (machine.Purged keys) call e m pass = absurd cc
flush_second slot machine.NotFound call e m pass = absurd cc
flush_second slot (machine.Found s place account) call e m pass = absurd cc
flush_second slot (machine.FlushBegun id bytes) call e m pass = subst (λ (c : Call). IsLast (plays.Flush slot) m pass c) (same_Some (machine.FlushEnd slot) call e) (flush_ends slot m pass)
flush_second slot (machine.Raised cleaned) call e m pass = absurd cc
flush_second slot (machine.Reclaimed k) call e m pass = absurd cc
flush_second slot machine.NothingLeft call e m pass = absurd cc
flush_second slot (machine.ShrinkBegun old new bytes) call e m pass = absurd cc
flush_second slot (machine.Superseded s old) call e m pass = absurd cc
flush_second slot (machine.SnapBegun storages) call e m pass = absurd cc
flush_second slot (machine.Recycled storages) call e m pass = absurd cc
flush_second slot (machine.Counted counts) call e m pass = absurd cc

shrink_second : (slot : ℕ) (r : Reply) (call : Call) → next_call (plays.Shrink slot) (Some r) ≡ Some call → (m : State) (pass : ℕ) → IsLast (plays.Shrink slot) m pass call
shrink_second slot machine.Done call e m pass = absurd cc
shrink_second slot (machine.Refused refusal) call e m pass = absurd cc
shrink_second slot (machine.Purged keys) call e m pass = absurd cc
shrink_second slot machine.NotFound call e m pass = absurd cc
shrink_second slot (machine.Found s place account) call e m pass = absurd cc
shrink_second slot (machine.FlushBegun id bytes) call e m pass = absurd cc
shrink_second slot (machine.Raised cleaned) call e m pass = absurd cc
shrink_second slot (machine.Reclaimed k) call e m pass = absurd cc
shrink_second slot machine.NothingLeft call e m pass = absurd cc
shrink_second slot (machine.ShrinkBegun old new bytes) call e m pass = subst (λ (c : Call). IsLast (plays.Shrink slot) m pass c) (same_Some (machine.ShrinkEnd slot) call e) (shrink_ends slot m pass)
shrink_second slot (machine.Superseded s old) call e m pass = absurd cc
shrink_second slot (machine.SnapBegun storages) call e m pass = absurd cc
shrink_second slot (machine.Recycled storages) call e m pass = absurd cc
shrink_second slot (machine.Counted counts) call e m pass = absurd cc

-- the end of a snapshot follows its begin
pub snap_second : (slot : ℕ) (r : Reply) (call : Call) → next_call (plays.Snap slot) (Some r) ≡ Some call → (n : ℕ) × (r ≡ machine.SnapBegun n) × (machine.SnapEnd slot ≡ call)
snap_second slot machine.Done call e = absurd cc
snap_second slot (machine.Refused refusal) call e = absurd cc
snap_second slot (machine.Purged keys) call e = absurd cc
snap_second slot machine.NotFound call e = absurd cc
snap_second slot (machine.Found s place account) call e = absurd cc
snap_second slot (machine.FlushBegun id bytes) call e = absurd cc
snap_second slot (machine.Raised cleaned) call e = absurd cc
snap_second slot (machine.Reclaimed k) call e = absurd cc
snap_second slot machine.NothingLeft call e = absurd cc
snap_second slot (machine.ShrinkBegun old new bytes) call e = absurd cc
snap_second slot (machine.Superseded s old) call e = absurd cc
snap_second slot (machine.SnapBegun storages) call e = (storages, refl, same_Some (machine.SnapEnd slot) call e)
snap_second slot (machine.Recycled storages) call e = absurd cc
snap_second slot (machine.Counted counts) call e = absurd cc

-- ---- the calls of a clean

-- after the first one they are reclaims
clean_second : (upto : ℕ) (r : Reply) (call : Call) → next_call (plays.Clean upto) (Some r) ≡ Some call → (after : Option (List ℕ)) × (machine.Reclaim after 256 ≡ call)
clean_second upto machine.Done call e = absurd cc
clean_second upto (machine.Refused refusal) call e = absurd cc
clean_second upto (machine.Purged keys) call e = absurd cc
clean_second upto machine.NotFound call e = absurd cc
clean_second upto (machine.Found slot place account) call e = absurd cc
clean_second upto (machine.FlushBegun id bytes) call e = absurd cc
clean_second upto (machine.Raised cleaned) call e = (None, same_Some (machine.Reclaim None 256) call e)
clean_second upto (machine.Reclaimed key) call e = (Some key, same_Some (machine.Reclaim (Some key) 256) call e)
clean_second upto machine.NothingLeft call e = absurd cc
clean_second upto (machine.ShrinkBegun old new bytes) call e = absurd cc
clean_second upto (machine.Superseded slot old) call e = absurd cc
clean_second upto (machine.SnapBegun storages) call e = absurd cc
clean_second upto (machine.Recycled storages) call e = absurd cc
clean_second upto (machine.Counted counts) call e = absurd cc

-- the key that a reclaim told was the last one taken
key_taken : (o : Option (List ℕ)) (key : List ℕ) → option_map_or machine.Reclaimed o machine.NothingLeft ≡ machine.Reclaimed key → o ≡ Some key
key_taken None key e = absurd cc
key_taken (Some k) key e = cc

-- ---- how many calls are left at the most, by how many crowded keys are above each key

abbrev keys_for : (Option (List ℕ) → ℕ) → Call → ℕ
keys_for above (machine.Reclaim after most) = above after
keys_for above call = 0

abbrev pub calls_left : (Option (List ℕ) → ℕ) → Option Call → ℕ
calls_left above None = 0
calls_left above (Some call) = 1 + keys_for above call

-- where the call was a reclaim that took a key, fewer are above that one than were above the one that it went on from
abbrev pub Fewer : (old new : Option (List ℕ) → ℕ) → Call → Reply → Type 0
Fewer old new call reply = (after : Option (List ℕ)) (most : ℕ) (key : List ℕ) → call ≡ machine.Reclaim after most → reply ≡ machine.Reclaimed key → new (Some key) < old after

none_left : (o : Option Call) (call : Call) (old new : Option (List ℕ) → ℕ) → o ≡ None → calls_left new o < calls_left old (Some call)
none_left o call old new e = subst (λ (x : Option Call). calls_left new x < calls_left old (Some call)) (sym e) (omega arith)

reclaim_left : (upto : ℕ) (after : Option (List ℕ)) (old new : Option (List ℕ) → ℕ) (o : Option (List ℕ)) (told : Reply) → option_map_or machine.Reclaimed o machine.NothingLeft ≡ told
    → Fewer old new (machine.Reclaim after 256) told → calls_left new (next_call (plays.Clean upto) (Some told)) < calls_left old (Some (machine.Reclaim after 256))
reclaim_left upto after old new None told is fewer = subst (λ (r : Reply). calls_left new (next_call (plays.Clean upto) (Some r)) < calls_left old (Some (machine.Reclaim after 256))) is (omega arith)
reclaim_left upto after old new (Some key) told is fewer =
    let less : new (Some key) < old after = fewer after 256 key refl (sym is) in
    subst (λ (r : Reply). calls_left new (next_call (plays.Clean upto) (Some r)) < calls_left old (Some (machine.Reclaim after 256))) is (omega arith)

-- after each call fewer are left
pub fewer_calls : (order : Order) (reply : Reply) (call : Call) (m : State) (pass : ℕ) (told : Reply) (old new : Option (List ℕ) → ℕ) → next_call (order_played order) (Some reply) ≡ Some call
    → (step m pass call).1 ≡ told → Fewer old new call told → calls_left new (next_call (order_played order) (Some told)) < calls_left old (Some call)
fewer_calls (Plain first) reply call m pass told old new more is fewer = absurd cc
fewer_calls (Get view key) reply call m pass told old new more is fewer =
    none_left (next_call (plays.Get view key) (Some told)) call old new (subst (λ (r : Reply). next_call (plays.Get view key) (Some r) ≡ None) is (get_second view key reply call more m pass))
fewer_calls (Flush slot workers) reply call m pass told old new more is fewer =
    none_left (next_call (plays.Flush slot) (Some told)) call old new (subst (λ (r : Reply). next_call (plays.Flush slot) (Some r) ≡ None) is (flush_second slot reply call more m pass))
fewer_calls (Shrink slot) reply call m pass told old new more is fewer =
    none_left (next_call (plays.Shrink slot) (Some told)) call old new (subst (λ (r : Reply). next_call (plays.Shrink slot) (Some r) ≡ None) is (shrink_second slot reply call more m pass))
fewer_calls (Snap slot name) reply call m pass told old new more is fewer =
    let end = snap_second slot reply call more in
    let ends : IsLast (plays.Snap slot) m pass call = subst (λ (c : Call). IsLast (plays.Snap slot) m pass c) end.2 (snap_ends slot m pass) in
    none_left (next_call (plays.Snap slot) (Some told)) call old new (subst (λ (r : Reply). next_call (plays.Snap slot) (Some r) ≡ None) is ends)
fewer_calls (Clean upto) reply call m pass told old new more is fewer =
    let c = clean_second upto reply call more in
    let P : Call → Type 0 = λ (d : Call). (step m pass d).1 ≡ told → Fewer old new d told → calls_left new (next_call (plays.Clean upto) (Some told)) < calls_left old (Some d) in
    subst P c.1 (λ told_is less. reclaim_left upto c.0 old new (last (keys_taken m c.0 256)) told told_is less) is fewer

-- ---- the events that are left

abbrev pub FewerAbove : Type 0
FewerAbove = (m : State) (after : Option (List ℕ)) (most : ℕ) (key : List ℕ) → last (keys_taken m after most) ≡ Some key
    → length (crowded_above (reclaimed (keys_taken m after most) m) (Some key)) < length (crowded_above m after)

abbrev above : State → Option (List ℕ) → ℕ
above m after = length (crowded_above m after)

-- after this reply, all events that are left of a lane's order
pub record Rest (lane : ℕ) (order : Order) (m : State) (reply : Reply) : Type 0 where
  pub events : List Event
  pub follow : Follow (record { lane = lane; order = order_played order }) (Some reply) events
  pub legal : IsLegal m events

module _ (law : FewerAbove) (lane : ℕ) (order : Order) where
  fewer_after : (m : State) (call : Call) → Fewer (above m) (above (step m lane call).0) call (step m lane call).1
  fewer_after m call after most key is told =
      let P : Call → Type 0 = λ (d : Call). (step m lane d).1 ≡ machine.Reclaimed key → above (step m lane d).0 (Some key) < above m after in
      subst P (sym is) (λ taken. law m after most key (key_taken (last (keys_taken m after most)) key taken)) told

  abbrev IsLeft : ℕ → Type 0
  IsLeft n = (m : State) (r : Reply) → calls_left (above m) (next_call (order_played order) (Some r)) ≤ n → Rest lane order m r

  last_event : (m : State) (r : Reply) → next_call (order_played order) (Some r) ≡ None → Rest lane order m r
  last_event m r e = record { events = []; follow = e; legal = tt }

  next_event : (n : ℕ) → IsLeft n → (m : State) (r : Reply) (o : Option Call) → next_call (order_played order) (Some r) ≡ o → calls_left (above m) o ≤ suc n → Rest lane order m r
  next_event n others m r None e le = last_event m r e
  next_event n others m r (Some call) e le =
      let told = (step m lane call).1 in
      let less = fewer_calls order r call m lane told (above m) (above (step m lane call).0) e refl (fewer_after m call) in
      let rest = others (step m lane call).0 told (omega (arith, less, le)) in
      record { events = event_of lane call told ∷ rest.events; follow = (refl, e, rest.follow); legal = (refl, rest.legal) }

  left_by : (n : ℕ) → IsLeft n
  left_by zero m r le = none (next_call (order_played order) (Some r)) refl le
    where
      none : (o : Option Call) → next_call (order_played order) (Some r) ≡ o → calls_left (above m) o ≤ 0 → Rest lane order m r
      none None e le = last_event m r e
      none (Some call) e le = absurd (omega (arith, le))
  left_by (suc n) m r le = next_event n (left_by n) m r (next_call (order_played order) (Some r)) refl le

  -- each order can be played to its end
  pub rest_of : (m : State) (r : Reply) → Rest lane order m r
  rest_of m r = left_by (calls_left (above m) (next_call (order_played order) (Some r))) m r (omega arith)
