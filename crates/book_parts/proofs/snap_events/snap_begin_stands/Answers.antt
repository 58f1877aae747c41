use Rattle.std.proofs.Common.{◌≡◌, ◌≢◌, ℕ, ◌<◌, ◌≤◌, List, [], ◌∷◌, length, true, false, Option, Some, None, IsFalse, refl, sym, ap, ◌∙◌, subst, arith}
use Rattle.std.specs.Option.{option_map_or}
use Rattle.std.proofs.lemmas.Bool.{lt-ltb, le-ltb}
use Rattle.std.proofs.lemmas.List.{length-map}
use Rattle.vec_scan.specs.Image.{Image}
use Rattle.write_cache.specs.Rows.{rows}
use Rattle.adb_model.specs.Lists.{among}
use Rattle.adb_model.specs.State.{Row, Snap, State}
use Rattle.adb_model.specs.Flush.{has_cached_key}
use Rattle.adb_model.specs.Snap.{live_ids, with_snap, first_unflushed}
use Rattle.adb_model.specs.Call.{Call, Refusal, SnapBegin, SnapBegun, SnapOpen, NotRoot, SnapTooOld, Unflushed, Refused, Reply, Event, Counts}
use Rattle.adb_model.specs.History.{state_after, IsPass}
use Rattle.adb_model.specs.Step.{step}
use Rattle.adb_model.specs.Sound.{IsSound}
use Rattle.adb_model.specs.Once.{IsOnce}
use Rattle.book_parts.specs.Parts.{Parts}
use Rattle.book_parts.specs.Reflects.{Reflects}
use Rattle.book_parts.specs.Snaps.{Snapshot, IsOpenSnap, MaySnap, ids_of}
use Rattle.book_parts.specs.Stands.{Stands, After}
use Rattle.book_parts.proofs.FlushSteps.{some_cached, none_cached}
use Rattle.book_parts.proofs.SnapSteps.{begin_is, is_old, none_is, some_of}
use Rattle.book_parts.proofs.snap_events.snap_begin_stands.Goals as goal

abbrev Refuses : State → ℕ → ℕ → Refusal → Type 0
Refuses m pass slot refusal = let refused : State × Reply = (m, Refused refusal) in step m pass (SnapBegin slot) ≡ refused

abbrev StepsOn : Type 0
StepsOn = (old new : Parts) (m0 : State) (h : List Event) (pass : ℕ) (call : Call) (reply : Reply)
    → (step (state_after m0 h) pass call).0 ≡ (step (state_after m0 h) 1 call).0
    → Stands old m0 h → (step (state_after m0 h) pass call).1 ≡ reply → Reflects new (step (state_after m0 h) pass call).0
    → After new m0 h pass call (Some reply)

-- a snapshot that is refused changes nothing
refused_stands : StepsOn → (p : Parts) (m0 : State) (h : List Event) (pass slot : ℕ) (refusal : Refusal) → Stands p m0 h → Refuses (state_after m0 h) pass slot refusal
    → After p m0 h pass (SnapBegin slot) (Some (Refused refusal))
refused_stands on p m0 h pass slot refusal st is =
    on p p m0 h pass (SnapBegin slot) (Refused refusal) refl st (ap (λ r. r.1) is) (subst (λ (r : State × Reply). Reflects p r.0) (sym is) st.parts)

some_row : (rs : List Row) → rs ≢ [] → 0 < length rs
some_row [] ne = absurd (ne refl)
some_row (r ∷ rs) ne = omega arith

-- ---- each refusal

pub returns-clause-is_open : goal.returns-clause-is_open
returns-clause-is_open c = λ p m0 h pass slot s st e.
    let m = state_after m0 h in
    let n = some_of m.snap s (sym e ∙ st.parts.snap) in
    refused_stands c.step_stands.ensures.of_any p m0 h pass slot (SnapOpen s) st
    (begin_is m pass slot (Some n.0) (among slot m.roots) (is_old m pass slot) (first_unflushed m slot) n.1 refl refl refl
    ∙ ap (λ i. let refused : State × Reply = (m, Refused (SnapOpen i)) in refused) n.2)

pub returns-clause-no_root : goal.returns-clause-no_root
returns-clause-no_root c = λ p m0 h pass slot st none unrooted.
    let m = state_after m0 h in
    refused_stands c.step_stands.ensures.of_any p m0 h pass slot (NotRoot slot) st
    (begin_is m pass slot None false (is_old m pass slot) (first_unflushed m slot) (none_is m.snap (sym none ∙ st.parts.snap))
    (ap (among slot) (sym st.parts.roots) ∙ unrooted) refl refl)

pub returns-clause-too_old : goal.returns-clause-too_old
returns-clause-too_old c = λ p m0 h pass slot st none root old.
    let m = state_after m0 h in
    let below : slot < m.cleaned = subst (λ (n : ℕ). slot < n) st.parts.cleaned old in
    refused_stands c.step_stands.ensures.of_any p m0 h pass slot (SnapTooOld slot p.cleaned) st
    (begin_is m pass slot None true true (first_unflushed m slot) (none_is m.snap (sym none ∙ st.parts.snap))
    (ap (among slot) (sym st.parts.roots) ∙ root) (lt-ltb slot m.cleaned below) refl
    ∙ sym (ap (λ i. let refused : State × Reply = (m, Refused (SnapTooOld slot i)) in refused) st.parts.cleaned))

-- a root without a cached row has no cached key
unwaited : (c : goal.After-snaps_begin) (p : Parts) (m0 : State) (h : List Event) (q : ℕ) → Stands p m0 h → rows p.cache q ≡ [] → IsFalse (has_cached_key (state_after m0 h) q)
unwaited c p m0 h q st none =
    none_cached p (state_after m0 h) q st.parts (λ t. (c.begun_flush_reflects.ensures.some p (state_after m0 h) q st.sound st.parts t).1) (ap length none)

pub returns-clause-unflushed : goal.returns-clause-unflushed
returns-clause-unflushed c = λ p m0 h pass slot r st none root new first.
    let m = state_after m0 h in
    let at_least : m.cleaned ≤ slot = subst (λ (n : ℕ). n ≤ slot) st.parts.cleaned new in
    let cached = some_cached p m r st.parts (c.rows_are_last_stores.ensures.length m r) (some_row (rows p.cache r) first.2) in
    let waits = c.snaps_begin.ensures.waits m st.sound slot r (ap (among r) (sym st.parts.roots) ∙ first.0) first.1 cached
    (λ q lt rooted. unwaited c p m0 h q st (first.3 q lt (ap (among q) st.parts.roots ∙ rooted))) in
    refused_stands c.step_stands.ensures.of_any p m0 h pass slot (Unflushed r) st
    (begin_is m pass slot None true false (Some r) (none_is m.snap (sym none ∙ st.parts.snap))
    (ap (among slot) (sym st.parts.roots) ∙ root) (le-ltb slot m.cleaned at_least) waits)

pub returns-clause-filled : goal.returns-clause-filled
returns-clause-filled c = λ p m0 h s live st e.
    let there = c.used_storage_reflects.ensures.there p (state_after m0 h) s live st.sound st.once st.parts e in
    c.used_storage_reflects.ensures.filled p live.cell there.3

-- ---- a snapshot begins

abbrev begun : State → ℕ → State × Reply
begun m slot = (with_snap m slot, SnapBegun (length (live_ids m slot)))

begins : (c : goal.After-snaps_begin) (p : Parts) (m0 : State) (h : List Event) (pass slot : ℕ) → Stands p m0 h → MaySnap p.snap p.roots p.cleaned p.cache slot
    → step (state_after m0 h) pass (SnapBegin slot) ≡ begun (state_after m0 h) slot
begins c p m0 h pass slot st may =
    let m = state_after m0 h in
    let new = may.new in
    let at_least : m.cleaned ≤ slot = subst (λ (n : ℕ). n ≤ slot) st.parts.cleaned new in
    begin_is m pass slot None true false None (none_is m.snap (sym may.closed ∙ st.parts.snap))
    (ap (among slot) (sym st.parts.roots) ∙ may.root) (le-ltb slot m.cleaned at_least)
    (c.snaps_begin.ensures.none_waits m slot (λ q rooted le. unwaited c p m0 h q st (may.flushed q le (ap (among q) st.parts.roots ∙ rooted))))

pub returns-clause-may : goal.returns-clause-may
returns-clause-may c = λ p m0 h slot images st may a.
    let m = state_after m0 h in
    let is = begins c p m0 h 1 slot st may in
    let first : IsPass 1 = (omega arith, omega arith) in
    let sound : IsSound (with_snap m slot) = subst (λ (r : State × Reply). IsSound r.0) is (c.states_are_sound.ensures.step m 1 (SnapBegin slot) first st.sound) in
    let once : IsOnce (with_snap m slot) = subst (λ (r : State × Reply). IsOnce r.0) is (c.named_pairs_stand_once.ensures.step m 1 (SnapBegin slot) st.sound st.once) in
    let few = c.pinned_storages_stand.ensures.few_counted (with_snap m slot) sound once in
    let none = ap (λ (o : Option Snap). option_map_or (λ n. length n.ids) o 0) (none_is m.snap (sym may.closed ∙ st.parts.snap)) in
    let ids = ap length (c.begun_snap_reflects.ensures.ids p m slot images st.sound st.parts a) in (
      c.begun_snap_reflects.ensures.may_pin p m slot images st.sound st.parts a,
      omega (arith, few, none, ids, length-map images (λ (i : Image). i.id), ap (λ (n : Counts). n.pins) st.parts.counts),
    )

-- the reply counts the images
told : (c : goal.After-snaps_begin) (p : Parts) (m0 : State) (h : List Event) (slot : ℕ) (images : List Image) → live_ids (state_after m0 h) slot ≡ ids_of images
    → SnapBegun (length (live_ids (state_after m0 h) slot)) ≡ SnapBegun (length images)
told c p m0 h slot images ids = ap SnapBegun (ap length ids ∙ length-map images (λ (i : Image). i.id))

pub returns-clause-done : goal.returns-clause-done
returns-clause-done c = λ p m0 h pass slot images table st may a each.
    let m = state_after m0 h in
    let new : Parts = record p { cells = table; snap = Some slot } in
    let is = begins c p m0 h pass slot st may in
    let none = none_is m.snap (sym may.closed ∙ st.parts.snap) in
    c.step_stands.ensures.of_any p new m0 h pass (SnapBegin slot) (SnapBegun (length images)) refl st
    (ap (λ r. r.1) is ∙ told c p m0 h slot images (c.begun_snap_reflects.ensures.ids p m slot images st.sound st.parts a))
    (subst (λ (r : State × Reply). Reflects new r.0) (sym is) (c.begun_snap_reflects.ensures.done p m slot images table st.sound st.parts none a each))

pub returns-clause-tied : goal.returns-clause-tied
returns-clause-tied c = λ p m0 h pass slot images st may a.
    let m = state_after m0 h in
    let job : Snapshot = record { slot = slot; storages = images } in
    let is = begins c p m0 h pass slot st may in
    let reply : Reply = SnapBegun (length images) in
    let there = c.histories_go_on.ensures.state m0 h (record { pass = pass; call = SnapBegin slot; reply = reply }) in
    subst (IsOpenSnap job) (sym (there ∙ ap (λ r. r.0) is)) (c.begun_snap_reflects.ensures.tied p m slot images st.sound st.parts a)

pub returns-clause-shows : goal.returns-clause-shows
returns-clause-shows c = λ p m0 h slot images st a. c.begun_snap_reflects.ensures.shows p (state_after m0 h) slot images st.sound st.parts a
