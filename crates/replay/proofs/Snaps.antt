-- The snapshot in hand after a step.
use Rattle.std.specs.List.Sorted.{IsStrictlyIncreasing}
use Rattle.std.proofs.lemmas.List.{get_or-map, length-map}
use Rattle.std.proofs.Common.{◌≡◌, ◌≢◌, ℕ, ◌+◌, ◌<◌, List, [], ◌∷◌, map, AllPairs, arith, true, false, cond, eqb, Option, Some, None, refl, sym, ap, subst, ◌∙◌}
use Rattle.std.proofs.lemmas.Bool.{eqb-true, eq-eqb, ne_eqb, true≢false}
use Rattle.std.specs.Option.{option_and_then, option_map_or}
use Rattle.adb_model.specs.State.{Snap, State}
use Rattle.adb_model.specs.Snap.{open_snap}
use Rattle.adb_model.specs.Call.{Call}
use Rattle.adb_model.specs.Step.{step}
use Rattle.adb_model.specs.History.{IsPass}
use Rattle.adb_model.specs.Sound.{IsSound}
use Rattle.vec_scan.specs.Image.{Image}
use Rattle.vec_scan.specs.Shown.{images_of}
use Rattle.book_parts.specs.Snaps.{Snapshot, IsOpenSnap, ids_of}
use Rattle.adb_model.specs.Call as machine
use Rattle.adb_model.specs.Seen.{reply_of}
use Rattle.adb_model.specs.declared.call.Reply.{Reply}
use Rattle.std.specs.Prelude.{Result, Ok, Err, IfOk}
use Rattle.std.specs.declared.alloc.AllocError.{AllocError}
use Rattle.book.specs.declared.refusals.SnapRefusal.{SnapRefusal}
use Rattle.book.specs.declared.refusals.SnapRefusal.TheVariants as refusals
use Rattle.book.specs.Replies.{snap_reply}
use Rattle.replay.specs.Standing.{SnapStands, ShowsLive, told}

-- a snapshot in hand that a step leaves open is the open one still
abbrev pub SnapsStay : Type 0
SnapsStay = (m : State) (pass : ℕ) (c : Call) (job : Snapshot) → IsSound m → IsPass pass → (step m pass c).0.snap ≡ m.snap → IsOpenSnap job m → IsOpenSnap job (step m pass c).0

pub snap_as : SnapsStay → (m : State) → IsSound m → (pass : ℕ) → IsPass pass → (c : Call) (snap : Option Snapshot) → (step m pass c).0.snap ≡ m.snap → SnapStands snap m → SnapStands snap (step m pass c).0
snap_as stay m sound pass is c None same h = same ∙ h
snap_as stay m sound pass is c (Some job) same h = stay m pass c job sound is same h

-- the one in hand is open
pub of_hand : (snap : Option Snapshot) (job : Snapshot) (m : State) → snap ≡ Some job → SnapStands snap m → IsOpenSnap job m
of_hand snap job m is h = subst (λ (s : Option Snapshot). SnapStands s m) is h

-- where the one in hand is of another slot, none of the slot is open
pub none_of_slot : (snap : Option Snapshot) (m : State) (slot : ℕ) → SnapStands snap m → ((job : Snapshot) → snap ≡ Some job → job.slot ≢ slot) → open_snap m slot ≡ None
none_of_slot None m slot h apart = ap (option_and_then (λ (n : Snap). cond (eqb n.slot slot) (Some n) None)) h
none_of_slot (Some job) m slot h apart =
    ap (option_and_then (λ (n : Snap). cond (eqb n.slot slot) (Some n) None)) h.opened
    ∙ ap (λ b. cond b (Some (record { slot = job.slot; ids = ids_of job.storages })) None) (ne_eqb job.slot slot (apart job refl))

-- where none of the slot is in hand, the one in hand is of another slot
pub of_another : (snap : Option Snapshot) (slot : ℕ) → option_map_or (λ job. eqb job.slot slot) snap false ≡ false → (job : Snapshot) → snap ≡ Some job → job.slot ≢ slot
of_another snap slot none job is same = true≢false (sym (eq-eqb job.slot slot same) ∙ sym (ap (λ (s : Option Snapshot). option_map_or (λ j. eqb j.slot slot) s false) is) ∙ none)

-- where one of the slot is in hand, the one in hand is of this slot
pub of_this : (snap : Option Snapshot) (slot : ℕ) → option_map_or (λ job. eqb job.slot slot) snap false ≡ true → (job : Snapshot) → snap ≡ Some job → job.slot ≡ slot
of_this snap slot one job is = eqb-true job.slot slot (sym (ap (λ (s : Option Snapshot). option_map_or (λ j. eqb j.slot slot) s false) is) ∙ one)

-- a begin's slot
pub slot_of : {a b : ℕ} → machine.SnapBegin a ≡ machine.SnapBegin b → a ≡ b
slot_of e = cc

-- where a snapshot was refused, none began
pub none_shown : (refusal : SnapRefusal) (r : Result Reply AllocError) (call : Call) (m : State) (snap : Option Snapshot) → told r ≡ snap_reply (Err refusal) → IfOk r (λ reply. ShowsLive call (reply_of reply) m snap)
none_shown refusal (Err e) call m snap says = tt
none_shown (refusals.SnapOpen s) (Ok reply) call m snap says = λ slot storages asked begun. let no : Some (machine.SnapBegun storages) ≡ Some (machine.Refused (machine.SnapOpen s)) = ap Some (sym begun) ∙ says in absurd cc
none_shown (refusals.NotRoot s) (Ok reply) call m snap says = λ slot storages asked begun. let no : Some (machine.SnapBegun storages) ≡ Some (machine.Refused (machine.NotRoot s)) = ap Some (sym begun) ∙ says in absurd cc
none_shown (refusals.SnapTooOld s t) (Ok reply) call m snap says = λ slot storages asked begun. let no : Some (machine.SnapBegun storages) ≡ Some (machine.Refused (machine.SnapTooOld s t)) = ap Some (sym begun) ∙ says in absurd cc
none_shown (refusals.Unflushed s) (Ok reply) call m snap says = λ slot storages asked begun. let no : Some (machine.SnapBegun storages) ≡ Some (machine.Refused (machine.Unflushed s)) = ap Some (sym begun) ∙ says in absurd cc
none_shown refusals.NoMemory (Ok reply) call m snap says = absurd cc

-- ---- the images of the one in hand

-- slots of which each is below all later ones rise
pub slots_rise : (images : List Image) → AllPairs (λ i j. i.slot < j.slot) images → IsStrictlyIncreasing (map (λ image. image.slot) images)
slots_rise [] pairs k lt = absurd (omega (arith, lt))
slots_rise (x ∷ images) pairs k lt =
    let all = x ∷ images in
    let len = length-map all (λ (i : Image). i.slot) in
    let first = get_or-map (λ (i : Image). i.slot) all k x 0 (omega (arith, lt, len)) in
    let next = get_or-map (λ (i : Image). i.slot) all (k + 1) x 0 (omega (arith, lt, len)) in
    let below = pairs k (k + 1) x (omega arith) (omega (arith, lt, len)) in
    omega (arith, first, next, below)

-- what a call shows, as it was asked
pub shown_as : (r : Result Reply AllocError) (call asked : machine.Call) (m : State) (snap : Option Snapshot) → asked ≡ call → IfOk r (λ reply. ShowsLive call (reply_of reply) m snap) → IfOk r (λ reply. ShowsLive asked (reply_of reply) m snap)
shown_as r call asked m snap same shows = subst (λ (c : machine.Call). IfOk r (λ reply. ShowsLive c (reply_of reply) m snap)) (sym same) shows
