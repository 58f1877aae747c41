-- What a snapshot's refusals say of the machine's reply.
use Rattle.std.proofs.Common.{◌≡◌, ℕ, ◌<◌, ◌≤◌, true, false, List, Some, None, Err, sym, subst}
use Rattle.adb_model.specs.Lists.{among}
use Rattle.adb_model.specs.State.{State}
use Rattle.adb_model.specs.Call as machine
use Rattle.adb_model.specs.Call.{Event, Refused}
use Rattle.book_parts.specs.Parts.{Parts}
use Rattle.book_parts.specs.Snaps.{IsFirstUnflushed}
use Rattle.book_parts.specs.Stands.{After}
use Rattle.book.specs.declared.refusals.SnapRefusal.{SnapRefusal}
use Rattle.book.specs.declared.refusals.SnapRefusal.TheVariants as snaps
use Rattle.book.specs.Snapping.{IsWhyNotSnapped}
use Rattle.book.specs.Replies.{snap_reply}

module _ (p : Parts) (m0 : State) (h : List Event) (pass slot : ℕ) where
  -- the parts stand for the history with a snapshot that was refused so
  abbrev pub RefusedAs : machine.Refusal → Type 0
  RefusedAs refusal = After p m0 h pass (machine.SnapBegin slot) (Some (Refused refusal))

  -- and with one that was answered so
  abbrev pub Answered : SnapRefusal → Type 0
  Answered refusal = After p m0 h pass (machine.SnapBegin slot) (snap_reply (Err refusal))

  abbrev pub Open : Type 0
  Open = (s : ℕ) → p.snap ≡ Some s → RefusedAs (machine.SnapOpen s)

  abbrev pub Unrooted : Type 0
  Unrooted = p.snap ≡ None → among slot p.roots ≡ false → RefusedAs (machine.NotRoot slot)

  abbrev pub Old : Type 0
  Old = p.snap ≡ None → among slot p.roots ≡ true → slot < p.cleaned → RefusedAs (machine.SnapTooOld slot p.cleaned)

  abbrev pub Waits : Type 0
  Waits = (r : ℕ) → p.snap ≡ None → among slot p.roots ≡ true → p.cleaned ≤ slot → IsFirstUnflushed p.roots p.cache slot (Some r) → RefusedAs (machine.Unflushed r)

  pub why_stands : Open → Unrooted → Old → Waits → (r : SnapRefusal) → IsWhyNotSnapped p.snap p.roots p.cleaned p.cache slot r → Answered r
  why_stands is_open unrooted old waits (snaps.SnapOpen s) w = is_open s w
  why_stands is_open unrooted old waits (snaps.NotRoot s) w = subst (λ (n : ℕ). RefusedAs (machine.NotRoot n)) (sym w.0) (unrooted w.1 w.2)
  why_stands is_open unrooted old waits (snaps.SnapTooOld s cleaned) w =
      subst (λ (n : ℕ). RefusedAs (machine.SnapTooOld n cleaned)) (sym w.0) (subst (λ (n : ℕ). RefusedAs (machine.SnapTooOld slot n)) (sym w.1) (old w.2 w.3 w.4))
  why_stands is_open unrooted old waits (snaps.Unflushed r) w = waits r w.0 w.1 w.2 w.3
  why_stands is_open unrooted old waits snaps.NoMemory w = absurd w
