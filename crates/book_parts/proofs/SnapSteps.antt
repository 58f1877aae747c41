-- What the machine does where a snapshot is to begin or to end.
use Rattle.std.proofs.Common.{◌≡◌, ℕ, List, [], ◌∷◌, Bool, nat_lt, not, length, Option, Some, None, option_map, refl, sym, ap, ◌∙◌}
use Rattle.adb_model.specs.Lists.{among}
use Rattle.adb_model.specs.State.{Snap, State}
use Rattle.adb_model.specs.Snap.{live_ids, with_snap, first_unflushed}
use Rattle.adb_model.specs.Outcome.{unless, refused_if, first_of}
use Rattle.adb_model.specs.Call.{Refusal, SnapOpen, NotRoot, SnapTooOld, Unflushed, SnapBegin, SnapBegun, Reply}
use Rattle.adb_model.specs.Step.{step}
use Rattle.book_parts.proofs.Found.{some_is, none_some}

module _ (m : State) (pass slot : ℕ) where
  -- the refusals, by what they ask
  abbrev asked : Option Snap → Bool → Bool → Option ℕ → List (Option Refusal)
  asked other root old waits =
      option_map (λ n. SnapOpen n.slot) other
      ∷ refused_if (not root) (NotRoot slot)
      ∷ refused_if old (SnapTooOld slot m.cleaned)
      ∷ option_map Unflushed waits
      ∷ []

  abbrev begun_step : List (Option Refusal) → State × Reply
  begun_step refusals = unless (first_of refusals) m (with_snap m slot, SnapBegun (length (live_ids m slot)))

  abbrev pub is_old : Bool
  is_old = nat_lt slot m.cleaned

  pub begin_is : (o : Option Snap) (a b : Bool) (w : Option ℕ) → m.snap ≡ o → among slot m.roots ≡ a → is_old ≡ b → first_unflushed m slot ≡ w
      → step m pass (SnapBegin slot) ≡ begun_step (asked o a b w)
  begin_is o a b w eo ea eb ew =
      ap (λ x. begun_step (asked x (among slot m.roots) is_old (first_unflushed m slot))) eo
      ∙ ap (λ x. begun_step (asked o x is_old (first_unflushed m slot))) ea
      ∙ ap (λ x. begun_step (asked o a x (first_unflushed m slot))) eb
      ∙ ap (λ x. begun_step (asked o a b x)) ew

-- what the slot of a snapshot tells of it
pub none_is : (o : Option Snap) → None ≡ option_map (λ n. n.slot) o → o ≡ None
none_is None e = refl
none_is (Some n) e = absurd (none_some e)

pub some_of : (o : Option Snap) (s : ℕ) → Some s ≡ option_map (λ n. n.slot) o → (n : Snap) × (o ≡ Some n) × (n.slot ≡ s)
some_of None s e = absurd (none_some (sym e))
some_of (Some n) s e = (n, refl, sym (some_is e))
