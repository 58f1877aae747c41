-- The shrinks in hand after a step: all of them, one more, and one fewer.
use Rattle.std.proofs.Common.{◌≡◌, ℕ, ◌<◌, ◌⊎◌, List, [], ◌∷◌, ◌++◌, length, true, false, cond, eqb, Option, Some, None, position, sym, ap, ◌∙◌, subst, inl, inr, slice_get}
use Rattle.std.specs.List.{All, remove}
use Rattle.std.proofs.lemmas.Bool.{cases_Bool, eqb-true, eq-eqb, true≢false}
use Rattle.std.proofs.lemmas.Option.{slice_get_within, get_or_from_slice_get}
use Rattle.std.proofs.lemmas.List.Elements.{All-weaker, All-push, All-get_or, All-from_recursion, recursion_from_All}
use Rattle.adb_model.specs.State.{Shrink, State}
use Rattle.adb_model.specs.Storages.{open_shrink}
use Rattle.adb_model.specs.Call.{Call}
use Rattle.adb_model.specs.Step.{step}
use Rattle.adb_model.specs.History.{IsPass}
use Rattle.adb_model.specs.Sound.{IsSound}
use Rattle.book_parts.specs.Shrinks.{Copy, shrink_of, IsOpenCopy}
use Rattle.replay.specs.Standing.{is_shrink_of, ShrinksStand}
use Rattle.replay.proofs.InHand.{open_as, one_more, one_fewer, none_left, each_left, each_apart}

-- a shrink in hand that a step leaves open is the open one still
abbrev pub CopiesStay : Type 0
CopiesStay = (m : State) (pass : ℕ) (c : Call) (copy : Copy) → IsSound m → IsPass pass → open_shrink (step m pass c).0 copy.slot ≡ open_shrink m copy.slot → IsOpenCopy copy m → IsOpenCopy copy (step m pass c).0

some_is_not_none : {X : Type 0} (o : Option X) (x : X) → o ≡ Some x → o ≡ None → ⊥
some_is_not_none None x e f = absurd cc
some_is_not_none (Some y) x e f = absurd cc

module _ (stay : CopiesStay) (m : State) (sound : IsSound m) (pass : ℕ) (is : IsPass pass) (c : Call) (copies : List Copy) (h : ShrinksStand copies m) where
  abbrev after : State
  after = (step m pass c).0

  abbrev slot_of : Copy → ℕ
  slot_of copy = copy.slot

  abbrev IsOpen : State → Copy → Type 0
  IsOpen n copy = IsOpenCopy copy n

  pub shrinks_as : ((s : ℕ) → open_shrink after s ≡ open_shrink m s) → ShrinksStand copies after
  shrinks_as same = record {
    opened = open_as slot_of shrink_of copies (open_shrink m) (open_shrink after) same h.opened;
    copies = All-weaker (IsOpen m) (IsOpen after) (λ copy o. stay m pass c copy sound is (same copy.slot) o) copies h.copies;
  }

  pub one_shrink_more : (copy : Copy) → open_shrink m copy.slot ≡ None → IsOpenCopy copy after → ((s : ℕ) → eqb copy.slot s ≡ false → open_shrink after s ≡ open_shrink m s)
      → ShrinksStand (copies ++ copy ∷ []) after
  one_shrink_more copy before now others = record {
    opened = one_more slot_of shrink_of copies (open_shrink m) h.opened copy (open_shrink after) before now.opened others;
    copies = All-push (IsOpen after) copies copy
        (All-weaker (IsOpen m) (IsOpen after) (λ other o. stay m pass c other sound is (others other.slot (apart other o)) o) copies h.copies) now;
  }
    where
      apart : (other : Copy) → IsOpenCopy other m → eqb copy.slot other.slot ≡ false
      apart other o = elim (cases_Bool (eqb copy.slot other.slot)) [
        | inl same ↦ absurd (some_is_not_none (open_shrink m other.slot) (shrink_of other) o.opened (ap (open_shrink m) (sym (eqb-true copy.slot other.slot same)) ∙ before))
        | inr not_same ↦ not_same
      ]

  pub one_shrink_fewer : (slot place : ℕ) → position (is_shrink_of slot) copies ≡ Some place → (copy : Copy) → slice_get copies place ≡ Some copy
      → ((s : ℕ) → open_shrink after s ≡ (cond (eqb slot s) None (open_shrink m s))) → ShrinksStand (remove copies place) after
  one_shrink_fewer slot place at copy got leaves = record {
    opened = one_fewer slot_of shrink_of copies (open_shrink m) h.opened slot place at copy got (open_shrink after) leaves;
    copies = All-from_recursion (IsOpen after) (remove copies place)
        (each_apart (IsOpen m) (IsOpen after) (is_shrink_of slot) on (remove copies place) (none_left slot_of shrink_of copies (open_shrink m) h.opened slot place at copy got)
        (each_left (IsOpen m) copies place (slice_get_within copies place copy got) (recursion_from_All (IsOpen m) copies h.copies)));
  }
    where
      on : (other : Copy) → is_shrink_of slot other ≡ false → IsOpenCopy other m → IsOpenCopy other after
      on other apart o = stay m pass c other sound is (leaves other.slot ∙ ap (λ b. cond b None (open_shrink m other.slot)) (turned other.slot apart)) o
        where
          turned : (s : ℕ) → eqb s slot ≡ false → eqb slot s ≡ false
          turned s apart = elim (cases_Bool (eqb slot s)) [
            | inl same ↦ absurd (true≢false (sym (eq-eqb s slot (sym (eqb-true slot s same))) ∙ apart))
            | inr not_same ↦ not_same
          ]

-- the one in hand at a place is open
pub shrink_at : (copies : List Copy) (m : State) → ShrinksStand copies m → (place : ℕ) (copy : Copy) → slice_get copies place ≡ Some copy → IsOpenCopy copy m
shrink_at copies m h place copy got =
    subst (λ (c : Copy). IsOpenCopy c m) (get_or_from_slice_get copies place copy copy got) (All-get_or (λ c. IsOpenCopy c m) copies place copy (slice_get_within copies place copy got) h.copies)
