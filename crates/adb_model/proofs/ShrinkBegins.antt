-- What the begin of a shrink changes of what a state says.
use Rattle.std.proofs.Common.{◌≡◌, ◌≢◌, ℕ, ◌+◌, ◌<◌, eqb, Bool, true, false, cond, not, ◌&&◌, List, [], ◌∷◌, find, Contains, Option, Some, None, refl, sym, ap, ap₂, ◌∙◌, length-append, arith}
use Rattle.std.proofs.lemmas.Bool.{and_right, or_right, eqb-true, eq-eqb, ne_eqb}
use Rattle.std.proofs.lemmas.List.Elements.{All-contains}
use Rattle.adb_model.specs.State.{Storage, Shrink, State}
use Rattle.adb_model.specs.Storages.{is_filling, live_storage, filling_storage, open_flush, open_shrink, is_copy, pin_count}
use Rattle.adb_model.specs.Flush.{filling_with}
use Rattle.adb_model.specs.Shrink.{shrink_rows, shrinking}
use Rattle.adb_model.specs.Stats.{counts_of}
use Rattle.adb_model.specs.Sound.{IsSound}
use Rattle.adb_model.proofs.Members.{any_push, any_push_other, contains_here, contains_next}
use Rattle.adb_model.proofs.Taken.{count_push}
use Rattle.adb_model.proofs.Finds.{find_push_other, find_push_new}
use Rattle.adb_model.proofs.FlushBegins.{filling_begun}
use Rattle.adb_model.proofs.CopiedRows.{in_use, none_filling}

-- searches find the same by tests that say the same of each element
pub find_same_at : {X : Type 0} (p q : X → Bool) (xs : List X) → ((x : X) → Contains xs x → p x ≡ q x) → find p xs ≡ find q xs
find_same_at p q [] same = refl
find_same_at {X} p q (x ∷ xs) same = ap₂ (λ (b : Bool) (o : Option X). cond b (Some x) o) (same x (contains_here x xs)) (find_same_at p q xs (λ y c. same y (contains_next x y xs c)))

module _ (m : State) (old : Storage) where
  abbrev n : State
  n = shrinking m old

  abbrev new : Storage
  new = filling_with m old.slot (shrink_rows m old)

  abbrev entry : Shrink
  entry = record { slot = old.slot; old = old.id; new = m.next_id }

  -- the copy is no flush's, and no storage that was there is a copy now
  pub flush_begun : IsSound m → (s : ℕ) → open_flush n s ≡ open_flush m s
  flush_begun h s =
      find_push_other (λ u. (is_filling u && eqb u.slot s) && not (is_copy n u.id)) m.storages new (ap (λ b. eqb old.slot s && not b) copied ∙ and_right (eqb old.slot s) false refl)
      ∙ find_same_at (λ u. (is_filling u && eqb u.slot s) && not (is_copy n u.id)) (λ u. (is_filling u && eqb u.slot s) && not (is_copy m u.id)) m.storages
      (λ u c. ap (λ b. (is_filling u && eqb u.slot s) && not b) (any_push_other (λ (g : Shrink). eqb g.new u.id) m.shrinks entry (ne_eqb m.next_id u.id (older u c))))
    where
      copied : is_copy n m.next_id ≡ true
      copied = any_push (λ (g : Shrink). eqb g.new m.next_id) m.shrinks entry ∙ or_right _ _ (eq-eqb m.next_id m.next_id refl)

      older : (u : Storage) → Contains m.storages u → m.next_id ≢ u.id
      older u c e = let below : u.id < m.next_id = All-contains (λ (v : Storage). v.id < m.next_id) m.storages u h.ids.below c in omega (arith, below, e)

  shrink_opened : open_shrink m old.slot ≡ None → (s : ℕ) → open_shrink n s ≡ cond (eqb old.slot s) (Some entry) (open_shrink m s)
  shrink_opened none s = by (eqb old.slot s) refl
    where
      by : (b : Bool) → eqb old.slot s ≡ b → open_shrink n s ≡ cond b (Some entry) (open_shrink m s)
      by true e = find_push_new (λ (g : Shrink). eqb g.slot s) m.shrinks entry (ap (open_shrink m) (sym (eqb-true old.slot s e)) ∙ none) e
      by false e = find_push_other (λ (g : Shrink). eqb g.slot s) m.shrinks entry e

  pub pins_begun : (id : ℕ) → pin_count n id ≡ pin_count m id + cond (eqb old.id id) 1 0
  pins_begun id = omega (arith, count_push (λ (g : Shrink). eqb g.old id) m.shrinks entry)

  pub pins_counted : (counts_of n).pins ≡ (counts_of m).pins + 1
  pins_counted = omega (arith, length-append m.shrinks (entry ∷ []))

module _ (m : State) (slot : ℕ) (old : Storage) (e : live_storage m slot ≡ Some old) (closed : open_shrink m slot ≡ None) where
  at : old.slot ≡ slot
  at = (in_use m slot old e).at

  pub filling_copy_begun : IsSound m → (s : ℕ) → filling_storage (shrinking m old) s ≡ cond (eqb slot s) (Some (filling_with m slot (shrink_rows m old))) (filling_storage m s)
  filling_copy_begun h s =
      filling_begun m old.slot (shrink_rows m old) (ap (filling_storage m) at ∙ none_filling m h slot old e closed) s
      ∙ ap (λ (x : ℕ). cond (eqb x s) (Some (filling_with m x (shrink_rows m old))) (filling_storage m s)) at

  pub shrink_begun : (s : ℕ) → open_shrink (shrinking m old) s ≡ cond (eqb slot s) (Some (record { slot = slot; old = old.id; new = m.next_id })) (open_shrink m s)
  shrink_begun s =
      shrink_opened m old (ap (open_shrink m) at ∙ closed) s
      ∙ ap (λ (x : ℕ). cond (eqb x s) (Some (entry_of x)) (open_shrink m s)) at
    where
      entry_of : ℕ → Shrink
      entry_of x = record { slot = x; old = old.id; new = m.next_id }
