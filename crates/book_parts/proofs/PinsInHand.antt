-- The pins in hand after one more or one fewer.
use Rattle.std.proofs.Common.{◌≡◌, ◌↔◌, ℕ, ◌+◌, ◌<◌, eqb, Bool, true, false, cond, ◌&&◌, ◌||◌, IsTrue, IsFalse, List, [], ◌∷◌, length, count_by, refl, sym, ap, ◌∙◌, subst, inl, inr, ◌⊎◌, arith}
use Rattle.std.specs.List.{list_any}
use Rattle.std.proofs.lemmas.Bool.{true≢false, cases_Bool, or_parts, eq-eqb, false_from_ne_true}
use Rattle.std.proofs.lemmas.List.Sums.{sum_by-cons}
use Rattle.pass_pins.specs.Pins.{Pins, has_id, count_of}
use Rattle.adb_model.specs.State.{Pin, State}
use Rattle.adb_model.specs.Callers.{is_pin}
use Rattle.adb_model.specs.History.{IsPass}
use Rattle.book_parts.specs.Pins.{HoldsPins}
use Rattle.book_parts.proofs.CellSums.{one_if}

-- ---- some pass a test where they are counted

pub none_counted : {X : Type 0} (p : X → Bool) (xs : List X) → IsFalse (list_any p xs) → count_by p xs ≡ 0
none_counted p [] f = refl
none_counted {X} p (x ∷ xs) f =
    let parts = or_parts (p x) (list_any p xs) f in
    sum_by-cons (λ (y : X). cond (p y) 1 0) x xs ∙ ap (λ b. one_if b + count_by p xs) parts.0 ∙ omega (arith, none_counted p xs parts.1)

pub some_counted : {X : Type 0} (p : X → Bool) (xs : List X) → IsTrue (list_any p xs) → 0 < count_by p xs
some_counted p [] t = absurd (true≢false (sym t))
some_counted {X} p (x ∷ xs) t = by (cases_Bool (p x)) (some_counted p xs)
  where
    by : IsTrue (p x) ⊎ IsFalse (p x) → (IsTrue (list_any p xs) → 0 < count_by p xs) → 0 < count_by p (x ∷ xs)
    by (inl here) ih = omega (arith, sum_by-cons (λ (y : X). cond (p y) 1 0) x xs, ap one_if here)
    by (inr not_here) ih = omega (arith, sum_by-cons (λ (y : X). cond (p y) 1 0) x xs, ih (sym (ap (λ b. b || list_any p xs) not_here) ∙ t))

-- ---- the pins of the pass in a state, and in another one

module _ (m n : State) (in_hand after : Pins) (id : ℕ) (same : after.pass ≡ in_hand.pass) (held : HoldsPins in_hand m) where
  abbrev of_pass : Pin → Bool
  of_pass q = eqb q.pass after.pass

  abbrev here : Bool
  here = eqb after.pass after.pass

  each_before : (q : ℕ) → count_of q in_hand.pins ≡ count_by (is_pin after.pass q) m.pins
  each_before q = held.each q ∙ ap (λ (k : ℕ). count_by (is_pin k q) m.pins) (sym same)

  count_before : length in_hand.pins ≡ count_by of_pass m.pins
  count_before = held.count ∙ ap (λ (k : ℕ). count_by (λ (q : Pin). eqb q.pass k) m.pins) (sym same)

  pass_same : IsPass after.pass
  pass_same = subst (λ (k : ℕ). IsPass k) (sym same) held.pass

  is_here : here ≡ true
  is_here = eq-eqb after.pass after.pass refl

  pub held_more : ((q : ℕ) → count_of q after.pins ≡ count_of q in_hand.pins + one_if (eqb id q)) → length after.pins ≡ length in_hand.pins + 1
      → ((q : ℕ) → count_by (is_pin after.pass q) n.pins ≡ count_by (is_pin after.pass q) m.pins + one_if (here && eqb id q))
      → count_by of_pass n.pins ≡ count_by of_pass m.pins + one_if here
      → HoldsPins after n
  held_more each all each_there all_there = record {
    pass = pass_same;
    each = λ q. omega (arith, each q, each_there q, each_before q, ap (λ b. one_if (b && eqb id q)) is_here);
    count = omega (arith, all, all_there, count_before, ap one_if is_here);
  }

  pub held_fewer : ((q : ℕ) → count_of q in_hand.pins ≡ count_of q after.pins + one_if (eqb id q)) → length in_hand.pins ≡ length after.pins + 1
      → ((q : ℕ) → count_by (is_pin after.pass q) m.pins ≡ count_by (is_pin after.pass q) n.pins + one_if (here && eqb id q))
      → count_by of_pass m.pins ≡ count_by of_pass n.pins + one_if here
      → HoldsPins after n
  held_fewer each all each_there all_there = record {
    pass = pass_same;
    each = λ q. omega (arith, each q, each_there q, each_before q, ap (λ b. one_if (b && eqb id q)) is_here);
    count = omega (arith, all, all_there, count_before, ap one_if is_here);
  }

-- ---- a storage of which the pass has a pin, or none

module _ (m : State) (in_hand : Pins) (id : ℕ) (held : HoldsPins in_hand m) (is_own : (0 < count_by (is_pin in_hand.pass id) m.pins) ↔ IsTrue (list_any (is_pin in_hand.pass id) m.pins)) where
  pub own_pin : list_any (has_id id) in_hand.pins ≡ true → IsTrue (list_any (is_pin in_hand.pass id) m.pins)
  own_pin t = is_own.0 (omega (arith, held.each id, some_counted (has_id id) in_hand.pins t))

  pub no_own_pin : list_any (has_id id) in_hand.pins ≡ false → IsFalse (list_any (is_pin in_hand.pass id) m.pins)
  no_own_pin f = false_from_ne_true (list_any (is_pin in_hand.pass id) m.pins) (λ t. omega (arith, held.each id, none_counted (has_id id) in_hand.pins f, is_own.1 t))
