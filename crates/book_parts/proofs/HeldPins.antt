-- The pins of a pass.
use Rattle.std.proofs.Common.{◌≡◌, ℕ, ◌+◌, List, [], ◌∷◌, Bool, true, false, cond, eqb, ◌&&◌, count_by, refl, sym, ap, ◌∙◌, inl, inr, ◌⊎◌, arith, zero-add}
use Rattle.std.proofs.lemmas.Bool.{cases_Bool}
use Rattle.std.proofs.lemmas.List.Sums.{sum_by-cons}
use Rattle.pass_pins.specs.Pins.{Pins}
use Rattle.adb_model.specs.State.{Pin, State}
use Rattle.adb_model.specs.Callers.{is_pin}
use Rattle.adb_model.specs.History.{IsPass}
use Rattle.book_parts.specs.Pins.{HoldsPins}

abbrev of_pass : ℕ → Pin → Bool
of_pass pass p = eqb p.pass pass

count_cons : (test : Pin → Bool) (p : Pin) (ps : List Pin) (b : Bool) → test p ≡ b → count_by test (p ∷ ps) ≡ cond b 1 0 + count_by test ps
count_cons test p ps b e = sum_by-cons (λ q. cond (test q) 1 0) p ps ∙ ap (λ c. cond c 1 0 + count_by test ps) e

-- of a pass without pins, no id has one
none_of_id : (pass id : ℕ) (ps : List Pin) → count_by (of_pass pass) ps ≡ 0 → count_by (is_pin pass id) ps ≡ 0
none_of_id pass id [] none = refl
none_of_id pass id (p ∷ ps) none = by (cases_Bool (of_pass pass p)) (none_of_id pass id ps)
  where
    by : (of_pass pass p ≡ true) ⊎ (of_pass pass p ≡ false) → (count_by (of_pass pass) ps ≡ 0 → count_by (is_pin pass id) ps ≡ 0) → count_by (is_pin pass id) (p ∷ ps) ≡ 0
    by (inl t) rest = let h = count_cons (of_pass pass) p ps true t in absurd (omega (arith, h, none))
    by (inr f) rest =
        let h = count_cons (of_pass pass) p ps false f in
        let few : count_by (of_pass pass) ps ≡ 0 = omega (arith, h, none) in
        count_cons (is_pin pass id) p ps false (ap (λ b. b && eqb p.id id) f) ∙ zero-add (count_by (is_pin pass id) ps) ∙ rest few

pub new_held : (m : State) (pass : ℕ) → IsPass pass → count_by (λ p. eqb p.pass pass) m.pins ≡ 0 → HoldsPins (record { pass = pass; pins = [] }) m
new_held m pass is none = record { pass = is; each = λ id. sym (none_of_id pass id m.pins none); count = sym none }

pub still_held : (pins : Pins) (m n : State) → n.pins ≡ m.pins → HoldsPins pins m → HoldsPins pins n
still_held pins m n same held = record {
  pass = held.pass;
  each = λ id. held.each id ∙ ap (count_by (is_pin pins.pass id)) (sym same);
  count = held.count ∙ ap (count_by (of_pass pins.pass)) (sym same);
}
