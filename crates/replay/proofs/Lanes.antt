-- What the lanes have in hand after a call.
use Rattle.std.proofs.Common.{◌≡◌, ◌≢◌, ℕ, ◌+◌, ◌-◌, ◌<◌, ◌==◌, eqb, true, false, List, length, get_or, set, Some, sym, ap, subst, ◌∙◌, ◌⊎◌, inl, inr, arith, count_by, slice_get}
use Rattle.std.proofs.lemmas.Bool.{cases_Bool, eqb-true, eq-eqb, true≢false}
use Rattle.std.proofs.lemmas.Option.{slice_get-get_or, slice_get_within, get_or_from_slice_get}
use Rattle.std.proofs.lemmas.List.{length-set, get_or-set_same, get_or-set_other}
use Rattle.adb_model.specs.State.{Pin, State}
use Rattle.adb_model.specs.Callers.{is_pin}
use Rattle.adb_model.specs.Call.{Event}
use Rattle.adb_model.specs.History.{state_after}
use Rattle.pass_pins.specs.Pins.{Pins}
use Rattle.book_parts.specs.Pins.{HoldsPins}
use Rattle.replay.specs.Standing.{IsLane, Lanes, LanesHold, PlayerStands}

holds_as : (p : Pins) (m n : State) → n.pins ≡ m.pins → HoldsPins p m → HoldsPins p n
holds_as p m n e h = record {
  pass = h.pass;
  each = λ id. h.each id ∙ sym (ap (λ (ps : List Pin). count_by (is_pin p.pass id) ps) e);
  count = h.count ∙ sym (ap (λ (ps : List Pin). count_by (λ q. q.pass == p.pass) ps) e);
}

-- all pins stay
pub lanes_as : (pins : List Pins) (m n : State) → n.pins ≡ m.pins → LanesHold pins m → LanesHold pins n
lanes_as pins m n e h = record {
  count = h.count;
  each = λ i p at. let old = h.each i p at in (old.0, holds_as p m n e old.1);
}

one_less : (lane : ℕ) → IsLane lane → lane - 1 + 1 ≡ lane
one_less lane is = omega (arith, is.0)

-- a lane's pins in hand are those of its pass
pub in_hand : (p : Lanes) (start : State) (h : List Event) (lane : ℕ) (q : Pins) → IsLane lane → PlayerStands p start h → q ≡ get_or p.pins (lane - 1) q
    → (q.pass ≡ lane) × HoldsPins q (state_after start h)
in_hand p start h lane q is st at =
    let within : lane - 1 < length p.pins = omega (arith, is.0, is.1, st.pins.count) in
    let got : slice_get p.pins (lane - 1) ≡ Some q = slice_get-get_or p.pins (lane - 1) q within ∙ ap (λ (x : Pins). Some x) (sym at) in
    let own = st.pins.each (lane - 1) q got in
    (own.0 ∙ one_less lane is, own.1)

-- the pins of the other lanes stay
module _ (pins : List Pins) (m n : State) (lane : ℕ) (after : Pins) (is : IsLane lane) (h : LanesHold pins m) (same : after.pass ≡ lane) (held : HoldsPins after n) where
  pub lanes_with : ((pass : ℕ) → lane ≢ pass → (id : ℕ) → count_by (is_pin pass id) n.pins ≡ count_by (is_pin pass id) m.pins)
      → ((pass : ℕ) → lane ≢ pass → count_by (λ q. q.pass == pass) n.pins ≡ count_by (λ q. q.pass == pass) m.pins)
      → LanesHold (set pins (lane - 1) after) n
  lanes_with others others_of = record {
    count = length-set pins (lane - 1) after ∙ h.count;
    each = each;
  }
    where
      each : (i : ℕ) (p : Pins) → slice_get (set pins (lane - 1) after) i ≡ Some p → (p.pass ≡ i + 1) × HoldsPins p n
      each i p at = by (cases_Bool (eqb (lane - 1) i))
        where
          within : i < length pins
          within = omega (arith, slice_get_within (set pins (lane - 1) after) i p at, length-set pins (lane - 1) after)

          got : get_or (set pins (lane - 1) after) i p ≡ p
          got = get_or_from_slice_get (set pins (lane - 1) after) i p p at

          by : (eqb (lane - 1) i ≡ true) ⊎ (eqb (lane - 1) i ≡ false) → (p.pass ≡ i + 1) × HoldsPins p n
          by (inl e) =
              let here : lane - 1 ≡ i = eqb-true (lane - 1) i e in
              let is_after : after ≡ p = sym (get_or-set_same pins i after p within) ∙ subst (λ (k : ℕ). get_or (set pins k after) i p ≡ p) here got in
              (sym (ap (λ (q : Pins). q.pass) is_after) ∙ same ∙ sym (one_less lane is) ∙ ap (λ (k : ℕ). k + 1) here, subst (λ (q : Pins). HoldsPins q n) is_after held)
          by (inr e) =
              let apart : i ≢ lane - 1 = λ there. true≢false (sym (eq-eqb (lane - 1) i (sym there)) ∙ e) in
              let was : get_or pins i p ≡ p = sym (get_or-set_other pins (lane - 1) i after p apart) ∙ got in
              let old = h.each i p (slice_get-get_or pins i p within ∙ ap (λ (x : Pins). Some x) was) in
              let other : lane ≢ p.pass = λ there. apart (omega (arith, there, old.0, one_less lane is)) in (
                old.0,
                record {
                  pass = old.1.pass;
                  each = λ id. old.1.each id ∙ sym (others p.pass other id);
                  count = old.1.count ∙ sym (others_of p.pass other);
                },
              )
