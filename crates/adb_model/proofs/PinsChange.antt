-- A change of the pins.
use Rattle.std.proofs.Common.{◌≡◌, ℕ, ◌<◌, ◌≤◌, eqb, leb, Bool, true, false, cond, not, ◌&&◌, IsTrue, IsFalse, List, [], ◌∷◌, ◌++◌, All, count_by, Option, Some, None, refl, sym, ◌∙◌, subst, inl, inr, arith}
use Rattle.std.specs.Option.{option_map_or}
use Rattle.std.proofs.lemmas.Bool.{cases_Bool, and_parts, and_from, leb-false, eqb-true, not_from_false, eq-eqb}
use Rattle.std.proofs.lemmas.List.Elements.{All-push}
use Rattle.adb_model.specs.Lists.{without_last}
use Rattle.adb_model.specs.View.{View}
use Rattle.adb_model.specs.State.{Stored, Pin, Phase, Filling, Live, Retired, Storage, State}
use Rattle.adb_model.specs.Load.{answer}
use Rattle.adb_model.specs.Presence.{is_live, is_live_phase, is_named}
use Rattle.adb_model.specs.Storages.{is_filling, is_filling_phase, live_storage}
use Rattle.adb_model.specs.Call.{Place, Cached, InStorage, TooManyPins}
use Rattle.adb_model.specs.Callers.{place_of, pinned, found, load_refusals, load_step, unpin_step}
use Rattle.adb_model.specs.History.{IsPass}
use Rattle.adb_model.specs.Sound.{IsSound, is_settled}
use Rattle.adb_model.proofs.Members as members
use Rattle.adb_model.proofs.Outcomes.{through_unless, not_refused, none_of}
use Rattle.adb_model.proofs.Taken.{All-without_last, count-without_last, count_push_yes, count_push_no}

pins_of : ℕ → List Pin → ℕ
pins_of pass pins = count_by (λ p. eqb p.pass pass) pins

abbrev pub with_pins : State → List Pin → State
with_pins m pins = record m { pins = pins }

-- the pins are of passes and of filled storages, and none has too many
pub record PinsFit (m : State) (pins : List Pin) : Type 0 where
  pub passes : All (λ p. IsPass p.pass) pins
  pub few : (pass : ℕ) → count_by (λ p. eqb p.pass pass) pins ≤ 64
  pub settled : All (λ p. IsTrue (is_settled m p.id)) pins

pub pins_changed : (m : State) (pins : List Pin) → PinsFit m pins → IsSound m → IsSound (with_pins m pins)
pins_changed m pins fits h = record {
  limits = record {
    roots = h.limits.roots;
    cleaned = h.limits.cleaned;
    leases = h.limits.leases;
    passes = fits.passes;
    pins = fits.few;
    bytes = h.limits.bytes;
    count = h.limits.count;
  };
  slots = h.slots;
  ids = record {
    differ = h.ids.differ;
    below = h.ids.below;
    one_shrink = h.ids.one_shrink;
    shrinks = h.ids.shrinks;
    pins = fits.settled;
    snap = h.ids.snap;
  };
  rows = h.rows;
  names = h.names;
  copies = h.copies;
  gone = h.gone;
}

live_filled : (t : Storage) → IsTrue (is_live t) → IsFalse (is_filling t)
live_filled t live = by t.phase live
  where
    by : (p : Phase) → IsTrue (is_live_phase p) → IsFalse (is_filling_phase p)
    by Live live = refl
    by Filling live = absurd cc
    by Retired live = refl

-- a storage that is found by its slot is filled
pub live_settled : (m : State) (s : ℕ) (t : Storage) → live_storage m s ≡ Some t → IsTrue (is_settled m t.id)
live_settled m s t e =
    let f = members.found (λ u. is_live u && eqb u.slot s) m.storages t e in
    let live = (and_parts (is_live t) (eqb t.slot s) f.1).0 in
    members.any_at (λ u. eqb u.id t.id && not (is_filling u)) m.storages t f.0
    (and_from (eqb t.id t.id) (not (is_filling t)) (eq-eqb t.id t.id refl) (not_from_false (is_filling t) (live_filled t live)))

-- a place names a filled storage
PlaceFits : State → Place → Type 0
PlaceFits m Cached = Unit {0}
PlaceFits m (InStorage id) = IsTrue (is_settled m id)

place_fits : (m : State) (s : ℕ) (k : List ℕ) → PlaceFits m (place_of m s k)
unfolding PlaceFits
place_fits m s k = by (is_named m s k) (live_storage m s) refl
  where
    by : (b : Bool) (o : Option Storage) → live_storage m s ≡ o → PlaceFits m (cond b (option_map_or (λ t. InStorage t.id) o Cached) Cached)
    by true None e = tt
    by true (Some t) e = live_settled m s t e
    by false o e = tt

few_after : (m : State) (pass : ℕ) (pin : Pin) → pin.pass ≡ pass → count_by (λ p. eqb p.pass pass) m.pins < 64 → ((q : ℕ) → count_by (λ p. eqb p.pass q) m.pins ≤ 64) → (q : ℕ) → count_by (λ p. eqb p.pass q) (m.pins ++ pin ∷ []) ≤ 64
few_after m pass pin of few all q =
    elim (cases_Bool (eqb pin.pass q)) [
      | inl t ↦
          let same : count_by (λ p. eqb p.pass q) m.pins < 64 = subst (λ (n : ℕ). count_by (λ p. eqb p.pass n) m.pins < 64) (sym of ∙ eqb-true pin.pass q t) few in
          omega (arith, count_push_yes (λ (p : Pin). eqb p.pass q) m.pins pin t)
      | inr f ↦ omega (arith, count_push_no (λ (p : Pin). eqb p.pass q) m.pins pin f, all q)
    ]

pinned_keeps : (m : State) (pass : ℕ) (place : Place) → IsPass pass → count_by (λ p. eqb p.pass pass) m.pins < 64 → PlaceFits m place → IsSound m → IsSound (pinned m pass place)
unfolding PlaceFits
pinned_keeps m pass Cached is few fits h = h
pinned_keeps m pass (InStorage id) is few fits h =
    let pin : Pin = record { pass = pass; id = id } in
    pins_changed m (m.pins ++ pin ∷ []) (record {
      passes = All-push (λ p. IsPass p.pass) m.pins pin h.limits.passes is;
      few = few_after m pass pin refl few h.limits.pins;
      settled = All-push (λ p. IsTrue (is_settled m p.id)) m.pins pin h.ids.pins fits;
    }) h

found_keeps : (m : State) (pass : ℕ) (o : Option Stored) → IsPass pass → count_by (λ p. eqb p.pass pass) m.pins < 64 → IsSound m → IsSound (found m pass o).0
found_keeps m pass None is few h = h
found_keeps m pass (Some t) is few h = pinned_keeps m pass (place_of m t.slot t.key) is few (place_fits m t.slot t.key) h

pub load_keeps : (m : State) (pass : ℕ) (view : View) (key : List ℕ) → IsPass pass → IsSound m → IsSound (load_step m pass view key).0
load_keeps m pass view key is h =
    through_unless IsSound _ m _ h (λ free.
    let few = not_refused (leb 64 (count_by (λ p. eqb p.pass pass) m.pins)) (TooManyPins 64) (none_of (load_refusals m pass view) free).1.0 in
    found_keeps m pass (answer m view key) is (leb-false 64 _ few) h)

pub unpin_keeps : (m : State) (pass id : ℕ) → IsSound m → IsSound (unpin_step m pass id).0
unpin_keeps m pass id h =
    let test : Pin → Bool = λ p. eqb p.pass pass && eqb p.id id in
    through_unless IsSound _ m _ h (λ free.
    pins_changed m (without_last test m.pins) (record {
      passes = All-without_last test (λ p. IsPass p.pass) m.pins h.limits.passes;
      few = λ q. omega (arith, count-without_last test (λ (p : Pin). eqb p.pass q) m.pins, h.limits.pins q);
      settled = All-without_last test (λ p. IsTrue (is_settled m p.id)) m.pins h.ids.pins;
    }) h)
