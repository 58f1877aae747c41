-- A player whose lanes have no pins in hand, and no flush, no shrink and no snapshot either.
use Rattle.std.proofs.Common.{◌≡◌, ℕ, zero, suc, ◌+◌, ◌<◌, ◌==◌, ◌&&◌, not, cond, IsFalse, List, [], ◌∷◌, ◌++◌, length, find, Some, None, refl, sym, ap, subst, ◌∙◌, ◌⊎◌, inl, inr, arith, count_by, slice_get}
use Rattle.std.specs.List.{AllByRecursion}
use Rattle.std.proofs.lemmas.Bool.{and_left}
use Rattle.std.proofs.lemmas.Option.{slice_get_within, same_Some}
use Rattle.std.proofs.lemmas.List.Elements.{All-nil, recursion_from_All}
use Rattle.adb_model.specs.State.{Pin, Shrink, Storage, State}
use Rattle.adb_model.specs.Storages.{is_filling, is_copy}
use Rattle.adb_model.specs.Call.{Event}
use Rattle.adb_model.specs.Callers.{is_pin}
use Rattle.adb_model.specs.History.{state_after}
use Rattle.pass_pins.specs.Pins.{Pins}
use Rattle.flush_plan.specs.Jobs.{Job}
use Rattle.book_parts.specs.Parts.{Parts}
use Rattle.book_parts.specs.Pins.{HoldsPins}
use Rattle.book_parts.specs.Shrinks.{Copy}
use Rattle.book_parts.specs.Stands.{Stands}
use Rattle.replay.specs.Standing.{JobsStand, ShrinksStand, PlayerStands, IsQuiet, HaveNoPins}

-- ---- no flush

none_filling : (m : State) (s : ℕ) (ts : List Storage) → AllByRecursion (λ t. IsFalse (is_filling t)) ts → find (λ t. (is_filling t && t.slot == s) && not (is_copy m t.id)) ts ≡ None
none_filling m s [] h = refl
none_filling m s (t ∷ ts) h =
    ap (λ b. cond b (Some t) (find (λ u. (is_filling u && u.slot == s) && not (is_copy m u.id)) ts)) (and_left _ _ (and_left _ _ h.0)) ∙ none_filling m s ts h.1

no_jobs : (jobs : List Job) (m : State) → jobs ≡ [] → IsQuiet m → JobsStand jobs m
no_jobs jobs m empty quiet = subst (λ (js : List Job). JobsStand js m) (sym empty) (record {
  each = λ s. none_filling m s m.storages (recursion_from_All (λ t. IsFalse (is_filling t)) m.storages quiet.filling);
  differ = λ s. omega arith;
})

no_shrinks : (copies : List Copy) (m : State) → copies ≡ [] → IsQuiet m → ShrinksStand copies m
no_shrinks copies m empty quiet = subst (λ (cs : List Copy). ShrinksStand cs m) (sym empty) (record {
  opened = record {
    each = λ s. ap (λ (hs : List Shrink). find (λ h. h.slot == s) hs) quiet.shrinks;
    differ = λ s. omega arith;
  };
  copies = All-nil _;
})

-- ---- no pins

pushed : {X : Type 0} (xs : List X) (x : X) (i : ℕ) (p : X) → slice_get (xs ++ x ∷ []) i ≡ Some p → (slice_get xs i ≡ Some p) ⊎ ((i ≡ length xs) × (p ≡ x))
pushed [] x zero p e = inr (refl, sym (same_Some x p e))
pushed [] x (suc i) p e = absurd cc
pushed (y ∷ ys) x zero p e = inl e
pushed (y ∷ ys) x (suc i) p e = elim (pushed ys x i p e) [ inl a ↦ inl a | inr b ↦ inr (ap suc b.0, b.1) ]

-- the first so many lanes have no pins in hand
pub record FirstHaveNone (lanes : ℕ) (pins : List Pins) : Type 0 where
  pub count : length pins ≡ lanes
  pub each : (i : ℕ) (p : Pins) → slice_get pins i ≡ Some p → p ≡ record { pass = i + 1; pins = [] }

pub none_pushed : (n : ℕ) (pins : List Pins) (x : Pins) → FirstHaveNone n pins → x ≡ record { pass = n + 1; pins = [] } → FirstHaveNone (n + 1) (pins ++ x ∷ [])
none_pushed n pins x h is = record {
  count = length_pushed pins x ∙ ap (λ k. k + 1) h.count;
  each = λ i p at. elim (pushed pins x i p at) [
    | inl old ↦ h.each i p old
    | inr new ↦ new.1 ∙ is ∙ ap (λ (k : ℕ). record { pass = k + 1; pins = [] }) (sym (new.0 ∙ h.count))
  ];
}
  where
    length_pushed : {X : Type 0} (xs : List X) (x : X) → length (xs ++ x ∷ []) ≡ length xs + 1
    length_pushed [] x = refl
    length_pushed (y ∷ ys) x = ap suc (length_pushed ys x) ∙ omega arith

no_pins : (m : State) (i : ℕ) (p : Pins) → m.pins ≡ [] → i < 64 → p ≡ record { pass = i + 1; pins = [] } → (p.pass ≡ i + 1) × HoldsPins p m
no_pins m i p quiet lt is =
    let P : Pins → Type 0 = λ q. (q.pass ≡ i + 1) × HoldsPins q m in
    subst P (sym is) (
      refl,
      record {
        pass = (omega arith, omega arith);
        each = λ id. sym (ap (λ (ps : List Pin). count_by (is_pin (i + 1) id) ps) quiet);
        count = sym (ap (λ (ps : List Pin). count_by (λ q. q.pass == i + 1) ps) quiet);
      },
    )

-- a book in whose state nobody has anything pinned, and no flush, shrink or snapshot is open
pub unpinned_stands : (b : Parts) (pins : List Pins) (jobs : List Job) (copies : List Copy) (start : State) (h : List Event) → HaveNoPins pins → jobs ≡ [] → copies ≡ [] → Stands b start h → IsQuiet (state_after start h)
    → PlayerStands (record { book = b; pins = pins; jobs = jobs; shrinks = copies; snap = None }) start h
unpinned_stands b pins jobs copies start h none empty bare st quiet = record {
  book = st;
  pins = record {
    count = none.count;
    each = λ i p at. no_pins (state_after start h) i p quiet.pins (omega (arith, slice_get_within pins i p at, none.count)) (none.each i p at);
  };
  jobs = no_jobs jobs (state_after start h) empty quiet;
  shrinks = no_shrinks copies (state_after start h) bare quiet;
  snap = quiet.snap;
}

pub none_first : (pins : List Pins) → pins ≡ [] → FirstHaveNone 0 pins
none_first pins is = subst (λ (ps : List Pins). FirstHaveNone 0 ps) (sym is) (record { count = refl; each = λ i p at. absurd cc })

pub all_have_none : (n : ℕ) (pins : List Pins) → n ≡ 64 → FirstHaveNone n pins → HaveNoPins pins
all_have_none n pins is h = record { count = h.count ∙ is; each = h.each }
