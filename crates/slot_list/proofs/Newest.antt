-- The last version that passes is the one of the greatest slot.
use Rattle.std.proofs.Common.{◌≡◌, ℕ, suc, ◌<◌, List, [], ◌∷◌, Option, Some, None, Bool, true, false, cond, reverse, eqb, refl, ap, sym, ◌∙◌, arith, All, inl, inr}
use Rattle.std.specs.List.{find}
use Rattle.std.specs.Option.{option_or}
use mathlib.Core.List.{reverse-cons}
use Rattle.std.proofs.lemmas.Bool.{cases_Bool, eq-eqb, ne_eqb, eqb-true, false≢true}
use Rattle.std.proofs.lemmas.List.Folds.{find-append}
use Rattle.slot_list.specs.declared.Version.{Version}
use Rattle.slot_list.specs.Latest.{IsLatest}
use Rattle.slot_list.specs.Versions.{at, VersionsRise}

-- what has a version among higher ones is higher
at-higher : (low s : ℕ) (vs : List Version) (w : Version) → All (λ v. low < v.slot) vs → at s vs ≡ Some w → low < s
at-higher low s [] w higher e = absurd cc
at-higher low s (v ∷ vs) w higher e = elim (cases_Bool (eqb v.slot s)) [
  | inl same ↦ omega (arith, eqb-true v.slot s same, higher 0 v (omega arith))
  | inr differs ↦ at-higher low s vs w (λ k d lt. higher (suc k) d (omega arith)) (rw differs at e)
]

-- a lower version is the latest where it passes and no other does
IsLatest-cons : (p : ℕ → Bool) (v : Version) (vs : List Version) (r : Option Version) → All (λ w. v.slot < w.slot) vs → IsLatest p vs r → IsLatest p (v ∷ vs) (option_or r (cond (p v.slot) (Some v) None))
IsLatest-cons p v vs (Some w) higher l =
    let above : v.slot < w.slot = at-higher v.slot w.slot vs w higher l.0 in
    let apart : v.slot ≡ w.slot → ⊥ = λ e. omega arith in
    (rw (ne_eqb v.slot w.slot apart) l.0, l.1, λ s lt passes. let ne : v.slot ≡ s → ⊥ = λ e. omega arith in rw (ne_eqb v.slot s ne) (l.2 s lt passes))
IsLatest-cons p v vs None higher l = by_test (p v.slot) refl
  where
    by_test : (b : Bool) → p v.slot ≡ b → IsLatest p (v ∷ vs) (cond b (Some v) None)
    by_test true passes = (rw (eq-eqb v.slot v.slot refl) refl, passes, λ s lt t. let ne : v.slot ≡ s → ⊥ = λ e. omega arith in rw (ne_eqb v.slot s ne) (l s t))
    by_test false fails = λ s t. let ne : v.slot ≡ s → ⊥ = λ e. false≢true (sym fails ∙ ap p e ∙ t) in rw (ne_eqb v.slot s ne) (l s t)

pub IsLatest-find : (p : ℕ → Bool) (vs : List Version) → VersionsRise vs → IsLatest p vs (find (λ v. p v.slot) (reverse vs))
IsLatest-find p [] up = λ s passes. refl
IsLatest-find p (v ∷ vs) up =
    let last = find (λ (w : Version). p w.slot) in
    let e : last (reverse (v ∷ vs)) ≡ option_or (last (reverse vs)) (cond (p v.slot) (Some v) None) = ap last (reverse-cons v vs) ∙ find-append (λ (w : Version). p w.slot) (reverse vs) (v ∷ []) in
    let higher : All (λ w. v.slot < w.slot) vs = λ k d lt. up 0 (suc k) d (omega arith) (omega arith) in
    let tail : VersionsRise vs = λ i j d below lt. up (suc i) (suc j) d (omega arith) (omega arith) in
    rw e (IsLatest-cons p v vs (last (reverse vs)) higher (IsLatest-find p vs tail))
