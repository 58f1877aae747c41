-- A lease keeps its views from being too old.
use Rattle.std.proofs.Common.{◌≡◌, ℕ, ◌≤◌, ltb, leb, eqb, Bool, true, false, IsFalse, List, [], ◌∷◌, Contains, Option, Some, None, count_by, arith}
use Rattle.std.proofs.lemmas.Bool.{le-ltb}
use Rattle.std.proofs.lemmas.List.Elements.{All-contains}
use Rattle.adb_model.specs.View.{View}
use Rattle.adb_model.specs.State.{Stored, Lease, State}
use Rattle.adb_model.specs.Load.{answer}
use Rattle.adb_model.specs.Call.{ViewTooOld, TooManyPins, Refused}
use Rattle.adb_model.specs.Outcome.{unless, refused_if, first_of}
use Rattle.adb_model.specs.Callers.{found, load_step}
use Rattle.adb_model.specs.History.{IsPass}
use Rattle.adb_model.specs.Sound.{IsSound}

not_found_old : (m : State) (pass : ℕ) (o : Option Stored) (a b : ℕ) → (found m pass o).1 ≡ Refused (ViewTooOld a b) → ⊥
not_found_old m pass None a b e = cc
not_found_old m pass (Some t) a b e = cc

not_old : (m : State) (pass : ℕ) (o : Option Stored) (test many : Bool) (a b c d : ℕ) → IsFalse test → (unless (first_of (refused_if test (ViewTooOld c d) ∷ refused_if many (TooManyPins 64) ∷ [])) m (found m pass o)).1 ≡ Refused (ViewTooOld a b) → ⊥
not_old m pass o true many a b c d f e = absurd cc
not_old m pass o false true a b c d f e = cc
not_old m pass o false false a b c d f e = not_found_old m pass o a b e

pub leased_load : (m : State) → IsSound m → (l : Lease) → Contains m.leases l → (pass : ℕ) (view : View) (key : List ℕ) → l.max_root ≤ view.max_root → (a b : ℕ) → (load_step m pass view key).1 ≡ Refused (ViewTooOld a b) → ⊥
leased_load m h l c pass view key le a b e =
    let fits = All-contains (λ (g : Lease). IsPass g.pass × (m.cleaned ≤ g.max_root)) m.leases l h.limits.leases c in
    not_old m pass (answer m view key) (ltb view.max_root m.cleaned) (leb 64 (count_by (λ p. eqb p.pass pass) m.pins)) a b view.max_root m.cleaned (le-ltb view.max_root m.cleaned (omega (arith, fits.1))) e
