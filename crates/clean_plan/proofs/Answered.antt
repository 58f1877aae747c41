-- The last key that was taken.
use Rattle.std.proofs.Common.{◌≡◌, ℕ, zero, suc, ◌+◌, ◌-◌, List, [], ◌∷◌, length, Option, Some, None, IfSome, option_map, refl, sym, arith}
use Rattle.std.specs.Prelude.{slice_get}
use Rattle.adb_model.specs.declared.key.Key.{Key}
use Rattle.adb_model.specs.Lists.{last}
use Rattle.adb_model.specs.State.{State}
use Rattle.adb_model.specs.Reclaim.{retire_unnamed, drop_shadowed, drop_spent, reclaimed}
use Rattle.clean_plan.specs.Leaving.{bytes_of}

last_at : (keys : List Key) (n : ℕ) → length keys ≡ n + 1 → option_map (λ (k : Key). k.0) (slice_get keys n) ≡ last (bytes_of keys)
last_at [] n e = absurd (omega (arith, e))
last_at (x ∷ []) zero e = refl
last_at (x ∷ []) (suc n) e = absurd (omega (arith, e))
last_at (x ∷ (y ∷ keys)) zero e = absurd (omega (arith, e))
last_at (x ∷ (y ∷ keys)) (suc n) e = last_at (y ∷ keys) n (omega (arith, e))

pub last_is : (keys : List Key) → option_map (λ (k : Key). k.0) (slice_get keys (length keys - 1)) ≡ last (bytes_of keys)
last_is [] = refl
last_is (x ∷ keys) = last_at (x ∷ keys) (length (x ∷ keys) - 1) (omega arith)

-- what holds of the last key holds of the answer
pub of_answer : (P : List ℕ → Type 0) (answer : Option Key) (taken : List (List ℕ)) → option_map (λ (k : Key). k.0) answer ≡ last taken
    → ((key : List ℕ) → last taken ≡ Some key → P key) → IfSome answer (λ k. P k.0)
of_answer P None taken is every = tt
of_answer P (Some k) taken is every = every k.0 (sym is)

-- the keys that were looked up once are taken in both parts
pub both_taken : (first second taken : List (List ℕ)) (m : State) → first ≡ taken → second ≡ taken
    → retire_unnamed (drop_spent second (retire_unnamed (drop_shadowed first m))) ≡ reclaimed taken m
both_taken first second taken m e f = λ i. retire_unnamed (drop_spent (f i) (retire_unnamed (drop_shadowed (e i) m)))
