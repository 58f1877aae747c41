-- An answer is a store of its key.
use Rattle.std.proofs.Common.{◌≡◌, ℕ, eqb, true, false, cond, Bool, List, [], ◌∷◌, Option, Some, None, unwrap_or, filter, refl, sym, ap, subst, ◌∙◌, inl, inr, ◌⊎◌}
use Rattle.std.specs.Option.{option_and_then}
use Rattle.std.specs.Str.{bytes_eq}
use Rattle.std.specs.Cmp.Lexicographic.{bytes_decides}
use Rattle.std.proofs.lemmas.Bool.{cases_Bool, and_parts}
use Rattle.adb_model.specs.Lists.{last}
use Rattle.adb_model.specs.Account.{is_tomb}
use Rattle.adb_model.specs.View.{View}
use Rattle.adb_model.specs.State.{Stored, State}
use Rattle.adb_model.specs.Load.{is_of, last_store, latest, unless_tomb, answer}

last_passes : (p : Stored → Bool) (xs : List Stored) (t : Stored) → last (filter p xs) ≡ Some t → p t ≡ true
last_passes p [] t is = let h : None ≡ Some t = is in absurd cc
last_passes p (x ∷ xs) t is = by (cases_Bool (p x)) (last_passes p xs)
  where
    at_last : (o : Option Stored) → last (filter p xs) ≡ o → p x ≡ true → Some (unwrap_or o x) ≡ Some t → ((u : Stored) → last (filter p xs) ≡ Some u → p u ≡ true) → p t ≡ true
    at_last None e yes_x same rest = let one : x ≡ t = cc in subst (λ (u : Stored). p u ≡ true) one yes_x
    at_last (Some u) e yes_x same rest = let one : u ≡ t = cc in subst (λ (v : Stored). p v ≡ true) one (rest u e)

    by : (p x ≡ true) ⊎ (p x ≡ false) → ((u : Stored) → last (filter p xs) ≡ Some u → p u ≡ true) → p t ≡ true
    by (inl here) rest = at_last (last (filter p xs)) refl here (sym (ap (λ b. last (cond b (x ∷ filter p xs) (filter p xs))) here) ∙ is) rest
    by (inr other) rest = rest t (sym (ap (λ b. last (cond b (x ∷ filter p xs) (filter p xs))) other) ∙ is)

store_of : (m : State) (key : List ℕ) (o : Option ℕ) (t : Stored) → option_and_then (λ s. last_store m s key) o ≡ Some t → t.key ≡ key
store_of m key None t is = let h : None ≡ Some t = is in absurd cc
store_of m key (Some s) t is = (bytes_decides t.key key).0 (and_parts (eqb t.slot s) (bytes_eq t.key key) (last_passes (is_of s key) m.stores t is)).1

not_dropped : (o : Option Stored) (t : Stored) → option_and_then unless_tomb o ≡ Some t → o ≡ Some t
not_dropped None t is = let h : None ≡ Some t = is in absurd cc
not_dropped (Some u) t is = by (cases_Bool (is_tomb u.account))
  where
    by : (is_tomb u.account ≡ true) ⊎ (is_tomb u.account ≡ false) → Some u ≡ Some t
    by (inl tomb) = let h : None ≡ Some t = sym (ap (λ b. cond b None (Some u)) tomb) ∙ is in absurd cc
    by (inr whole) = sym (ap (λ b. cond b None (Some u)) whole) ∙ is

pub answer_key : (m : State) (v : View) (key : List ℕ) (t : Stored) → answer m v key ≡ Some t → t.key ≡ key
answer_key m v key t is = store_of m key _ t (not_dropped (latest m v key) t is)
