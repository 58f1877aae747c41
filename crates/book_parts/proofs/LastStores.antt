-- What a pair's last store answers.
use Rattle.std.proofs.Common.{◌≡◌, ℕ, List, [], ◌∷◌, Bool, true, false, cond, eqb, Option, Some, None, option_map, unwrap_or, filter, sym, refl, ap, ◌∙◌, inl, inr, ◌⊎◌, option_and_then}
use Rattle.std.specs.Option.{option_map_or}
use Rattle.std.specs.Str.{bytes_eq}
use Rattle.std.specs.Cmp.Lexicographic.{bytes_decides}
use Rattle.std.proofs.lemmas.Bool.{cases_Bool, false≢true, eqb-true, and_parts}
use Rattle.adb_model.specs.Lists.{last}
use Rattle.adb_model.specs.Account.{Account, is_tomb}
use Rattle.adb_model.specs.State.{Stored, State}
use Rattle.adb_model.specs.Load.{is_of, last_store, unless_tomb}
use Rattle.adb_model.specs.Presence.{ends_in_tomb}
use Rattle.adb_model.specs.Sound.{last_account}

last_of : {A : Type 0} (test : A → Bool) (xs : List A) (x : A) → last (filter test xs) ≡ Some x → test x ≡ true
last_of test [] x e = let h : None ≡ Some x = e in absurd cc
last_of test (y ∷ ys) x e = by (cases_Bool (test y)) (last_of test ys)
  where
    in_front : (o : Option _) → last (filter test ys) ≡ o → test y ≡ true → Some (unwrap_or o y) ≡ Some x → ((z : _) → last (filter test ys) ≡ Some z → test z ≡ true) → test x ≡ true
    in_front None is t f rest = let same : y ≡ x = cc in ap test (sym same) ∙ t
    in_front (Some z) is t f rest = let same : z ≡ x = cc in ap test (sym same) ∙ rest z is

    by : (test y ≡ true) ⊎ (test y ≡ false) → ((z : _) → last (filter test ys) ≡ Some z → test z ≡ true) → test x ≡ true
    by (inl t) rest = in_front (last (filter test ys)) refl t (sym (ap (λ b. last (cond b (y ∷ filter test ys) (filter test ys))) t) ∙ e) rest
    by (inr f) rest = rest x (sym (ap (λ b. last (cond b (y ∷ filter test ys) (filter test ys))) f) ∙ e)

module _ (m : State) (s : ℕ) (k : List ℕ) where
  -- it is of the pair
  store_pair : (t : Stored) → last_store m s k ≡ Some t → (t.slot ≡ s) × (t.key ≡ k)
  store_pair t e =
      let parts = and_parts (eqb t.slot s) (bytes_eq t.key k) (last_of (is_of s k) m.stores t e) in
      (eqb-true t.slot s parts.0, (bytes_decides t.key k).0 parts.1)

  tomb_by : (o : Option Stored) → option_map_or (λ t. is_tomb t.account) o false ≡ true → option_and_then unless_tomb o ≡ None
  tomb_by None e = absurd (false≢true e)
  tomb_by (Some t) e = ap (λ b. cond b None (Some t)) e

  -- a tomb answers nothing
  pub tomb_answers : ends_in_tomb m s k ≡ true → option_and_then unless_tomb (last_store m s k) ≡ None
  tomb_answers e = tomb_by (last_store m s k) e

  store_by : (account : Account) (o : Option Stored) → last_store m s k ≡ o → option_map_or (λ t. is_tomb t.account) o false ≡ false → option_map (λ t. t.account) o ≡ Some account
      → option_and_then unless_tomb o ≡ Some (record { slot = s; key = k; account = account })
  store_by account None is e f = absurd cc
  store_by account (Some t) is e f =
      let same : t.account ≡ account = cc in
      let pair = store_pair t is in
      ap (λ b. cond b None (Some t)) e
      ∙ ap (λ (n : ℕ). let u : Stored = record { slot = n; key = t.key; account = t.account } in Some u) pair.0
      ∙ ap (λ (q : List ℕ). let u : Stored = record { slot = s; key = q; account = t.account } in Some u) pair.1
      ∙ ap (λ (a : Account). let u : Stored = record { slot = s; key = k; account = a } in Some u) same

  -- another account answers with itself
  pub store_answers : (account : Account) → ends_in_tomb m s k ≡ false → last_account m s k ≡ Some account
      → option_and_then unless_tomb (last_store m s k) ≡ Some (record { slot = s; key = k; account = account })
  store_answers account e f = store_by account (last_store m s k) refl e f
