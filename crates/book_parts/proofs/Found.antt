-- What a search in the storages of a state finds.
use Rattle.std.proofs.Common.{◌≡◌, ℕ, suc, eqb, Bool, true, false, cond, IsTrue, List, [], ◌∷◌, get_or, Contains, Some, None, find, refl, sym, ap, ◌∙◌, subst, inl, inr, arith}
use Rattle.std.proofs.lemmas.Bool.{cases_order, eqb-true}
use Rattle.std.proofs.lemmas.List.{get_or_default}
use Rattle.adb_model.specs.State.{Storage, State}
use Rattle.adb_model.specs.Storages.{storage_with}
use Rattle.adb_model.specs.Sound.{IsSound}

pub some_is : {X : Type 0} {x y : X} → Some x ≡ Some y → x ≡ y
some_is e = cc

pub none_some : {X : Type 0} {x : X} → None ≡ Some x → ⊥
none_some e = cc

module _ {X : Type 0} where
  pub contains_here : (x : X) (xs : List X) → Contains (x ∷ xs) x
  contains_here x xs = (0, omega arith, refl)

  pub contains_next : (x y : X) (xs : List X) → Contains xs y → Contains (x ∷ xs) y
  contains_next x y xs c = (suc c.0, omega (arith, c.1), c.2)

  -- what is found is in the list, and passes
  pub found : (p : X → Bool) (xs : List X) (x : X) → find p xs ≡ Some x → Contains xs x × IsTrue (p x)
  found p [] x e = absurd (none_some e)
  found p (y ∷ xs) x e = by (p y) refl (found p xs x) e
    where
      by : (b : Bool) → p y ≡ b → (find p xs ≡ Some x → Contains xs x × IsTrue (p x)) → cond b (Some y) (find p xs) ≡ Some x → Contains (y ∷ xs) x × IsTrue (p x)
      by true t later e = subst (λ z. Contains (y ∷ xs) z × IsTrue (p z)) (some_is e) (contains_here y xs, t)
      by false f later e = let rest = later e in (contains_next y x xs rest.0, rest.1)

-- storages of one id are one
pub one_of_id : (m : State) → IsSound m → (t u : Storage) → Contains m.storages t → Contains m.storages u → t.id ≡ u.id → t ≡ u
one_of_id m h t u c d e = elim (cases_order c.0 d.0) [
  | inl same ↦ sym c.2 ∙ get_or_default m.storages c.0 t u c.1 ∙ ap (λ k. get_or m.storages k u) same ∙ d.2
  | inr (inl lt) ↦ absurd (h.ids.differ c.0 d.0 t lt d.1 (ap (λ (v : Storage). v.id) c.2 ∙ e ∙ ap (λ (v : Storage). v.id) (sym d.2 ∙ get_or_default m.storages d.0 u t d.1)))
  | inr (inr gt) ↦ absurd (h.ids.differ d.0 c.0 u gt c.1 (ap (λ (v : Storage). v.id) d.2 ∙ sym e ∙ ap (λ (v : Storage). v.id) (sym c.2 ∙ get_or_default m.storages c.0 t u c.1)))
]

-- a storage that is found by its id has it
pub of_id : (m : State) (id : ℕ) (t : Storage) → storage_with m id ≡ Some t → Contains m.storages t × (t.id ≡ id)
of_id m id t e = let f = found (λ (u : Storage). eqb u.id id) m.storages t e in (f.0, eqb-true t.id id f.1)
