-- The last store of a pair.
use Rattle.std.proofs.Common.{◌≡◌, ℕ, eqb, Bool, true, false, cond, ◌&&◌, ◌||◌, not, IsTrue, List, [], ◌∷◌, Contains, Option, Some, None, filter, refl, sym, ap, ◌∙◌, subst}
use Rattle.std.specs.List.{list_any}
use Rattle.std.specs.Option.{is_some}
use Rattle.std.specs.Str.{bytes_eq}
use Rattle.std.proofs.lemmas.Bool.{and_parts, and_from, true≢false, eqb-true, eq-eqb, ne_eqb, not_from_true, not_from_false}
use Rattle.adb_model.specs.Lists.{last}
use Rattle.adb_model.specs.Account.{Account}
use Rattle.adb_model.specs.State.{Stored, State}
use Rattle.adb_model.specs.Load.{is_of, last_store}
use Rattle.adb_model.specs.Presence.{has_store}
use Rattle.adb_model.specs.Callers.{with_store, without_stores}
use Rattle.adb_model.proofs.Members.{member, any_at, into_filter, from_filter, contains_none}
use Rattle.adb_model.proofs.Filters.{last_none, last_contained, last_push, filter_push_same, filter_push_other, filter_twice, filter_apart}
use Rattle.adb_model.proofs.Distinct.{bytes_eq-true, eq-bytes_eq}

-- what a store of a slot and a key has
pub of_parts : (s : ℕ) (k : List ℕ) (t : Stored) → IsTrue (is_of s k t) → (t.slot ≡ s) × (t.key ≡ k)
of_parts s k t is = let parts = and_parts (eqb t.slot s) (bytes_eq t.key k) is in (eqb-true t.slot s parts.0, bytes_eq-true t.key k parts.1)

pub from_parts : (s : ℕ) (k : List ℕ) (t : Stored) → t.slot ≡ s → t.key ≡ k → IsTrue (is_of s k t)
from_parts s k t e f = and_from (eqb t.slot s) (bytes_eq t.key k) (eq-eqb t.slot s e) (eq-bytes_eq t.key k f)

pub last_is_of : (m : State) (s : ℕ) (k : List ℕ) (t : Stored) → last_store m s k ≡ Some t → Contains m.stores t × IsTrue (is_of s k t)
last_is_of m s k t e = from_filter (is_of s k) m.stores t (last_contained (filter (is_of s k) m.stores) t e)

some_last : {X : Type 0} (p : X → Bool) (xs : List X) → list_any p xs ≡ is_some (last (filter p xs))
some_last p [] = refl
some_last p (x ∷ xs) = by (p x) (some_last p xs)
  where
    by : (b : Bool) → list_any p xs ≡ is_some (last (filter p xs)) → (b || list_any p xs) ≡ is_some (last (cond b (x ∷ filter p xs) (filter p xs)))
    by true ih = refl
    by false ih = ih

-- a pair with a store has a last one
pub store_last : (m : State) (s : ℕ) (k : List ℕ) → IsTrue (has_store m s k) → (t : Stored) × (last_store m s k ≡ Some t)
store_last m s k st = by (last_store m s k) refl
  where
    by : (o : Option Stored) → last_store m s k ≡ o → (t : Stored) × (last_store m s k ≡ Some t)
    by None e =
        let a = member (is_of s k) m.stores st in
        absurd (contains_none a.0 (subst (λ xs. Contains xs a.0) (last_none (filter (is_of s k) m.stores) e) (into_filter (is_of s k) m.stores a.0 a.1 a.2)))
    by (Some t) e = (t, e)

pub last_stored : (m : State) (s : ℕ) (k : List ℕ) (t : Stored) → last_store m s k ≡ Some t → IsTrue (has_store m s k)
last_stored m s k t e = let is = last_is_of m s k t e in any_at (is_of s k) m.stores t is.0 is.1

-- one more store is the last of its pair, and changes no other
pub last_after : (m : State) (slot : ℕ) (key : List ℕ) (account : Account) (s : ℕ) (k : List ℕ)
    → last_store (with_store m slot key account) s k ≡ cond (eqb slot s && bytes_eq key k) (Some (record { slot = slot; key = key; account = account })) (last_store m s k)
last_after m slot key account s k = by (is_of s k t) refl
  where
    t : Stored
    t = record { slot = slot; key = key; account = account }

    by : (b : Bool) → is_of s k (record { slot = slot; key = key; account = account }) ≡ b
        → last_store (with_store m slot key account) s k ≡ cond b (Some (record { slot = slot; key = key; account = account })) (last_store m s k)
    by true e = ap last (filter_push_same (is_of s k) m.stores _ e) ∙ last_push (filter (is_of s k) m.stores) _
    by false e = ap last (filter_push_other (is_of s k) m.stores _ e)

-- a purge takes the stores of its slot, and no other
pub last_purged : (m : State) (slot s : ℕ) (k : List ℕ) → last_store (without_stores m slot) s k ≡ cond (eqb slot s) None (last_store m s k)
last_purged m slot s k = by (eqb slot s) refl
  where
    by : (b : Bool) → eqb slot s ≡ b → last (filter (is_of s k) (filter (λ t. not (eqb t.slot slot)) m.stores)) ≡ cond b None (last_store m s k)
    by true e = ap last (filter_apart (is_of s k) (λ t. not (eqb t.slot slot)) (λ t is. not_from_true _ (eq-eqb t.slot slot ((of_parts s k t is).0 ∙ sym (eqb-true slot s e)))) m.stores)
    by false e = ap last (filter_twice (is_of s k) (λ t. not (eqb t.slot slot)) (λ t is. not_from_false _ (ne_eqb t.slot slot (λ f. true≢false (sym (eq-eqb slot s (sym f ∙ (of_parts s k t is).0)) ∙ e)))) m.stores)

-- a pair has a store exactly where it has a last one
pub stored_last : (m : State) (s : ℕ) (k : List ℕ) → has_store m s k ≡ is_some (last_store m s k)
stored_last m s k = some_last (is_of s k) m.stores
