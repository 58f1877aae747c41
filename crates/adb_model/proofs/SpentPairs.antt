-- What changes where one spent pair leaves.
use Rattle.std.proofs.Common.{◌≡◌, ℕ, eqb, ltb, leb, Bool, true, false, not, ◌&&◌, ◌||◌, IsTrue, IsFalse, List, Contains, refl, sym, ap, ap₂, ◌∙◌, subst, inl, inr, ◌⊎◌}
use Rattle.std.specs.Str.{bytes_eq}
use Rattle.std.proofs.lemmas.Bool.{true≢false, cases_Bool, and_parts, and_from, or_cases, or_right, false_from_ne_true}
use Rattle.adb_model.specs.State.{State}
use Rattle.adb_model.specs.Presence.{is_named, is_pair, is_present, is_held, ends_in_tomb, slots_of}
use Rattle.adb_model.specs.Reclaimable.{is_spent, is_there_below}
use Rattle.adb_model.specs.Reclaim.{is_taken, drop_spent}
use Rattle.adb_model.specs.Cleaning.{without_name}
use Rattle.adb_model.specs.Sound.{IsSoundMidway}
use Rattle.adb_model.proofs.Members.{member, any_at}
use Rattle.adb_model.proofs.Filters.{same_truth}
use Rattle.adb_model.proofs.Known.{slot_of_present, slot_of_held}
use Rattle.adb_model.proofs.ReclaimKeeps.{names_dropped, dropped_passes, spent_gone}
use Rattle.adb_model.proofs.NamesLeave.{pair_parts, named_left, named_other, present_other, drop_rest, drop_none}

-- the key is there in the slot
abbrev is_there : State → List ℕ → ℕ → Bool
is_there m k q = is_present m q k || is_held m q k

slot_of_there : (m : State) (s : ℕ) (k : List ℕ) → IsTrue (is_there m k s) → Contains (slots_of m) s
slot_of_there m s k t = elim (or_cases (is_present m s k) (is_held m s k) t) [ inl present ↦ slot_of_present m s k present | inr held ↦ slot_of_held m s k held ]

module _ (m : State) (h : IsSoundMidway m) (slot : ℕ) (key : List ℕ) (spent : IsTrue (is_spent m slot key)) where
  abbrev n : State
  n = without_name m slot key

  named : IsTrue (is_named m slot key)
  named =
      let parts = and_parts ((is_named m slot key && ends_in_tomb m slot key) && leb slot m.cleaned) (not (is_there_below m slot key)) spent in
      let first = and_parts (is_named m slot key && ends_in_tomb m slot key) (leb slot m.cleaned) parts.0 in
      (and_parts (is_named m slot key) (ends_in_tomb m slot key) first.0).0

  pub spent_sound : IsSoundMidway n
  spent_sound = names_dropped m (is_pair slot key) h (λ s k before after.
      let d = dropped_passes m (is_pair slot key) h s k before after in
      let same = pair_parts d.0.slot slot d.0.key key d.3 in
      inr (spent_gone m h s k (subst (λ a. IsTrue (is_spent m a k)) (sym same.0 ∙ d.1) (subst (λ q. IsTrue (is_spent m slot q)) (sym same.1 ∙ d.2) spent))))

  -- the pair that leaves is held still
  there_same : (s : ℕ) (k : List ℕ) → is_there n k s ≡ is_there m k s
  there_same s k = by (cases_Bool (eqb slot s && bytes_eq key k))
    where
      held : slot ≡ s → key ≡ k → IsTrue (is_held m s k)
      held e f = subst (λ q. IsTrue (is_held m q k)) e (subst (λ q. IsTrue (is_held m slot q)) f (h.held slot key named))

      by : IsTrue (eqb slot s && bytes_eq key k) ⊎ IsFalse (eqb slot s && bytes_eq key k) → is_there n k s ≡ is_there m k s
      by (inl here) =
          let same = pair_parts slot s key k here in
          or_right (is_present n s k) (is_held m s k) (held same.0 same.1) ∙ sym (or_right (is_present m s k) (is_held m s k) (held same.0 same.1))
      by (inr other) = ap (λ b. b || is_held m s k) (present_other m slot key s k other)

  below_same : (s : ℕ) (k : List ℕ) → is_there_below n s k ≡ is_there_below m s k
  below_same s k =
      same_truth _ _
      (λ t.
      let a = member (λ q. ltb q s && is_there n k q) (slots_of n) t in
      let parts = and_parts (ltb a.0 s) (is_there n k a.0) a.2 in
      let there = sym (there_same a.0 k) ∙ parts.1 in
      any_at (λ q. ltb q s && is_there m k q) (slots_of m) a.0 (slot_of_there m a.0 k there) (and_from _ _ parts.0 there))
      (λ t.
      let a = member (λ q. ltb q s && is_there m k q) (slots_of m) t in
      let parts = and_parts (ltb a.0 s) (is_there m k a.0) a.2 in
      let there = there_same a.0 k ∙ parts.1 in
      any_at (λ q. ltb q s && is_there n k q) (slots_of n) a.0 (slot_of_there n a.0 k there) (and_from _ _ parts.0 there))

  pub spent_others : (s : ℕ) (k : List ℕ) → is_spent n s k ≡ (not (eqb slot s && bytes_eq key k) && is_spent m s k)
  spent_others s k = by (eqb slot s && bytes_eq key k) refl
    where
      by : (b : Bool) → (eqb slot s && bytes_eq key k) ≡ b → is_spent n s k ≡ (not b && is_spent m s k)
      by true e = ap (λ b. ((b && ends_in_tomb m s k) && leb s m.cleaned) && not (is_there_below n s k)) (named_left m slot key s k ∙ ap (λ b. not b && is_named m s k) e)
      by false e = ap₂ (λ a b. ((a && ends_in_tomb m s k) && leb s m.cleaned) && not b) (named_other m slot key s k e) (below_same s k)

  pub spent_rest : (keys : List (List ℕ)) → IsTrue (is_taken keys key) → drop_spent keys n ≡ drop_spent keys m
  spent_rest keys taken = drop_rest m slot key (is_spent m) (is_spent n) keys taken spent spent_others

pub no_spent : (m : State) (keys : List (List ℕ)) → ((s : ℕ) (k : List ℕ) → IsTrue (is_taken keys k) → IsFalse (is_spent m s k)) → drop_spent keys m ≡ m
no_spent m keys none = drop_none m (λ p. is_taken keys p.key && is_spent m p.slot p.key) (λ p. false_from_ne_true _ (λ t.
    let parts = and_parts (is_taken keys p.key) (is_spent m p.slot p.key) t in
    true≢false (sym parts.1 ∙ none p.slot p.key parts.0)))
