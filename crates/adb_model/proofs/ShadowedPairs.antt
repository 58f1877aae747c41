-- What changes where one shadowed pair leaves.
use Rattle.std.proofs.Common.{◌≡◌, ℕ, ◌<◌, eqb, ltb, leb, Bool, true, false, not, ◌&&◌, IsTrue, IsFalse, List, refl, sym, ap, ap₂, ◌∙◌, subst, inl, inr, arith}
use Rattle.std.specs.List.{list_any}
use Rattle.std.specs.Str.{bytes_eq}
use Rattle.std.proofs.lemmas.Bool.{true≢false, cases_Bool, and_parts, and_from, ltb-true, lt-ltb, false_from_ne_true}
use Rattle.adb_model.specs.State.{State}
use Rattle.adb_model.specs.Presence.{is_named, is_pair, is_present}
use Rattle.adb_model.specs.Reclaimable.{is_shadowed}
use Rattle.adb_model.specs.Reclaim.{is_taken, drop_shadowed}
use Rattle.adb_model.specs.Cleaning.{without_name}
use Rattle.adb_model.specs.Sound.{IsSoundMidway}
use Rattle.adb_model.proofs.Members.{member, any_at, any_weaker}
use Rattle.adb_model.proofs.Filters.{same_truth}
use Rattle.adb_model.proofs.ReclaimKeeps.{names_dropped, dropped_passes, shadowed_gone}
use Rattle.adb_model.proofs.NamesLeave.{pair_parts, pair_apart, named_left, named_other, present_left, present_other, drop_rest, drop_none}

module _ (m : State) (h : IsSoundMidway m) (slot : ℕ) (key : List ℕ) (shadowed : IsTrue (is_shadowed m slot key)) where
  abbrev n : State
  n = without_name m slot key

  -- a root above the slot has the key present
  abbrev shadows : State → ℕ → List ℕ → ℕ → Bool
  shadows m s k r = (ltb s r && leb r m.cleaned) && is_present m r k

  named : IsTrue (is_named m slot key)
  named = (and_parts (is_named m slot key) (list_any (shadows m slot key) m.roots) shadowed).0

  pub shadowed_sound : IsSoundMidway n
  shadowed_sound = names_dropped m (is_pair slot key) h (λ s k before after.
      let d = dropped_passes m (is_pair slot key) h s k before after in
      let same = pair_parts d.0.slot slot d.0.key key d.3 in
      inl (shadowed_gone m h s k (subst (λ a. IsTrue (is_shadowed m a k)) (sym same.0 ∙ d.1) (subst (λ q. IsTrue (is_shadowed m slot q)) (sym same.1 ∙ d.2) shadowed))))

  present_before : (s : ℕ) (k : List ℕ) → IsTrue (is_present n s k) → IsTrue (is_present m s k)
  present_before s k t = (and_parts (not (eqb slot s && bytes_eq key k)) (is_present m s k) (sym (present_left m h slot key named s k) ∙ t)).1

  -- what shadows the pair that leaves shadows all that it shadowed
  still_shadows : (s : ℕ) (k : List ℕ) (r : ℕ) → IsTrue (shadows m s k r) → (slot ≡ r) → (key ≡ k) → IsTrue (list_any (shadows n s k) m.roots)
  still_shadows s k r t e f =
      let a = member (shadows m slot key) m.roots (and_parts (is_named m slot key) (list_any (shadows m slot key) m.roots) shadowed).1 in
      let parts = and_parts (ltb slot a.0 && leb a.0 m.cleaned) (is_present m a.0 key) a.2 in
      let first = and_parts (ltb slot a.0) (leb a.0 m.cleaned) parts.0 in
      let above : slot < a.0 = ltb-true slot a.0 first.0 in
      let below : s < r = ltb-true s r (and_parts (ltb s r) (leb r m.cleaned) (and_parts (ltb s r && leb r m.cleaned) (is_present m r k) t).0).0 in
      let other : IsFalse (eqb slot a.0 && bytes_eq key k) = pair_apart slot a.0 key k (λ g _. omega arith) in
      any_at (shadows n s k) m.roots a.0 a.1
      (and_from _ _ (and_from _ _ (lt-ltb s a.0 (omega arith)) first.1) (present_other m slot key a.0 k other ∙ ap (is_present m a.0) (sym f) ∙ parts.1))

  shadows_same : (s : ℕ) (k : List ℕ) → list_any (shadows n s k) m.roots ≡ list_any (shadows m s k) m.roots
  shadows_same s k =
      same_truth _ _
      (any_weaker (shadows n s k) (shadows m s k) m.roots (λ r c t. let parts = and_parts (ltb s r && leb r m.cleaned) (is_present n r k) t in and_from _ _ parts.0 (present_before r k parts.1)))
      (λ t.
      let a = member (shadows m s k) m.roots t in
      elim (cases_Bool (eqb slot a.0 && bytes_eq key k)) [
        | inl here ↦ (let same = pair_parts slot a.0 key k here in still_shadows s k a.0 a.2 same.0 same.1)
        | inr other ↦ (let parts = and_parts (ltb s a.0 && leb a.0 m.cleaned) (is_present m a.0 k) a.2 in
            any_at (shadows n s k) m.roots a.0 a.1 (and_from _ _ parts.0 (present_other m slot key a.0 k other ∙ parts.1)))
      ])

  pub shadowed_others : (s : ℕ) (k : List ℕ) → is_shadowed n s k ≡ (not (eqb slot s && bytes_eq key k) && is_shadowed m s k)
  shadowed_others s k = by (eqb slot s && bytes_eq key k) refl
    where
      by : (b : Bool) → (eqb slot s && bytes_eq key k) ≡ b → is_shadowed n s k ≡ (not b && is_shadowed m s k)
      by true e = ap (λ b. b && list_any (shadows n s k) m.roots) (named_left m slot key s k ∙ ap (λ b. not b && is_named m s k) e)
      by false e = ap₂ (λ a b. a && b) (named_other m slot key s k e) (shadows_same s k)

  pub shadowed_rest : (keys : List (List ℕ)) → IsTrue (is_taken keys key) → drop_shadowed keys n ≡ drop_shadowed keys m
  shadowed_rest keys taken = drop_rest m slot key (is_shadowed m) (is_shadowed n) keys taken shadowed shadowed_others

pub no_shadowed : (m : State) (keys : List (List ℕ)) → ((s : ℕ) (k : List ℕ) → IsTrue (is_taken keys k) → IsFalse (is_shadowed m s k)) → drop_shadowed keys m ≡ m
no_shadowed m keys none = drop_none m (λ p. is_taken keys p.key && is_shadowed m p.slot p.key) (λ p. false_from_ne_true _ (λ t.
    let parts = and_parts (is_taken keys p.key) (is_shadowed m p.slot p.key) t in
    true≢false (sym parts.1 ∙ none p.slot p.key parts.0)))
