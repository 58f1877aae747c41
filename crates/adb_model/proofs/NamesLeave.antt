-- What changes where one named pair leaves.
use Rattle.std.proofs.Common.{◌≡◌, ◌≢◌, ℕ, ◌+◌, eqb, Bool, true, false, cond, not, ◌&&◌, ◌||◌, IsTrue, IsFalse, List, [], ◌∷◌, filter, AllPairs, Contains, sum_by, refl, sym, ap, ◌∙◌, arith}
use Rattle.std.specs.List.{list_any}
use Rattle.std.specs.Str.{bytes_eq}
use Rattle.std.proofs.lemmas.Bool.{true≢false, and_parts, and_from, eqb-true, eq-eqb, not-true, not_from_true, not_from_false, false_from_ne_true}
use Rattle.std.proofs.lemmas.List.Elements.{filter_agree}
use Rattle.std.proofs.lemmas.List.Kept.{AllPairs-filter}
use Rattle.std.proofs.lemmas.List.Sums.{sum_by-cons}
use Rattle.adb_model.specs.Lists.{among}
use Rattle.adb_model.specs.State.{Pair, State}
use Rattle.adb_model.specs.Presence.{has_store, is_cached, is_named, is_pair, is_present}
use Rattle.adb_model.specs.Reclaim.{is_taken, without_names}
use Rattle.adb_model.specs.Cleaning.{without_name}
use Rattle.adb_model.specs.Shrink.{named_in}
use Rattle.adb_model.specs.Stats.{counts_of}
use Rattle.adb_model.specs.Sound.{IsSoundMidway}
use Rattle.adb_model.specs.Once.{IsOnce}
use Rattle.adb_model.proofs.Members.{none_from, from_filter, contains_here, contains_next, or_false}
use Rattle.adb_model.proofs.Pairs.{pairs_head, pairs_tail}
use Rattle.std.proofs.lemmas.List.Elements.{All-contains}
use Rattle.adb_model.proofs.Filters.{same_truth, any_filter}
use Rattle.adb_model.proofs.Distinct.{bytes_eq-true, eq-bytes_eq}
use Rattle.adb_model.proofs.OneChanged.{filter_both, length_sum}

-- ---- one slot and key

pub pair_parts : (slot s : ℕ) (key k : List ℕ) → IsTrue (eqb slot s && bytes_eq key k) → (slot ≡ s) × (key ≡ k)
pair_parts slot s key k t = let parts = and_parts (eqb slot s) (bytes_eq key k) t in (eqb-true slot s parts.0, bytes_eq-true key k parts.1)

pub pair_from : (slot s : ℕ) (key k : List ℕ) → slot ≡ s → key ≡ k → IsTrue (eqb slot s && bytes_eq key k)
pair_from slot s key k e f = and_from (eqb slot s) (bytes_eq key k) (eq-eqb slot s e) (eq-bytes_eq key k f)

pub pair_turned : (slot s : ℕ) (key k : List ℕ) → (eqb slot s && bytes_eq key k) ≡ (eqb s slot && bytes_eq k key)
pair_turned slot s key k =
    same_truth _ _
    (λ t. let same = pair_parts slot s key k t in pair_from s slot k key (sym same.0) (sym same.1))
    (λ t. let same = pair_parts s slot k key t in pair_from slot s key k (sym same.0) (sym same.1))

-- another slot or key
pub pair_apart : (slot s : ℕ) (key k : List ℕ) → (slot ≡ s → key ≡ k → ⊥) → IsFalse (eqb slot s && bytes_eq key k)
pair_apart slot s key k apart = false_from_ne_true _ (λ t. let same = pair_parts slot s key k t in apart same.0 same.1)

pub filter_all : {X : Type 0} (p : X → Bool) (xs : List X) → ((x : X) → Contains xs x → IsTrue (p x)) → filter p xs ≡ xs
filter_all p [] all = refl
filter_all p (x ∷ xs) all = ap (λ b. cond b (x ∷ filter p xs) (filter p xs)) (all x (contains_here x xs)) ∙ ap (λ l. x ∷ l) (filter_all p xs (λ y c. all y (contains_next x y xs c)))

-- ---- what is named and present

module _ (m : State) (slot : ℕ) (key : List ℕ) where
  abbrev n : State
  n = without_name m slot key

  pub named_left : (s : ℕ) (k : List ℕ) → is_named n s k ≡ (not (eqb slot s && bytes_eq key k) && is_named m s k)
  named_left s k = by (eqb slot s && bytes_eq key k) refl
    where
      by : (b : Bool) → (eqb slot s && bytes_eq key k) ≡ b → is_named n s k ≡ (not b && is_named m s k)
      by true e = none_from (is_pair s k) (filter (λ p. not (is_pair slot key p)) m.named) (λ p c t.
          let same = pair_parts slot s key k e in
          let of = pair_parts p.slot s p.key k t in
          true≢false (sym (pair_from p.slot slot p.key key (of.0 ∙ sym same.0) (of.1 ∙ sym same.1)) ∙ not-true _ (from_filter (λ p. not (is_pair slot key p)) m.named p c).1))
      by false e = any_filter (is_pair s k) (λ p. not (is_pair slot key p)) (λ p t.
          let of = pair_parts p.slot s p.key k t in
          not_from_false _ (pair_apart p.slot slot p.key key (λ a b. true≢false (sym (pair_from slot s key k (sym a ∙ of.0) (sym b ∙ of.1)) ∙ e)))) m.named

  -- another pair stays
  pub named_other : (s : ℕ) (k : List ℕ) → IsFalse (eqb slot s && bytes_eq key k) → is_named n s k ≡ is_named m s k
  named_other s k f = named_left s k ∙ ap (λ b. not b && is_named m s k) f

  pub present_other : (s : ℕ) (k : List ℕ) → IsFalse (eqb slot s && bytes_eq key k) → is_present n s k ≡ is_present m s k
  present_other s k f = ap (λ b. is_cached m s k || b) (named_other s k f)

  pub once_left : IsOnce m → IsOnce n
  once_left o = record { named = AllPairs-filter (λ p q. p.slot ≡ q.slot → p.key ≢ q.key) (λ p. not (is_pair slot key p)) m.named o.named; rows = o.rows; snap = o.snap }

module _ (m : State) (h : IsSoundMidway m) (slot : ℕ) (key : List ℕ) (named : IsTrue (is_named m slot key)) where
  abbrev after : State
  after = without_name m slot key

  not_cached : (s : ℕ) (k : List ℕ) → slot ≡ s → IsFalse (is_cached m s k)
  not_cached s k e = false_from_ne_true _ (λ t.
      let parts = and_parts (has_store m s k) (not (among s m.flushed)) t in
      true≢false (sym (ap (λ q. among q m.flushed) (sym e) ∙ h.slots.named slot key named) ∙ not-true _ parts.1))

  pub present_left : (s : ℕ) (k : List ℕ) → is_present after s k ≡ (not (eqb slot s && bytes_eq key k) && is_present m s k)
  present_left s k = ap (λ b. is_cached m s k || b) (named_left m slot key s k) ∙ by (eqb slot s && bytes_eq key k) refl
    where
      by : (b : Bool) → (eqb slot s && bytes_eq key k) ≡ b → (is_cached m s k || (not b && is_named m s k)) ≡ (not b && is_present m s k)
      by true e = or_false (is_cached m s k) ∙ not_cached s k (pair_parts slot s key k e).0
      by false e = refl

-- ---- how many are named

module _ (slot : ℕ) (key : List ℕ) (g : Pair → ℕ) (number : ℕ) (each : (p : Pair) → IsTrue (is_pair slot key p) → g p ≡ number) where
  -- the pair leaves a list in which it stands once
  one_leaves : (ps : List Pair) → AllPairs (λ p q. p.slot ≡ q.slot → p.key ≢ q.key) ps → IsTrue (list_any (is_pair slot key) ps) → sum_by g ps ≡ sum_by g (filter (λ p. not (is_pair slot key p)) ps) + number
  one_leaves [] once t = absurd (true≢false (sym t))
  one_leaves (p ∷ ps) once t = by (is_pair slot key p) refl (one_leaves ps (pairs_tail (λ p q. p.slot ≡ q.slot → p.key ≢ q.key) p ps once))
    where
      others : IsTrue (is_pair slot key p) → filter (λ p. not (is_pair slot key p)) ps ≡ ps
      others here = filter_all (λ q. not (is_pair slot key q)) ps (λ q c. not_from_false _ (pair_apart q.slot slot q.key key (λ a b.
          let same = pair_parts p.slot slot p.key key here in
          All-contains (λ q. p.slot ≡ q.slot → p.key ≢ q.key) ps q (pairs_head (λ p q. p.slot ≡ q.slot → p.key ≢ q.key) p ps once) c (same.0 ∙ sym a) (same.1 ∙ sym b))))

      by : (b : Bool) → is_pair slot key p ≡ b → (IsTrue (list_any (is_pair slot key) ps) → sum_by g ps ≡ sum_by g (filter (λ p. not (is_pair slot key p)) ps) + number)
          → sum_by g (p ∷ ps) ≡ sum_by g (cond (not b) (p ∷ filter (λ p. not (is_pair slot key p)) ps) (filter (λ p. not (is_pair slot key p)) ps)) + number
      by true e ih = omega (arith, sum_by-cons g p ps, each p e, ap (sum_by g) (others e))
      by false e ih =
          omega (
            arith,
            sum_by-cons g p ps,
            sum_by-cons g p (filter (λ p. not (is_pair slot key p)) ps),
            ih (sym (ap (λ b. b || list_any (is_pair slot key) ps) e) ∙ t),
          )

module _ (m : State) (o : IsOnce m) (slot : ℕ) (key : List ℕ) (named : IsTrue (is_named m slot key)) where
  abbrev fewer : State
  fewer = without_name m slot key

  pub named_in_left : (s : ℕ) → named_in m s ≡ named_in fewer s + cond (eqb slot s) 1 0
  named_in_left s = one_leaves slot key (λ p. cond (eqb p.slot s) 1 0) (cond (eqb slot s) 1 0) (λ p t. ap (λ q. cond (eqb q s) 1 0) (pair_parts p.slot slot p.key key t).0) m.named o.named named

  pub named_count_left : (counts_of m).named ≡ (counts_of fewer).named + 1
  named_count_left = omega (arith, one_leaves slot key (λ p. 1) 1 (λ p t. refl) m.named o.named named, length_sum m.named, length_sum fewer.named)

-- ---- pairs that are to be dropped

abbrev with_named : State → List Pair → State
with_named m ps = record m { named = ps }

-- of the pairs to drop one has left already
pub drop_rest : (m : State) (slot : ℕ) (key : List ℕ) (test later : ℕ → List ℕ → Bool) (keys : List (List ℕ)) → IsTrue (is_taken keys key) → IsTrue (test slot key)
    → ((s : ℕ) (k : List ℕ) → later s k ≡ (not (eqb slot s && bytes_eq key k) && test s k))
    → without_names (λ p. is_taken keys p.key && later p.slot p.key) (without_name m slot key) ≡ without_names (λ p. is_taken keys p.key && test p.slot p.key) m
drop_rest m slot key test later keys taken passes others =
    ap (with_named m)
    (filter_both (λ (p : Pair). not (is_taken keys p.key && later p.slot p.key)) (λ p. not (is_pair slot key p)) m.named
    ∙ filter_agree (λ (p : Pair). not (is_pair slot key p) && not (is_taken keys p.key && later p.slot p.key)) (λ p. not (is_taken keys p.key && test p.slot p.key)) (λ p. by p (is_pair slot key p) refl) m.named)
  where
    by : (p : Pair) (b : Bool) → is_pair slot key p ≡ b → (not b && not (is_taken keys p.key && later p.slot p.key)) ≡ not (is_taken keys p.key && test p.slot p.key)
    by p true e =
        let same = pair_parts p.slot slot p.key key e in
        sym (not_from_true _ (and_from _ _ (ap (is_taken keys) same.1 ∙ taken) (ap (λ s. test s p.key) same.0 ∙ ap (test slot) same.1 ∙ passes)))
    by p false e = ap (λ b. not (is_taken keys p.key && b)) (others p.slot p.key ∙ ap (λ b. not b && test p.slot p.key) (pair_turned slot p.slot key p.key ∙ e))

-- nothing is to be dropped
pub drop_none : (m : State) (test : Pair → Bool) → ((p : Pair) → IsFalse (test p)) → without_names test m ≡ m
drop_none m test none = ap (with_named m) (filter_all (λ p. not (test p)) m.named (λ p c. not_from_false _ (none p)))
