-- Present pairs alone answer a load.
use Rattle.std.proofs.Common.{◌<◌, get_or, ◌≡◌, ◌≢◌, ℕ, ◌≤◌, eqb, Bool, true, false, cond, not, ◌&&◌, IsTrue, IsFalse, List, filter, All, Contains, Option, Some, None, option_and_then, refl, sym, ap, ◌∙◌, subst, inl, inr, arith}
use Rattle.std.specs.Option.{option_map_or}
use Rattle.std.proofs.lemmas.Bool.{cases_lt, true≢false, cases_order, and_parts, and_from, and_cases, or_parts, or_right, le-leb, eqb-true, not-false, not-true}
use Rattle.std.proofs.lemmas.List.Elements.{All-contains, Contains-get_or, filter_passes}
use Rattle.std.proofs.lemmas.List.Kept.{AllPairs-filter}
use Rattle.adb_model.specs.Lists.{among, greatest}
use Rattle.adb_model.specs.Account.{is_tomb}
use Rattle.adb_model.specs.View.{View}
use Rattle.adb_model.specs.State.{Stored, Storage, State}
use Rattle.adb_model.specs.Load.{sees, last_store, slots_with, unless_tomb, answer}
use Rattle.adb_model.specs.Presence.{has_store, is_cached, is_named, is_present, is_live, ends_in_tomb, has_row}
use Rattle.adb_model.specs.Reclaimable.{present_slots}
use Rattle.adb_model.specs.Gone.{IsGone}
use Rattle.adb_model.specs.Sound.{IsSound}
use Rattle.adb_model.specs.Laws.{answer_of_present, live_storages, IsKept}
use Rattle.adb_model.proofs.Members.{member, into_filter, from_filter}
use Rattle.adb_model.proofs.Greatest.{greatest_is, greatest_none, greatest_unique}
use Rattle.adb_model.proofs.Pairs.{one_at_most}
use Rattle.adb_model.proofs.LastStores.{of_parts, last_is_of}
use Rattle.adb_model.proofs.Known.{store_of_present, with_from, with_into, present_from, present_into}

-- a pair with a store that is not present is of a flushed slot, and gone
pub not_present : (m : State) → IsSound m → (s : ℕ) (k : List ℕ) → IsTrue (has_store m s k) → IsFalse (is_present m s k) → IsGone m s k
not_present m h s k st none =
    let parts = or_parts (is_cached m s k) (is_named m s k) none in
    elim (and_cases (has_store m s k) (not (among s m.flushed)) parts.0) [
      | inl no_store ↦ absurd (true≢false (sym st ∙ no_store))
      | inr flushed ↦ h.gone s k st (not-false _ flushed) parts.1
    ]

pub tomb_answers : (m : State) (s : ℕ) (k : List ℕ) → IsTrue (ends_in_tomb m s k) → option_and_then unless_tomb (last_store m s k) ≡ None
tomb_answers m s k tomb = by (last_store m s k) tomb
  where
    by : (o : Option Stored) → IsTrue (option_map_or (λ t. is_tomb t.account) o false) → option_and_then unless_tomb o ≡ None
    by None t = refl
    by (Some u) t = ap (λ b. cond b None (Some u)) t

unless_tomb_is : (o : Option Stored) (t : Stored) → option_and_then unless_tomb o ≡ Some t → o ≡ Some t
unless_tomb_is None t e = absurd cc
unless_tomb_is (Some u) t e = by (is_tomb u.account) e
  where
    by : (b : Bool) → cond b None (Some u) ≡ Some t → Some u ≡ Some t
    by true e = absurd cc
    by false e = e

module _ (m : State) (h : IsSound m) (v : View) (k : List ℕ) (recent : m.cleaned ≤ v.max_root) where
  -- the slots that the view sees: with a store, and present
  abbrev stored : List ℕ
  stored = filter (sees m v) (slots_with m k)

  abbrev present : List ℕ
  present = filter (sees m v) (present_slots m k)

  abbrev at : Option ℕ → Option Stored
  at o = option_and_then unless_tomb (option_and_then (λ s. last_store m s k) o)

  present_stored : (s : ℕ) → Contains present s → Contains stored s
  present_stored s c =
      let from = from_filter (sees m v) (present_slots m k) s c in
      into_filter (sees m v) (slots_with m k) s (with_into m s k (store_of_present m h.rows h.names.held s k (present_from m s k from.0))) from.1

  none_greatest : (ns : List ℕ) → ((s : ℕ) → Contains ns s → ⊥) → greatest ns ≡ None
  none_greatest ns none = by (greatest ns) refl
    where
      by : (o : Option ℕ) → greatest ns ≡ o → greatest ns ≡ None
      by None e = e
      by (Some g) e = absurd (none g (greatest_is ns g e).0)

  by_greatest : (o : Option ℕ) → greatest stored ≡ o → at o ≡ at (greatest present)
  by_greatest None e = ap at (sym (none_greatest present (λ s c. greatest_none stored s e (present_stored s c))))
  by_greatest (Some g) e = by (is_present m g k) refl
    where
      is : Contains stored g × All (λ n. n ≤ g) stored
      is = greatest_is stored g e

      seen : Contains (slots_with m k) g × IsTrue (sees m v g)
      seen = from_filter (sees m v) (slots_with m k) g is.0

      upto : (s : ℕ) → Contains stored s → s ≤ g
      upto s c = All-contains (λ n. n ≤ g) stored s is.1 c

      -- a root up to the cleaned slot is seen
      root_seen : (r : ℕ) → IsTrue (among r m.roots) → r ≤ m.cleaned → IsTrue (sees m v r)
      root_seen r root le = or_right _ _ (and_from _ _ root (le-leb r v.max_root (omega arith)))

      by : (b : Bool) → is_present m g k ≡ b → at (Some g) ≡ at (greatest present)
      by true p =
          let c = into_filter (sees m v) (present_slots m k) g (present_into m g k p) seen.1 in
          ap at (sym (greatest_unique present g c (λ i d lt. upto _ (present_stored _ (Contains-get_or present i d lt)))))
      by false p =
          elim (not_present m h g k (with_from m g k seen.0) p) [
            | inl c ↦
                let le = upto c.root (into_filter (sees m v) (slots_with m k) c.root (with_into m c.root k c.stored) (root_seen c.root c.is_root c.upto)) in
                absurd (let lt = c.above in omega arith)
            | inr b ↦
                tomb_answers m g k b.tomb
                ∙ ap at (sym (none_greatest present (λ s c. elim (cases_order s g) [
                  | inl same ↦ true≢false (sym (subst (λ n. IsTrue (is_present m n k)) same (present_from m s k (from_filter (sees m v) (present_slots m k) s c).0)) ∙ p)
                  | inr (inl lt) ↦ true≢false (sym (present_from m s k (from_filter (sees m v) (present_slots m k) s c).0) ∙ (b.lowest s lt).0)
                  | inr (inr gt) ↦ (let le = upto s (present_stored s c) in omega arith)
                ])))
          ]

  pub answers : answer m v k ≡ answer_of_present m v k
  answers = by_greatest (greatest stored) refl

  pub answers_none : ((s : ℕ) → IsTrue (sees m v s) → IsFalse (is_present m s k)) → answer m v k ≡ None
  answers_none none = answers ∙ ap at (none_greatest present (λ s c.
      let from = from_filter (sees m v) (present_slots m k) s c in
      true≢false (sym (present_from m s k from.0) ∙ none s from.1)))

  pub answers_greatest : (s : ℕ) → IsTrue (sees m v s) → IsTrue (is_present m s k) → ((q : ℕ) → s < q → IsTrue (sees m v q) → IsFalse (is_present m q k))
      → answer m v k ≡ option_and_then unless_tomb (last_store m s k)
  answers_greatest s seen there above =
      let c = into_filter (sees m v) (present_slots m k) s (present_into m s k there) seen in
      answers ∙ ap at (greatest_unique present s c (λ i d lt.
      let q = get_or present i d in
      let from = from_filter (sees m v) (present_slots m k) q (Contains-get_or present i d lt) in
      elim (cases_lt s q) [
        | inl less ↦ absurd (true≢false (sym (present_from m q k from.0) ∙ above q less from.1))
        | inr upto ↦ upto
      ]))

  -- the last store of the slot, where it answers, is of that slot
  found_in : (o : Option ℕ) → greatest present ≡ o → (t : Stored) → at o ≡ Some t → IsTrue (is_present m t.slot k)
  found_in None e t f = absurd cc
  found_in (Some g) e t f =
      let last = unless_tomb_is (last_store m g k) t f in
      let is = of_parts g k t (last_is_of m g k t last).1 in
      subst (λ n. IsTrue (is_present m n k)) (sym is.0) (present_from m g k (from_filter (sees m v) (present_slots m k) g (greatest_is present g e).0).0)

-- a pair that is present is cached or named and not both, and a named one has one Live storage
pub is_kept : (m : State) → IsSound m → (s : ℕ) (k : List ℕ) → IsTrue (is_present m s k) → IsKept m s k
is_kept m h s k p = record {
  present = p;
  not_both = λ cached named. true≢false (sym (h.slots.named s k named) ∙ not-true _ (and_parts (has_store m s k) (not (among s m.flushed)) cached).1);
  one = λ named.
      let a = member (λ u. (is_live u && eqb u.slot s) && has_row k u.rows) m.storages (h.names.held s k named) in
      let test : Storage → Bool = λ u. is_live u && eqb u.slot s in
      let few = one_at_most (λ t u. IsTrue (is_live t) → IsTrue (is_live u) → t.slot ≢ u.slot) (λ u. IsTrue (test u))
      (λ x y p q apart.
      let px = and_parts (is_live x) (eqb x.slot s) p in
      let py = and_parts (is_live y) (eqb y.slot s) q in
      apart px.0 py.0 (eqb-true x.slot s px.1 ∙ sym (eqb-true y.slot s py.1)))
      (live_storages m s) (AllPairs-filter (λ t u. IsTrue (is_live t) → IsTrue (is_live u) → t.slot ≢ u.slot) test m.storages h.slots.one_live) (filter_passes test m.storages) in
      let here = into_filter test m.storages a.0 a.1 (and_parts _ _ a.2).0 in
      let some = here.1 in
      omega (arith, few, some);
}

pub answer_is_kept : (m : State) → IsSound m → (v : View) (k : List ℕ) → m.cleaned ≤ v.max_root → (t : Stored) → answer m v k ≡ Some t → IsKept m t.slot k
answer_is_kept m h v k recent t e = is_kept m h t.slot k (found_in m h v k recent (greatest (filter (sees m v) (present_slots m k))) refl t (sym (answers m h v k recent) ∙ e))
