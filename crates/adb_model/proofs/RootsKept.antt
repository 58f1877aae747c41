-- What roots have stored stays through each step, so what they answer stays.
use Rattle.std.proofs.Common.{◌≡◌, ℕ, ◌<◌, ◌≤◌, eqb, leb, IsTrue, List, [], ◌∷◌, ◌++◌, filter, AllPairs, Contains, Option, Some, None, option_and_then, refl, sym, ap, ◌∙◌, inl, inr, ◌⊎◌, arith}
use Rattle.std.specs.List.{AllByRecursion}
use Rattle.std.proofs.lemmas.Bool.{and_parts, and_from, or_cases, eqb-true, leb-true, le-leb}
use Rattle.std.proofs.lemmas.List.Elements.{All-contains, Contains-get_or}
use Rattle.adb_model.specs.Lists.{among, greatest}
use Rattle.adb_model.specs.State.{Stored, State}
use Rattle.adb_model.specs.Load.{sees, slots_with, last_store, unless_tomb, answer}
use Rattle.adb_model.specs.Presence.{has_store}
use Rattle.adb_model.specs.Call.{Call, Event, Place, Cached, InStorage}
use Rattle.adb_model.specs.Callers.{without_stores, place_of, pinned, unpinned}
use Rattle.adb_model.specs.Leases.{with_lease, without_lease, raised}
use Rattle.adb_model.specs.Flush.{flush_rows, with_filling, flushed_with, flush_dropped}
use Rattle.adb_model.specs.Reclaim.{reclaimed}
use Rattle.adb_model.specs.Shrink.{shrinking, installed, copy_dropped}
use Rattle.adb_model.specs.Snap.{with_snap, without_snap, recycled}
use Rattle.adb_model.specs.Step.{step}
use Rattle.adb_model.specs.History.{IsPass, state_after}
use Rattle.adb_model.specs.Sound.{IsSound}
use Rattle.adb_model.specs.Laws.{at_root}
use Rattle.adb_model.proofs.Members.{any_push, any_append_left, into_filter, from_filter}
use Rattle.adb_model.proofs.Greatest.{greatest_is, greatest_none, greatest_unique}
use Rattle.adb_model.proofs.Roots.{above_roots}
use Rattle.adb_model.proofs.Known.{with_from, with_into}
use Rattle.adb_model.proofs.StoresChange.{KeepsRooted, with_stores}
use Rattle.adb_model.proofs.StoreKeeps.{above_all}
use Rattle.adb_model.proofs.PurgeKeeps.{purge_kept}
use Rattle.adb_model.proofs.StepKeeps.{step_keeps}
use Rattle.adb_model.proofs.Through.{HoldsNext, through_step}

-- roots stay, new ones are above, and the stores of a root stay
pub record RootsKept (m n : State) : Type 0 where
  pub grow : (s : ℕ) → IsTrue (among s m.roots) → IsTrue (among s n.roots)
  pub above : (s : ℕ) → IsTrue (among s n.roots) → IsTrue (among s m.roots) ⊎ ((r : ℕ) → IsTrue (among r m.roots) → r < s)
  pub same : (s : ℕ) → IsTrue (among s m.roots) → (k : List ℕ) → has_store n s k ≡ has_store m s k
  pub last : (s : ℕ) → IsTrue (among s m.roots) → (k : List ℕ) → last_store n s k ≡ last_store m s k

-- neither the stores nor the roots change
IsUntouched : State → State → Type 0
IsUntouched m n = (n.stores ≡ m.stores) × (n.roots ≡ m.roots)

untouched : (m n : State) → IsUntouched m n → RootsKept m n
unfolding IsUntouched
untouched m n (e, f) = record {
  grow = λ s t. ap (among s) f ∙ t;
  above = λ s t. inl (sym (ap (among s) f) ∙ t);
  same = λ s t k. ap (λ (stores : List Stored). has_store (with_stores m stores) s k) e;
  last = λ s t k. ap (λ (stores : List Stored). last_store (with_stores m stores) s k) e;
}

stores_kept : (m : State) (stores : List Stored) → KeepsRooted m stores → RootsKept m (with_stores m stores)
stores_kept m stores keeps = record { grow = λ s t. t; above = λ s t. inl t; same = keeps.same; last = keeps.last }

root_kept : (m : State) (slot : ℕ) → ((r : ℕ) → IsTrue (among r m.roots) → r < slot) → RootsKept m (record m { roots = m.roots ++ slot ∷ [] })
root_kept m slot top = record {
  grow = λ s t. any_append_left (λ r. eqb r s) m.roots (slot ∷ []) t;
  above = λ s t. elim (or_cases (among s m.roots) (eqb slot s) (sym (any_push (λ r. eqb r s) m.roots slot) ∙ t)) [
    | inl before ↦ inl before
    | inr new ↦ inr (λ r root. let lt = top r root in let e = eqb-true slot s new in omega arith)
  ];
  same = λ s t k. refl;
  last = λ s t k. refl;
}

pinned_untouched : (m : State) (pass : ℕ) (place : Place) → IsUntouched m (pinned m pass place)
unfolding IsUntouched
pinned_untouched m pass Cached = (refl, refl)
pinned_untouched m pass (InStorage id) = (refl, refl)

next : (m : State) (pass : ℕ) → AllPairs (λ r s. r < s) m.roots → HoldsNext (RootsKept m) m pass
unfolding IsUntouched
next m pass up = record {
  store = λ slot key account free.
      let t : Stored = record { slot = slot; key = key; account = account } in
      stores_kept m (m.stores ++ t ∷ []) (above_all m t (above_roots m slot up free));
  root = λ slot free. root_kept m slot (above_roots m slot up free);
  purge = λ slot free. stores_kept m (without_stores m slot).stores (purge_kept m slot free);
  load = λ view key t free e. untouched m (pinned m pass (place_of m t.slot t.key)) (pinned_untouched m pass (place_of m t.slot t.key));
  unpin = λ id. untouched m (unpinned m pass id) (refl, refl);
  lease = λ max_root free. untouched m (with_lease m pass max_root) (refl, refl);
  end_lease = λ max_root. untouched m (without_lease m pass max_root) (refl, refl);
  flush_begin = λ slot free. untouched m (with_filling m slot (flush_rows m slot)) (refl, refl);
  flush_end = λ slot t e. untouched m (flushed_with m t) (refl, refl);
  flush_abort = λ slot t e. untouched m (flush_dropped m t) (refl, refl);
  raise = λ upto free. untouched m (raised m upto) (refl, refl);
  reclaim = λ keys. untouched m (reclaimed keys m) (refl, refl);
  shrink_begin = λ slot old e free. untouched m (shrinking m old) (refl, refl);
  installed = λ slot g e t. untouched m (installed m g) (refl, refl);
  dropped = λ slot g e. untouched m (copy_dropped m g) (refl, refl);
  snap_begin = λ slot free. untouched m (with_snap m slot) (refl, refl);
  snap_end = untouched m (without_snap m) (refl, refl);
  recycle = untouched m (recycled m) (refl, refl);
}

pub step_roots : (m : State) (pass : ℕ) (c : Call) → AllPairs (λ r s. r < s) m.roots → RootsKept m (step m pass c).0
unfolding IsUntouched
step_roots m pass c up = through_step (RootsKept m) m pass (untouched m m (refl, refl)) (next m pass up) c

-- ---- the answers of a root

pub greatest_same : (ns ms : List ℕ) → ((n : ℕ) → Contains ns n → Contains ms n) → ((n : ℕ) → Contains ms n → Contains ns n) → greatest ns ≡ greatest ms
greatest_same ns ms to from = by (greatest ns) refl
  where
    none : greatest ns ≡ None → (o : Option ℕ) → greatest ms ≡ o → None ≡ o
    none e None f = refl
    none e (Some g) f = absurd (greatest_none ns g e (from g (greatest_is ms g f).0))

    by : (o : Option ℕ) → greatest ns ≡ o → greatest ns ≡ greatest ms
    by None e = e ∙ none e (greatest ms) refl
    by (Some g) e =
        let is = greatest_is ns g e in
        e ∙ sym (greatest_unique ms g (to g is.0) (λ i d lt. All-contains (λ n. n ≤ g) ns _ is.1 (from _ (Contains-get_or ms i d lt))))

-- such a view sees the roots up to there
pub sees_root : (m : State) (root s : ℕ) → IsTrue (sees m (at_root root) s) → IsTrue (among s m.roots) × (s ≤ root)
sees_root m root s t = let parts = and_parts (among s m.roots) (leb s root) t in (parts.0, leb-true s root parts.1)

pub root_sees : (m : State) (root s : ℕ) → IsTrue (among s m.roots) → s ≤ root → IsTrue (sees m (at_root root) s)
root_sees m root s r le = and_from _ _ r (le-leb s root le)

module _ (m n : State) (kept : RootsKept m n) (root : ℕ) (is_root : IsTrue (among root m.roots)) (k : List ℕ) where
  abbrev seen : State → List ℕ
  seen l = filter (sees l (at_root root)) (slots_with l k)

  before : (s : ℕ) → IsTrue (among s n.roots) → s ≤ root → IsTrue (among s m.roots)
  before s r le = elim (kept.above s r) [ inl old ↦ old | inr top ↦ absurd (let lt = top root is_root in omega arith) ]

  to : (s : ℕ) → Contains (seen n) s → Contains (seen m) s
  to s c =
      let f = from_filter (sees n (at_root root)) (slots_with n k) s c in
      let see = sees_root n root s f.1 in
      let old = before s see.0 see.1 in
      into_filter (sees m (at_root root)) (slots_with m k) s (with_into m s k (sym (kept.same s old k) ∙ with_from n s k f.0)) (root_sees m root s old see.1)

  from : (s : ℕ) → Contains (seen m) s → Contains (seen n) s
  from s c =
      let f = from_filter (sees m (at_root root)) (slots_with m k) s c in
      let see = sees_root m root s f.1 in
      into_filter (sees n (at_root root)) (slots_with n k) s (with_into n s k (kept.same s see.0 k ∙ with_from m s k f.0)) (root_sees n root s (kept.grow s see.0) see.1)

  by_greatest : (o : Option ℕ) → greatest (seen m) ≡ o → option_and_then (λ s. last_store n s k) o ≡ option_and_then (λ s. last_store m s k) o
  by_greatest None e = refl
  by_greatest (Some g) e = kept.last g (sees_root m root g (from_filter (sees m (at_root root)) (slots_with m k) g (greatest_is (seen m) g e).0).1).0 k

  pub same_answer : answer n (at_root root) k ≡ answer m (at_root root) k
  same_answer =
      ap (λ o. option_and_then unless_tomb (option_and_then (λ s. last_store n s k) o)) (greatest_same (seen n) (seen m) to from)
      ∙ ap (option_and_then unless_tomb) (by_greatest (greatest (seen m)) refl)

-- what a root answers, it answers in each later state
pub root_answers : (m : State) (events : List Event) → AllByRecursion (λ e. IsPass e.pass) events → IsSound m → (root : ℕ) → IsTrue (among root m.roots) → (k : List ℕ) → answer (state_after m events) (at_root root) k ≡ answer m (at_root root) k
root_answers m [] passes h root is_root k = refl
root_answers m (e ∷ events) passes h root is_root k =
    let n = (step m e.pass e.call).0 in
    let kept = step_roots m e.pass e.call h.limits.roots in
    root_answers n events passes.1 (step_keeps m e.pass e.call passes.0 h) root (kept.grow root is_root) k ∙ same_answer m n kept root is_root k
