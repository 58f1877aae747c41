-- A copy that leaves keeps a sound state sound.
use Rattle.std.proofs.Common.{◌≡◌, ◌≢◌, ℕ, eqb, Bool, not, IsTrue, IsFalse, List, filter, Contains, Some, sym, ap, ◌∙◌, inl, inr}
use Rattle.std.specs.List.{list_any}
use Rattle.std.proofs.lemmas.Bool.{true≢false, eqb-true, eq-eqb, ne_eqb, not_from_false, not-true}
use Rattle.std.proofs.lemmas.List.Kept.{AllPairs-filter}
use Rattle.adb_model.specs.State.{Storage, Shrink, State}
use Rattle.adb_model.specs.Storages.{is_filling, is_copy, open_shrink}
use Rattle.adb_model.specs.Call.{NotShrinking}
use Rattle.adb_model.specs.Shrink.{copy_dropped, shrink_abort_step}
use Rattle.adb_model.specs.Sound.{IsSound}
use Rattle.adb_model.proofs.Members.{found, from_filter}
use Rattle.adb_model.proofs.Pairs.{pairs_at}
use Rattle.adb_model.proofs.Filters.{any_filter_at}
use Rattle.adb_model.proofs.Outcomes.{through_found}
use Rattle.adb_model.proofs.Phases.{live_filled}
use Rattle.adb_model.proofs.Ids.{old_filled, new_filling, new_of, new_slot}
use Rattle.adb_model.proofs.StoragesLeave.{storages_left}

-- the slot's open shrink is one of the shrinks
pub is_open : (m : State) (slot : ℕ) (g : Shrink) → open_shrink m slot ≡ Some g → Contains m.shrinks g × (g.slot ≡ slot)
is_open m slot g e = let f = found (λ (k : Shrink). eqb k.slot slot) m.shrinks g e in (f.0, eqb-true g.slot slot f.1)

module _ (m : State) (h : IsSound m) (g : Shrink) (c : Contains m.shrinks g) where
  abbrev pub others : List Shrink
  others = filter (λ k. not (eqb k.slot g.slot)) m.shrinks

  abbrev stays : Storage → Bool
  stays u = not (eqb u.id g.new)

  -- a shrink of the slot is this one
  pub one_shrink : (k : Shrink) → Contains m.shrinks k → k.slot ≡ g.slot → k ≡ g
  one_shrink k d e = elim (pairs_at (λ a b. a.slot ≢ b.slot) m.shrinks k g h.ids.one_shrink d c) [
    | inl same ↦ same
    | inr (inl ne) ↦ absurd (ne e)
    | inr (inr ne) ↦ absurd (ne (sym e))
  ]

  pub other_slot : (k : Shrink) → Contains others k → Contains m.shrinks k × (k.slot ≢ g.slot)
  other_slot k d = let f = from_filter (λ k. not (eqb k.slot g.slot)) m.shrinks k d in (f.0, λ e. true≢false (sym (eq-eqb k.slot g.slot e) ∙ not-true _ f.1))

  -- another shrink has another copy
  pub other_new : (k : Shrink) → Contains others k → k.new ≢ g.new
  other_new k d e =
      let o = other_slot k d in
      let n = new_of m h.ids g c in
      o.1 (sym (new_slot m h.ids k o.0 n.0 n.1.there (n.1.id ∙ sym e)) ∙ n.1.slot)

  pub filled_stays : (u : Storage) → Contains m.storages u → IsFalse (is_filling u) → IsTrue (stays u)
  filled_stays u d settled = not_from_false _ (ne_eqb u.id g.new (λ e. true≢false (sym (new_filling m h.ids g c u d e) ∙ settled)))

  -- a storage that stays is a copy as before
  pub copies_same : (u : Storage) → u.id ≢ g.new → is_copy m u.id ≡ list_any (λ k. eqb k.new u.id) others
  copies_same u ne = sym (any_filter_at (λ k. eqb k.new u.id) (λ k. not (eqb k.slot g.slot)) m.shrinks (λ k d t.
      not_from_false _ (ne_eqb k.slot g.slot (λ e. ne (sym (eqb-true k.new u.id t) ∙ ap (λ (f : Shrink). f.new) (one_shrink k d e))))))

  pub dropped : IsSound (copy_dropped m g)
  dropped = storages_left m stays others (record {
    live = λ u d live. filled_stays u d (live_filled u live);
    pins = λ u d settled p. filled_stays u d settled;
    snap = λ u d settled p. filled_stays u d settled;
    old = λ k d u b e. filled_stays u b (old_filled m h.ids k (other_slot k d).0 u b e);
    new = λ k d u b e. not_from_false _ (ne_eqb u.id g.new (λ f. other_new k d (sym e ∙ f)));
    fewer = λ k d. (other_slot k d).0;
    one_shrink = AllPairs-filter (λ a b. a.slot ≢ b.slot) (λ k. not (eqb k.slot g.slot)) m.shrinks h.ids.one_shrink;
    copies = λ u d k f. copies_same u (λ e. true≢false (sym (eq-eqb u.id g.new e) ∙ not-true _ k));
  }) h

pub shrink_abort_keeps : (m : State) (slot : ℕ) → IsSound m → IsSound (shrink_abort_step m slot).0
shrink_abort_keeps m slot h = through_found IsSound (open_shrink m slot) (NotShrinking slot) m _ h (λ g e. dropped m h g (is_open m slot g e).0)
