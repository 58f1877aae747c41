-- The storages that a step leaves: of those that were there the pinned ones, in some phase, and new ones with ids that were free.
use Rattle.std.proofs.Common.{◌≡◌, ℕ, ◌<◌, ◌≤◌, eqb, Bool, not, ◌&&◌, ◌||◌, IsTrue, IsFalse, List, [], ◌∷◌, ◌++◌, map, filter, Contains, Some, refl, sym, ap, ◌∙◌, subst, inl, inr, arith}
use Rattle.std.proofs.lemmas.Bool.{true≢false, cond_both, or_right, ne_eqb, not_from_false}
use Rattle.std.proofs.lemmas.List.Elements.{Contains-append_left, Contains-append_cases}
use Rattle.adb_model.specs.State.{Phase, Live, Retired, Storage, Shrink, State}
use Rattle.adb_model.specs.Presence.{is_live}
use Rattle.adb_model.specs.Storages.{is_filling, is_retired, is_pinned, open_flush, open_shrink, in_phase}
use Rattle.adb_model.specs.Call.{Call, Place, Cached, InStorage}
use Rattle.adb_model.specs.Callers.{pinned, place_of}
use Rattle.adb_model.specs.Flush.{flush_rows, filling_with, with_filling, flushed_with, flush_dropped}
use Rattle.adb_model.specs.Reclaim.{has_named_row, retired, retire_unnamed, drop_shadowed, drop_spent, reclaimed}
use Rattle.adb_model.specs.Shrink.{shrink_rows, shrinking, exchanged, installed, copy_dropped}
use Rattle.adb_model.specs.Snap.{recycled}
use Rattle.adb_model.specs.Step.{step}
use Rattle.adb_model.specs.Sound.{IsSound}
use Rattle.adb_model.proofs.Members.{from_filter, into_filter, from_map, into_map, contains_none, contains_cases}
use Rattle.adb_model.proofs.Phases as phases
use Rattle.adb_model.proofs.Ids.{new_filling}
use Rattle.adb_model.proofs.FreshIds.{at_id}
use Rattle.adb_model.proofs.PinCounts.{pinned_filled}
use Rattle.adb_model.proofs.FlushEndKeeps.{opened, one}
use Rattle.adb_model.proofs.ShrinkAbortKeeps.{is_open}
use Rattle.adb_model.proofs.ShrinkEndKeeps as ends
use Rattle.adb_model.proofs.ShrinkInstalls.{map_both}
use Rattle.adb_model.proofs.Through.{through_step}

-- one storage, in any phase
pub record IsSame (t u : Storage) : Type 0 where
  pub id : u.id ≡ t.id
  pub slot : u.slot ≡ t.slot
  pub rows : u.rows ≡ t.rows
  pub bytes : u.bytes ≡ t.bytes

pub itself : (t : Storage) → IsSame t t
itself t = record { id = refl; slot = refl; rows = refl; bytes = refl }

pub in_turn : (t u v : Storage) → IsSame t u → IsSame u v → IsSame t v
in_turn t u v a b = record { id = b.id ∙ a.id; slot = b.slot ∙ a.slot; rows = b.rows ∙ a.rows; bytes = b.bytes ∙ a.bytes }

-- what is pinned is there after, and what has an id that was given out was there before
pub record Follows (m n : State) : Type 0 where
  pub stays : (t : Storage) → Contains m.storages t → IsTrue (is_pinned m t.id) → (u : Storage) × Contains n.storages u × IsSame t u
  pub was : (u : Storage) → Contains n.storages u → u.id < m.next_id → (t : Storage) × Contains m.storages t × IsSame t u

module _ (m n : State) where
  by_same : n.storages ≡ m.storages → Follows m n
  by_same e = record {
    stays = λ t c p. (t, subst (λ (us : List Storage). Contains us t) (sym e) c, itself t);
    was = λ u c lt. (u, subst (λ (us : List Storage). Contains us u) e c, itself u);
  }

  by_push : (new : Storage) → new.id ≡ m.next_id → n.storages ≡ m.storages ++ new ∷ [] → Follows m n
  by_push new id e = record {
    stays = λ t c p. (t, subst (λ (us : List Storage). Contains us t) (sym e) (Contains-append_left m.storages (new ∷ []) t c), itself t);
    was = λ u c lt. elim (Contains-append_cases m.storages (new ∷ []) u (subst (λ (us : List Storage). Contains us u) e c)) [
      | inl d ↦ (u, d, itself u)
      | inr d ↦ elim (contains_cases new u [] d) [ inl same ↦ absurd (omega (arith, lt, id, ap (λ (v : Storage). v.id) same)) | inr none ↦ absurd (contains_none u none) ]
    ];
  }

  by_map : (f : Storage → Storage) → ((u : Storage) → IsSame u (f u)) → n.storages ≡ map f m.storages → Follows m n
  by_map f same e = record {
    stays = λ t c p. (f t, subst (λ (us : List Storage). Contains us (f t)) (sym e) (into_map f m.storages t c), same t);
    was = λ u c lt. let w = from_map f m.storages u (subst (λ (us : List Storage). Contains us u) e c) in (w.0, w.1, subst (IsSame w.0) w.2 (same w.0));
  }

  by_filter : (keep : Storage → Bool) → ((t : Storage) → Contains m.storages t → IsTrue (is_pinned m t.id) → IsTrue (keep t)) → n.storages ≡ filter keep m.storages → Follows m n
  by_filter keep pins e = record {
    stays = λ t c p. (t, subst (λ (us : List Storage). Contains us t) (sym e) (into_filter keep m.storages t c (pins t c p)), itself t);
    was = λ u c lt. (u, (from_filter keep m.storages u (subst (λ (us : List Storage). Contains us u) e c)).0, itself u);
  }

same_phase : (id : ℕ) (phase : Phase) (u : Storage) → IsSame u (in_phase id phase u)
same_phase id phase u = record { id = phases.id_same id phase u; slot = phases.slot_same id phase u; rows = phases.rows_same id phase u; bytes = phases.bytes_same id phase u }

same_exchanged : (g : Shrink) (u : Storage) → IsSame u (exchanged g u)
same_exchanged g u = record { id = ends.id_same g u; slot = ends.slot_same g u; rows = ends.rows_same g u; bytes = ends.bytes_same g u }

same_retired : (m : State) (u : Storage) → IsSame u (retired m u)
same_retired m u =
    cond_both (is_live u && not (has_named_row m u)) (record u { phase = Retired }) u (IsSame u)
    (λ t. record { id = refl; slot = refl; rows = refl; bytes = refl }) (λ f. itself u)

found_pinned : (m : State) (place : Place) (pass : ℕ) → (pinned m pass place).storages ≡ m.storages
found_pinned m Cached pass = refl
found_pinned m (InStorage id) pass = refl

module _ (m : State) (h : IsSound m) where
  -- what is pinned is not being filled
  not_filling : (t : Storage) → Contains m.storages t → IsTrue (is_pinned m t.id) → IsFalse (is_filling t)
  not_filling t c p = pinned_filled m h t.id p t (at_id m h t c)

  reclaim_follows : (keys : List (List ℕ)) → Follows m (reclaimed keys m)
  reclaim_follows keys =
      let first = drop_shadowed keys m in
      let second = drop_spent keys (retire_unnamed first) in
      by_map m (reclaimed keys m) (λ u. retired second (retired first u)) (λ u. in_turn u (retired first u) (retired second (retired first u)) (same_retired first u) (same_retired second (retired first u)))
      (sym (map_both (retired first) (retired second) m.storages))

  flush_abort_follows : (slot : ℕ) (t : Storage) → open_flush m slot ≡ Some t → Follows m (flush_dropped m t)
  flush_abort_follows slot t e =
      let is = (opened m slot t h e).0 in
      by_filter m (flush_dropped m t) (λ u. not (eqb u.id t.id))
      (λ u c p. not_from_false _ (ne_eqb u.id t.id (λ same. true≢false (sym is.fills ∙ ap is_filling (sym (one m t h is u c same)) ∙ not_filling u c p)))) refl

  copy_follows : (slot : ℕ) (g : Shrink) → open_shrink m slot ≡ Some g → Follows m (copy_dropped m g)
  copy_follows slot g e =
      by_filter m (copy_dropped m g) (λ u. not (eqb u.id g.new))
      (λ u c p. not_from_false _ (ne_eqb u.id g.new (λ same. true≢false (sym (new_filling m h.ids g (is_open m slot g e).0 u c same) ∙ not_filling u c p)))) refl

  pub step_follows : (pass : ℕ) (c : Call) → Follows m (step m pass c).0
  step_follows pass c = through_step (Follows m) m pass (by_same m m refl) (record {
    store = λ slot key account e. by_same m _ refl;
    root = λ slot e. by_same m _ refl;
    purge = λ slot e. by_same m _ refl;
    load = λ view key t e f. by_same m (pinned m pass (place_of m t.slot t.key)) (found_pinned m (place_of m t.slot t.key) pass);
    unpin = λ id. by_same m _ refl;
    lease = λ max_root e. by_same m _ refl;
    end_lease = λ max_root. by_same m _ refl;
    flush_begin = λ slot e. by_push m (with_filling m slot (flush_rows m slot)) (filling_with m slot (flush_rows m slot)) refl refl;
    flush_end = λ slot t e. by_map m (flushed_with m t) (in_phase t.id Live) (same_phase t.id Live) refl;
    flush_abort = flush_abort_follows;
    raise = λ upto e. by_same m _ refl;
    reclaim = reclaim_follows;
    shrink_begin = λ slot old e f. by_push m (shrinking m old) (filling_with m old.slot (shrink_rows m old)) refl refl;
    installed = λ slot g e f. by_map m (installed m g) (exchanged g) (same_exchanged g) refl;
    dropped = copy_follows;
    snap_begin = λ slot e. by_same m _ refl;
    snap_end = by_same m _ refl;
    recycle = by_filter m (recycled m) (λ t. not (is_retired t) || is_pinned m t.id) (λ t d p. or_right (not (is_retired t)) (is_pinned m t.id) p) refl;
  }) c

-- ids are given out upwards
pub next_grows : (m : State) (pass : ℕ) (c : Call) → m.next_id ≤ (step m pass c).0.next_id
next_grows m pass c = through_step (λ n. m.next_id ≤ n.next_id) m pass (omega arith) (record {
  store = λ slot key account e. omega arith;
  root = λ slot e. omega arith;
  purge = λ slot e. omega arith;
  load = λ view key t e f. by (place_of m t.slot t.key);
  unpin = λ id. omega arith;
  lease = λ max_root e. omega arith;
  end_lease = λ max_root. omega arith;
  flush_begin = λ slot e. omega arith;
  flush_end = λ slot t e. omega arith;
  flush_abort = λ slot t e. omega arith;
  raise = λ upto e. omega arith;
  reclaim = λ keys. omega arith;
  shrink_begin = λ slot old e f. omega arith;
  installed = λ slot g e f. omega arith;
  dropped = λ slot g e. omega arith;
  snap_begin = λ slot e. omega arith;
  snap_end = omega arith;
  recycle = omega arith;
}) c
  where
    by : (place : Place) → m.next_id ≤ (pinned m pass place).next_id
    by Cached = omega arith
    by (InStorage id) = omega arith
