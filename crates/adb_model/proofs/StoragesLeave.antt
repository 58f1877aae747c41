-- Storages leave that nothing needs, with or without a shrink.
use Rattle.std.proofs.Common.{◌≡◌, ◌≢◌, ℕ, ◌<◌, ◌≤◌, eqb, Bool, false, not, ◌&&◌, IsTrue, IsFalse, List, length, get_or, filter, All, AllPairs, Contains, sum_by, refl, sym, ◌∙◌, subst, inl, inr, arith}
use Rattle.std.specs.List.{list_any}
use Rattle.std.specs.Option.{option_map_or}
use Rattle.std.proofs.lemmas.Bool.{true≢false, and_parts, eqb-true, eq-eqb, not-true, false_from_ne_true}
use Rattle.std.proofs.lemmas.List.Elements.{All-filter, All-contains, Contains-get_or}
use Rattle.std.proofs.lemmas.List.Filters.{sum_by-filter_both, length-filter_both}
use Rattle.std.proofs.lemmas.List.Kept.{AllPairs-filter}
use Rattle.adb_model.specs.Lists.{among}
use Rattle.adb_model.specs.State.{Storage, Shrink, State}
use Rattle.adb_model.specs.Presence.{is_live, is_held, is_named, has_row}
use Rattle.adb_model.specs.Reclaim.{has_named_row}
use Rattle.adb_model.specs.Storages.{is_filling, is_copy}
use Rattle.adb_model.specs.Gone.{IsGone}
use Rattle.adb_model.specs.Sound.{IsSound, LimitsHold, SlotFits, SlotsFit, ShrinkFits, IdsFit, RowsFit, CopyFits}
use Rattle.adb_model.proofs.Members.{member, any_at, into_filter, from_filter}
use Rattle.adb_model.proofs.Filters.{any_unfilter}

abbrev pub left : State → (Storage → Bool) → List Shrink → State
left m keep shrinks = record m { storages = filter keep m.storages; shrinks = shrinks }

-- Live storages stay, and what pins, the snapshot and the shrinks that stay speak of
pub record MayLeave (m : State) (keep : Storage → Bool) (shrinks : List Shrink) : Type 0 where
  pub live : (u : Storage) → Contains m.storages u → IsTrue (is_live u) → IsTrue (keep u)
  pub pins : (u : Storage) → Contains m.storages u → IsFalse (is_filling u) → IsTrue (list_any (λ p. eqb p.id u.id) m.pins) → IsTrue (keep u)
  pub snap : (u : Storage) → Contains m.storages u → IsFalse (is_filling u) → IsTrue (option_map_or (λ n. among u.id n.ids) m.snap false) → IsTrue (keep u)
  pub old : (g : Shrink) → Contains shrinks g → (u : Storage) → Contains m.storages u → u.id ≡ g.old → IsTrue (keep u)
  pub new : (g : Shrink) → Contains shrinks g → (u : Storage) → Contains m.storages u → u.id ≡ g.new → IsTrue (keep u)
  pub fewer : (g : Shrink) → Contains shrinks g → Contains m.shrinks g
  pub one_shrink : AllPairs (λ g f. g.slot ≢ f.slot) shrinks
  pub copies : (u : Storage) → Contains m.storages u → IsTrue (keep u) → IsTrue (is_filling u) → is_copy m u.id ≡ is_copy (left m keep shrinks) u.id

sum_filter : {X : Type 0} (p : X → Bool) (f : X → ℕ) (xs : List X) → sum_by f (filter p xs) ≤ sum_by f xs
sum_filter p f xs = omega (arith, sum_by-filter_both p (λ x. not (p x)) (λ x. refl) f xs)

length_filter : {X : Type 0} (p : X → Bool) (xs : List X) → length (filter p xs) ≤ length xs
length_filter p xs = omega (arith, length-filter_both p (λ x. not (p x)) (λ x. refl) xs)

module _ (m : State) (keep : Storage → Bool) (shrinks : List Shrink) (may : MayLeave m keep shrinks) (h : IsSound m) where
  -- what some storage shows, one that stays shows
  still : (test : Storage → Bool) → ((u : Storage) → Contains m.storages u → IsTrue (test u) → IsTrue (keep u)) → IsTrue (list_any test m.storages) → IsTrue (list_any test (filter keep m.storages))
  still test stays t = let a = member test m.storages t in any_at test (filter keep m.storages) a.0 (into_filter keep m.storages a.0 a.1 (stays a.0 a.1 a.2)) a.2

  limits : LimitsHold (left m keep shrinks)
  limits = record {
    roots = h.limits.roots;
    cleaned = h.limits.cleaned;
    leases = h.limits.leases;
    passes = h.limits.passes;
    pins = h.limits.pins;
    bytes = omega (arith, h.limits.bytes, sum_filter keep (λ (u : Storage). u.bytes) m.storages);
    count = omega (arith, h.limits.count, length_filter keep m.storages);
  }

  slot_fits : All (SlotFits (left m keep shrinks)) (filter keep m.storages)
  slot_fits k d lt =
      let u = get_or (filter keep m.storages) k d in
      let from = from_filter keep m.storages u (Contains-get_or (filter keep m.storages) k d lt) in
      let fits : SlotFits m u = All-filter keep (SlotFits m) m.storages h.slots.storages k d lt in
      record { settled = fits.settled; rooted = fits.rooted; copied = λ f. fits.copied f ∙ may.copies u from.0 from.1 f }

  slots : SlotsFit (left m keep shrinks)
  slots = record {
    roots = h.slots.roots;
    named = h.slots.named;
    storages = slot_fits;
    one_live = AllPairs-filter (λ t u. IsTrue (is_live t) → IsTrue (is_live u) → t.slot ≢ u.slot) keep m.storages h.slots.one_live;
    one_filling = AllPairs-filter (λ t u. IsTrue (is_filling t) → IsTrue (is_filling u) → t.slot ≢ u.slot) keep m.storages h.slots.one_filling;
  }

  shrink_fits : (g : Shrink) → Contains shrinks g → ShrinkFits (left m keep shrinks) g
  shrink_fits g c =
      let fits : ShrinkFits m g = All-contains (ShrinkFits m) m.shrinks g h.ids.shrinks (may.fewer g c) in
      record {
        old = still (λ u. (eqb u.id g.old && eqb u.slot g.slot) && not (is_filling u)) (λ u d t. may.old g c u d (eqb-true u.id g.old (and_parts _ _ (and_parts _ _ t).0).0)) fits.old;
        new = still (λ u. (eqb u.id g.new && eqb u.slot g.slot) && is_filling u) (λ u d t. may.new g c u d (eqb-true u.id g.new (and_parts _ _ (and_parts _ _ t).0).0)) fits.new;
      }

  ids : IdsFit (left m keep shrinks)
  ids = record {
    differ = AllPairs-filter (λ t u. t.id ≢ u.id) keep m.storages h.ids.differ;
    below = All-filter keep (λ t. t.id < m.next_id) m.storages h.ids.below;
    one_shrink = may.one_shrink;
    shrinks = λ k d lt. shrink_fits (get_or shrinks k d) (Contains-get_or shrinks k d lt);
    pins = λ k d lt.
        let p = get_or m.pins k d in
        still (λ u. eqb u.id p.id && not (is_filling u)) (λ u c t.
        let parts = and_parts _ _ t in
        may.pins u c (not-true _ parts.1) (any_at (λ q. eqb q.id u.id) m.pins p (Contains-get_or m.pins k d lt) (eq-eqb p.id u.id (sym (eqb-true u.id p.id parts.0)))))
        (h.ids.pins k d lt);
    snap = λ id i.
        still (λ u. eqb u.id id && not (is_filling u)) (λ u c t.
        let parts = and_parts _ _ t in
        may.snap u c (not-true _ parts.1) (subst (λ (n : ℕ). IsTrue (option_map_or (λ s. among n s.ids) m.snap false)) (sym (eqb-true u.id id parts.0)) i))
        (h.ids.snap id i);
  }

  -- what is held is as before
  pub held_before : (s : ℕ) (k : List ℕ) → IsTrue (is_held (left m keep shrinks) s k) → IsTrue (is_held m s k)
  held_before s k held = any_unfilter (λ u. (is_live u && eqb u.slot s) && has_row k u.rows) keep m.storages held

  pub held_after : (s : ℕ) (k : List ℕ) → IsTrue (is_held m s k) → IsTrue (is_held (left m keep shrinks) s k)
  held_after s k held = still (λ u. (is_live u && eqb u.slot s) && has_row k u.rows) (λ u c t. may.live u c (and_parts _ _ (and_parts _ _ t).0).0) held

  copy_fits : (g : Shrink) → Contains shrinks g → CopyFits (left m keep shrinks) g
  copy_fits g c =
      let fits : CopyFits m g = All-contains (CopyFits m) m.shrinks g h.copies (may.fewer g c) in
      record {
        named = All-filter keep (λ u. u.id ≡ g.new → (k : List ℕ) → IsTrue (is_named m g.slot k) → IsTrue (has_row k u.rows)) m.storages fits.named;
        old = All-filter keep (λ u. u.id ≡ g.new → All (λ v. v.id ≡ g.old → (k : List ℕ) → IsTrue (has_row k u.rows) → IsTrue (has_row k v.rows)) (filter keep m.storages)) m.storages
            (λ i d lt e. All-filter keep (λ v. v.id ≡ g.old → (k : List ℕ) → IsTrue (has_row k (get_or m.storages i d).rows) → IsTrue (has_row k v.rows)) m.storages (fits.old i d lt e));
      }

  gone_kept : (s : ℕ) (k : List ℕ) → IsGone m s k → IsGone (left m keep shrinks) s k
  gone_kept s k (inl c) = inl c
  gone_kept s k (inr b) = inr (record {
    tomb = b.tomb;
    upto = b.upto;
    lowest = λ q lt. let low = b.lowest q lt in (low.0, false_from_ne_true _ (λ held. true≢false (sym (held_before q k held) ∙ low.1)));
  })

  pub storages_left : IsSound (left m keep shrinks)
  storages_left = record {
    limits = limits;
    slots = slots;
    ids = ids;
    rows = All-filter keep (RowsFit m) m.storages h.rows;
    names = record {
      held = λ s k n. held_after s k (h.names.held s k n);
      live = All-filter keep (λ t. IsTrue (is_live t) → IsTrue (has_named_row m t)) m.storages h.names.live;
    };
    copies = λ k d lt. copy_fits (get_or shrinks k d) (Contains-get_or shrinks k d lt);
    gone = λ s k st f u. gone_kept s k (h.gone s k st f u);
  }
