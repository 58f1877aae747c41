-- The end of a shrink keeps a sound state sound. A copy that is installed adds no key that is held.
use Rattle.std.proofs.Common.{◌≡◌, ◌≢◌, ℕ, ◌+◌, ◌<◌, eqb, Bool, true, false, cond, not, ◌&&◌, IsTrue, IsFalse, List, [], ◌∷◌, get_or, map, All, Contains, sum_by, refl, sym, ap, ap₂, ◌∙◌, subst, inl, inr, ◌⊎◌, arith}
use Rattle.std.specs.List.{list_any}
use Rattle.std.specs.Str.{bytes_eq}
use Rattle.std.proofs.lemmas.Bool.{true≢false, cases_eq, and_parts, and_from, eqb-true, eq-eqb, not-true, not_from_false, false_from_ne_true}
use Rattle.std.proofs.lemmas.List.Elements.{All-map, All-contains, Contains-get_or}
use Rattle.std.proofs.lemmas.List.Kept.{AllPairs-filter}
use Rattle.std.proofs.lemmas.List.Sums.{sum_by-cons}
use Rattle.std.proofs.lemmas.List.{length-map}
use Rattle.adb_model.specs.Lists.{among}
use Rattle.adb_model.specs.State.{Row, Live, Retired, Storage, Shrink, State}
use Rattle.adb_model.specs.Presence.{is_named, is_held, is_live, has_row}
use Rattle.adb_model.specs.Storages.{is_filling, open_shrink, in_phase}
use Rattle.adb_model.specs.Reclaim.{has_named_row}
use Rattle.adb_model.specs.Call.{NotShrinking, Done, Superseded, Reply}
use Rattle.adb_model.specs.Shrink.{is_current, exchanged, installed, copy_dropped, shrink_end_step}
use Rattle.adb_model.specs.Gone.{IsGone}
use Rattle.adb_model.specs.Sound.{IsSound, LimitsHold, SlotFits, SlotsFit, ShrinkFits, IdsFit, RowsFit, CopyFits, is_settled}
use Rattle.adb_model.proofs.Members.{member, any_at, any_weaker, any_map}
use Rattle.adb_model.proofs.Pairs.{pairs_at, pairs_map}
use Rattle.adb_model.proofs.Distinct.{bytes_eq-true}
use Rattle.adb_model.proofs.Outcomes.{through_found}
use Rattle.adb_model.proofs.Phases.{live_filled, at_phase}
use Rattle.adb_model.proofs.Ids.{one_id, old_of, new_of, old_filled, new_slot}
use Rattle.adb_model.proofs.ShrinkAbortKeeps as abort
use Rattle.adb_model.proofs.ShrinkAbortKeeps.{others, is_open}

module _ (g : Shrink) (u : Storage) where
  at_exchange : (P : Storage → Type 0) → (u.id ≡ g.new → P (record u { phase = Live })) → (u.id ≡ g.old → P (record u { phase = Retired })) → (u.id ≢ g.new → u.id ≢ g.old → P u) → P (exchanged g u)
  at_exchange P new old other =
      at_phase g.old Retired u (λ w. P (in_phase g.new Live w))
      (λ e. at_phase g.new Live (record u { phase = Retired }) P new (λ ne. old e))
      (λ ne. at_phase g.new Live u P new (λ nf. other nf ne))

  pub id_same : (exchanged g u).id ≡ u.id
  id_same = at_exchange (λ v. v.id ≡ u.id) (λ e. refl) (λ e. refl) (λ e f. refl)

  pub slot_same : (exchanged g u).slot ≡ u.slot
  slot_same = at_exchange (λ v. v.slot ≡ u.slot) (λ e. refl) (λ e. refl) (λ e f. refl)

  pub rows_same : (exchanged g u).rows ≡ u.rows
  rows_same = at_exchange (λ v. v.rows ≡ u.rows) (λ e. refl) (λ e. refl) (λ e f. refl)

  pub bytes_same : (exchanged g u).bytes ≡ u.bytes
  bytes_same = at_exchange (λ v. v.bytes ≡ u.bytes) (λ e. refl) (λ e. refl) (λ e f. refl)

  pub live_cases : IsTrue (is_live (exchanged g u)) → (u.id ≡ g.new) ⊎ (IsTrue (is_live u) × (u.id ≢ g.old))
  live_cases = at_exchange (λ v. IsTrue (is_live v) → (u.id ≡ g.new) ⊎ (IsTrue (is_live u) × (u.id ≢ g.old))) (λ e live. inl e) (λ e live. absurd (true≢false (sym live))) (λ e f live. inr (live, f))

  pub filling_before : IsTrue (is_filling (exchanged g u)) → IsTrue (is_filling u) × (u.id ≢ g.new)
  filling_before = at_exchange (λ v. IsTrue (is_filling v) → IsTrue (is_filling u) × (u.id ≢ g.new)) (λ e fill. absurd (true≢false (sym fill))) (λ e fill. absurd (true≢false (sym fill))) (λ e f fill. (fill, e))

  settled_before : IsFalse (is_filling u) → IsFalse (is_filling (exchanged g u))
  settled_before settled = at_exchange (λ v. IsFalse (is_filling v)) (λ e. refl) (λ e. refl) (λ e f. settled)

  filling_after : u.id ≢ g.new → u.id ≢ g.old → IsTrue (is_filling u) → IsTrue (is_filling (exchanged g u))
  filling_after ne nf fill = at_exchange (λ v. IsTrue (is_filling v)) (λ e. absurd (ne e)) (λ e. absurd (nf e)) (λ e f. fill)

  live_after : u.id ≢ g.old → IsTrue (is_live u) → IsTrue (is_live (exchanged g u))
  live_after nf live = at_exchange (λ v. IsTrue (is_live v)) (λ e. refl) (λ e. absurd (nf e)) (λ e f. live)

  new_live : g.new ≢ g.old → u.id ≡ g.new → IsTrue (is_live (exchanged g u))
  new_live apart n = at_exchange (λ v. IsTrue (is_live v)) (λ e. refl) (λ e. absurd (apart (sym n ∙ e))) (λ e f. absurd (e n))

pub used_same : (g : Shrink) (us : List Storage) → sum_by (λ v. v.bytes) (map (exchanged g) us) ≡ sum_by (λ v. v.bytes) us
used_same g [] = refl
used_same g (u ∷ us) = sum_by-cons (λ (v : Storage). v.bytes) (exchanged g u) (map (exchanged g) us) ∙ ap₂ (λ a b. a + b) (bytes_same g u) (used_same g us) ∙ sym (sum_by-cons (λ (v : Storage). v.bytes) u us)

module _ (m : State) (h : IsSound m) (g : Shrink) (c : Contains m.shrinks g) (current : IsTrue (is_current m g)) where
  -- the old storage is Live
  old_live : (u : Storage) → Contains m.storages u → u.id ≡ g.old → IsTrue (is_live u)
  old_live u d e =
      let a = member (λ v. eqb v.id g.old && is_live v) m.storages current in
      let parts = and_parts (eqb a.0.id g.old) (is_live a.0) a.2 in
      ap is_live (one_id m h.ids u a.0 d a.1 (e ∙ sym (eqb-true a.0.id g.old parts.0))) ∙ parts.1

  apart : g.new ≢ g.old
  apart e = let n = new_of m h.ids g c in true≢false (sym n.2 ∙ old_filled m h.ids g c n.0 n.1.there (n.1.id ∙ e))

  flushed : IsTrue (among g.slot m.flushed)
  flushed = let o = old_of m h.ids g c in
      let fits : SlotFits m o.0 = All-contains (SlotFits m) m.storages o.0 h.slots.storages o.1.there in
      subst (λ n. IsTrue (among n m.flushed)) o.1.slot (fits.settled o.2)

  limits : LimitsHold (installed m g)
  limits = record {
    roots = h.limits.roots;
    cleaned = h.limits.cleaned;
    leases = h.limits.leases;
    passes = h.limits.passes;
    pins = h.limits.pins;
    bytes = omega (arith, used_same g m.storages, h.limits.bytes);
    count = omega (arith, length-map m.storages (exchanged g), h.limits.count);
  }

  slot_fits : (u : Storage) → Contains m.storages u → SlotFits m u → SlotFits (installed m g) (exchanged g u)
  slot_fits u d fits = at_exchange g u (SlotFits (installed m g))
      (λ e. record { settled = λ f. subst (λ n. IsTrue (among n m.flushed)) (sym (new_slot m h.ids g c u d e)) flushed; rooted = λ f. absurd (true≢false (sym f)); copied = λ f. absurd (true≢false (sym f)) })
      (λ e. record { settled = λ f. fits.settled (live_filled u (old_live u d e)); rooted = λ f. absurd (true≢false (sym f)); copied = λ f. absurd (true≢false (sym f)) })
      (λ ne nf. record { settled = fits.settled; rooted = fits.rooted; copied = λ f. fits.copied f ∙ abort.copies_same m h g c u ne })

  live_apart : (u v : Storage) → Contains m.storages u → Contains m.storages v → u.id ≢ v.id → (IsTrue (is_live u) → IsTrue (is_live v) → u.slot ≢ v.slot)
      → IsTrue (is_live (exchanged g u)) → IsTrue (is_live (exchanged g v)) → u.slot ≢ v.slot
  live_apart u v d b ne split live_u live_v = by (live_cases g u live_u) (live_cases g v live_v)
    where
      -- a Live storage of the shrink's slot is the old one
      only_old : (w : Storage) → Contains m.storages w → IsTrue (is_live w) → w.slot ≡ g.slot → w.id ≡ g.old
      only_old w d live e =
          let o = old_of m h.ids g c in
          let lives = old_live o.0 o.1.there o.1.id in
          elim (pairs_at (λ t u. IsTrue (is_live t) → IsTrue (is_live u) → t.slot ≢ u.slot) m.storages w o.0 h.slots.one_live d o.1.there) [
            | inl same ↦ ap (λ (u : Storage). u.id) same ∙ o.1.id
            | inr (inl away) ↦ absurd (away live lives (e ∙ sym o.1.slot))
            | inr (inr away) ↦ absurd (away lives live (o.1.slot ∙ sym e))
          ]

      by : (u.id ≡ g.new) ⊎ (IsTrue (is_live u) × (u.id ≢ g.old)) → (v.id ≡ g.new) ⊎ (IsTrue (is_live v) × (v.id ≢ g.old)) → u.slot ≢ v.slot
      by (inl a) (inl b) e = ne (a ∙ sym b)
      by (inl a) (inr q) e = q.1 (only_old v b q.0 (sym e ∙ new_slot m h.ids g c u d a))
      by (inr p) (inl q) e = p.1 (only_old u d p.0 (e ∙ new_slot m h.ids g c v b q))
      by (inr p) (inr q) e = split p.0 q.0 e

  apart_after : (u v : Storage) → u.slot ≢ v.slot → (exchanged g u).slot ≢ (exchanged g v).slot
  apart_after u v r e = r (sym (slot_same g u) ∙ e ∙ slot_same g v)

  slots : SlotsFit (installed m g)
  slots = record {
    roots = h.slots.roots;
    named = h.slots.named;
    storages = All-map (SlotFits (installed m g)) (exchanged g) m.storages (λ k d lt. slot_fits (get_or m.storages k d) (Contains-get_or m.storages k d lt) (h.slots.storages k d lt));
    one_live = pairs_map (λ u v. IsTrue (is_live u) → IsTrue (is_live v) → u.slot ≢ v.slot) (exchanged g) m.storages (λ i j d lt within live_u live_v.
        apart_after (get_or m.storages i d) (get_or m.storages j d)
        (live_apart (get_or m.storages i d) (get_or m.storages j d) (Contains-get_or m.storages i d (omega arith)) (Contains-get_or m.storages j d within) (h.ids.differ i j d lt within) (h.slots.one_live i j d lt within) live_u live_v));
    one_filling = pairs_map (λ u v. IsTrue (is_filling u) → IsTrue (is_filling v) → u.slot ≢ v.slot) (exchanged g) m.storages (λ i j d lt within fill_u fill_v.
        apart_after (get_or m.storages i d) (get_or m.storages j d)
        (h.slots.one_filling i j d lt within (filling_before g (get_or m.storages i d) fill_u).0 (filling_before g (get_or m.storages j d) fill_v).0));
  }

  settled_after : (id : ℕ) → IsTrue (is_settled m id) → IsTrue (is_settled (installed m g) id)
  settled_after id s =
      any_map (exchanged g) (λ u. eqb u.id id && not (is_filling u)) m.storages
      ∙ any_weaker (λ u. eqb u.id id && not (is_filling u)) (λ u. eqb (exchanged g u).id id && not (is_filling (exchanged g u))) m.storages
      (λ u d b. let parts = and_parts _ _ b in and_from _ _ (ap (λ (n : ℕ). eqb n id) (id_same g u) ∙ parts.0) (not_from_false _ (settled_before g u (not-true _ parts.1)))) s

  shrink_fits : (f : Shrink) → Contains (others m h g c) f → ShrinkFits (installed m g) f
  shrink_fits f d =
      let o = abort.other_slot m h g c f d in
      let fits : ShrinkFits m f = All-contains (ShrinkFits m) m.shrinks f h.ids.shrinks o.0 in
      record {
        old =
            any_map (exchanged g) (λ u. (eqb u.id f.old && eqb u.slot f.slot) && not (is_filling u)) m.storages
            ∙ any_weaker (λ u. (eqb u.id f.old && eqb u.slot f.slot) && not (is_filling u)) (λ u. (eqb (exchanged g u).id f.old && eqb (exchanged g u).slot f.slot) && not (is_filling (exchanged g u))) m.storages
            (λ u d b.
            let parts = and_parts _ _ b in
            let first = and_parts _ _ parts.0 in
            and_from _ _ (and_from _ _ (ap (λ (n : ℕ). eqb n f.old) (id_same g u) ∙ first.0) (ap (λ (n : ℕ). eqb n f.slot) (slot_same g u) ∙ first.1)) (not_from_false _ (settled_before g u (not-true _ parts.1))))
            fits.old;
        new =
            any_map (exchanged g) (λ u. (eqb u.id f.new && eqb u.slot f.slot) && is_filling u) m.storages
            ∙ any_weaker (λ u. (eqb u.id f.new && eqb u.slot f.slot) && is_filling u) (λ u. (eqb (exchanged g u).id f.new && eqb (exchanged g u).slot f.slot) && is_filling (exchanged g u)) m.storages
            (λ u b t.
            let parts = and_parts _ _ t in
            let first = and_parts _ _ parts.0 in
            let of = eqb-true u.id f.new first.0 in
            let ne : u.id ≢ g.new = λ e. abort.other_new m h g c f d (sym of ∙ e) in
            let nf : u.id ≢ g.old = λ e. true≢false (sym parts.1 ∙ old_filled m h.ids g c u b e) in
            and_from _ _ (and_from _ _ (ap (λ (n : ℕ). eqb n f.new) (id_same g u) ∙ first.0) (ap (λ (n : ℕ). eqb n f.slot) (slot_same g u) ∙ first.1)) (filling_after g u ne nf parts.1))
            fits.new;
      }

  ids : IdsFit (installed m g)
  ids = record {
    differ = pairs_map (λ u v. u.id ≢ v.id) (exchanged g) m.storages (λ i j d lt within e.
        h.ids.differ i j d lt within (sym (id_same g (get_or m.storages i d)) ∙ e ∙ id_same g (get_or m.storages j d)));
    below = All-map (λ u. u.id < m.next_id) (exchanged g) m.storages (λ k d lt. subst (λ n. n < m.next_id) (sym (id_same g (get_or m.storages k d))) (h.ids.below k d lt));
    one_shrink = AllPairs-filter (λ a b. a.slot ≢ b.slot) (λ k. not (eqb k.slot g.slot)) m.shrinks h.ids.one_shrink;
    shrinks = λ k d lt. shrink_fits (get_or (others m h g c) k d) (Contains-get_or (others m h g c) k d lt);
    pins = λ k d lt. settled_after _ (h.ids.pins k d lt);
    snap = λ id i. settled_after id (h.ids.snap id i);
  }

  row_fits : (u : Storage) → RowsFit m u → RowsFit (installed m g) (exchanged g u)
  row_fits u fits = at_exchange g u (RowsFit (installed m g))
      (λ e. record { stored = fits.stored; last = fits.last; some = λ f. absurd (true≢false (sym f)); whole = λ f. absurd (true≢false (sym f)) })
      (λ e. record { stored = fits.stored; last = fits.last; some = λ f. absurd (true≢false (sym f)); whole = λ f. absurd (true≢false (sym f)) })
      (λ ne nf. record { stored = fits.stored; last = fits.last; some = fits.some; whole = fits.whole })

  copy : CopyFits m g
  copy = All-contains (CopyFits m) m.shrinks g h.copies c

  -- the copy has the named keys, and no key that the old storage has not
  copy_named : (u : Storage) → Contains m.storages u → u.id ≡ g.new → (k : List ℕ) → IsTrue (is_named m g.slot k) → IsTrue (has_row k u.rows)
  copy_named u d = All-contains (λ t. t.id ≡ g.new → (k : List ℕ) → IsTrue (is_named m g.slot k) → IsTrue (has_row k t.rows)) m.storages u copy.named d

  copy_old : (u v : Storage) → Contains m.storages u → Contains m.storages v → u.id ≡ g.new → v.id ≡ g.old → (k : List ℕ) → IsTrue (has_row k u.rows) → IsTrue (has_row k v.rows)
  copy_old u v d b e =
      All-contains (λ w. w.id ≡ g.old → (k : List ℕ) → IsTrue (has_row k u.rows) → IsTrue (has_row k w.rows)) m.storages v
      (All-contains (λ t. t.id ≡ g.new → All (λ w. w.id ≡ g.old → (k : List ℕ) → IsTrue (has_row k t.rows) → IsTrue (has_row k w.rows)) m.storages) m.storages u copy.old d e) b

  held_of : (u : Storage) (s : ℕ) (k : List ℕ) → Contains m.storages u → IsTrue (is_live (exchanged g u)) → u.slot ≡ s → IsTrue (has_row k u.rows) → IsTrue (is_held (installed m g) s k)
  held_of u s k d live e row =
      any_map (exchanged g) (λ u. (is_live u && eqb u.slot s) && has_row k u.rows) m.storages
      ∙ any_at (λ u. (is_live (exchanged g u) && eqb (exchanged g u).slot s) && has_row k (exchanged g u).rows) m.storages u d
      (and_from _ _ (and_from _ _ live (eq-eqb _ s (slot_same g u ∙ e))) (ap (has_row k) (rows_same g u) ∙ row))

  -- no more is held
  held_before : (s : ℕ) (k : List ℕ) → IsTrue (is_held (installed m g) s k) → IsTrue (is_held m s k)
  held_before s k held =
      let a = member (λ u. (is_live (exchanged g u) && eqb (exchanged g u).slot s) && has_row k (exchanged g u).rows) m.storages
      (sym (any_map (exchanged g) (λ u. (is_live u && eqb u.slot s) && has_row k u.rows) m.storages) ∙ held) in
      let parts = and_parts _ _ a.2 in
      let first = and_parts _ _ parts.0 in
      let slot = sym (ap (λ (n : ℕ). eqb n s) (slot_same g a.0)) ∙ first.1 in
      let row = sym (ap (has_row k) (rows_same g a.0)) ∙ parts.1 in
      elim (live_cases g a.0 first.0) [
        | inl e ↦
            let o = old_of m h.ids g c in
            any_at (λ u. (is_live u && eqb u.slot s) && has_row k u.rows) m.storages o.0 o.1.there
            (and_from _ _ (and_from _ _ (old_live o.0 o.1.there o.1.id) (eq-eqb o.0.slot s (o.1.slot ∙ sym (new_slot m h.ids g c a.0 a.1 e) ∙ eqb-true a.0.slot s slot))) (copy_old a.0 o.0 a.1 o.1.there e o.1.id k row))
        | inr p ↦ any_at (λ u. (is_live u && eqb u.slot s) && has_row k u.rows) m.storages a.0 a.1 (and_from _ _ (and_from _ _ p.0 slot) row)
      ]

  named_held : (s : ℕ) (k : List ℕ) → IsTrue (is_named m s k) → IsTrue (is_held (installed m g) s k)
  named_held s k named =
      let a = member (λ u. (is_live u && eqb u.slot s) && has_row k u.rows) m.storages (h.names.held s k named) in
      let parts = and_parts _ _ a.2 in
      let first = and_parts _ _ parts.0 in
      let slot = eqb-true a.0.slot s first.1 in
      elim (cases_eq a.0.id g.old) [
        | inl e ↦
            let n = new_of m h.ids g c in
            let o = old_of m h.ids g c in
            let same : g.slot ≡ s = sym o.1.slot ∙ ap (λ (u : Storage). u.slot) (one_id m h.ids o.0 a.0 o.1.there a.1 (o.1.id ∙ sym e)) ∙ slot in
            held_of n.0 s k n.1.there (new_live g n.0 apart n.1.id) (n.1.slot ∙ same) (copy_named n.0 n.1.there n.1.id k (subst (λ n. IsTrue (is_named m n k)) (sym same) named))
        | inr ne ↦ held_of a.0 s k a.1 (live_after g a.0 ne first.0) slot parts.1
      ]

  named_row : (u : Storage) → Contains m.storages u → IsTrue (is_live (exchanged g u)) → IsTrue (has_named_row (installed m g) (exchanged g u))
  named_row u d live =
      ap₂ (λ (s : ℕ) (rows : List Row). list_any (λ r. is_named m s r.key) rows) (slot_same g u) (rows_same g u)
      ∙ elim (live_cases g u live) [
        | inl e ↦
            let o = old_of m h.ids g c in
            let names : IsTrue (has_named_row m o.0) = All-contains (λ t. IsTrue (is_live t) → IsTrue (has_named_row m t)) m.storages o.0 h.names.live o.1.there (old_live o.0 o.1.there o.1.id) in
            let r = member (λ r. is_named m o.0.slot r.key) o.0.rows names in
            let named : IsTrue (is_named m g.slot r.0.key) = subst (λ n. IsTrue (is_named m n r.0.key)) o.1.slot r.2 in
            let row = member (λ q. bytes_eq q.key r.0.key) u.rows (copy_named u d e r.0.key named) in
            any_at (λ q. is_named m u.slot q.key) u.rows row.0 row.1
            (subst (λ n. IsTrue (is_named m n row.0.key)) (sym (new_slot m h.ids g c u d e)) (subst (λ q. IsTrue (is_named m g.slot q)) (sym (bytes_eq-true row.0.key r.0.key row.2)) named))
        | inr p ↦ All-contains (λ t. IsTrue (is_live t) → IsTrue (has_named_row m t)) m.storages u h.names.live d p.0
      ]

  copy_fits : (f : Shrink) → Contains (others m h g c) f → CopyFits (installed m g) f
  copy_fits f d =
      let fits : CopyFits m f = All-contains (CopyFits m) m.shrinks f h.copies (abort.other_slot m h g c f d).0 in
      record {
        named = All-map (λ u. u.id ≡ f.new → (k : List ℕ) → IsTrue (is_named m f.slot k) → IsTrue (has_row k u.rows)) (exchanged g) m.storages
            (λ i d lt e k n. ap (has_row k) (rows_same g (get_or m.storages i d)) ∙ fits.named i d lt (sym (id_same g (get_or m.storages i d)) ∙ e) k n);
        old = All-map (λ u. u.id ≡ f.new → All (λ v. v.id ≡ f.old → (k : List ℕ) → IsTrue (has_row k u.rows) → IsTrue (has_row k v.rows)) (map (exchanged g) m.storages)) (exchanged g) m.storages
            (λ i d lt e. All-map (λ v. v.id ≡ f.old → (k : List ℕ) → IsTrue (has_row k (exchanged g (get_or m.storages i d)).rows) → IsTrue (has_row k v.rows)) (exchanged g) m.storages
            (λ j b within q k r.
            ap (has_row k) (rows_same g (get_or m.storages j b))
            ∙ fits.old i d lt (sym (id_same g (get_or m.storages i d)) ∙ e) j b within (sym (id_same g (get_or m.storages j b)) ∙ q) k
            (sym (ap (has_row k) (rows_same g (get_or m.storages i d))) ∙ r)));
      }

  gone_kept : (s : ℕ) (k : List ℕ) → IsGone m s k → IsGone (installed m g) s k
  gone_kept s k (inl c) = inl c
  gone_kept s k (inr b) = inr (record {
    tomb = b.tomb;
    upto = b.upto;
    lowest = λ q lt. let low = b.lowest q lt in (low.0, false_from_ne_true _ (λ held. true≢false (sym (held_before q k held) ∙ low.1)));
  })

  pub installs : IsSound (installed m g)
  installs = record {
    limits = limits;
    slots = slots;
    ids = ids;
    rows = All-map (RowsFit (installed m g)) (exchanged g) m.storages (λ k d lt. row_fits (get_or m.storages k d) (h.rows k d lt));
    names = record {
      held = named_held;
      live = All-map (λ u. IsTrue (is_live u) → IsTrue (has_named_row (installed m g) u)) (exchanged g) m.storages (λ k d lt. named_row (get_or m.storages k d) (Contains-get_or m.storages k d lt));
    };
    copies = λ k d lt. copy_fits (get_or (others m h g c) k d) (Contains-get_or (others m h g c) k d lt);
    gone = λ s k st f u. gone_kept s k (h.gone s k st f u);
  }

pub shrink_end_keeps : (m : State) (slot : ℕ) → IsSound m → IsSound (shrink_end_step m slot).0
shrink_end_keeps m slot h =
    through_found IsSound (open_shrink m slot) (NotShrinking slot) m _ h (λ g e.
    let c = (is_open m slot g e).0 in
    by g (is_current m g) (λ t. installs m h g c t) (λ f. abort.dropped m h g c))
  where
    by : (g : Shrink) (b : Bool) → (IsTrue b → IsSound (installed m g)) → (IsFalse b → IsSound (copy_dropped m g)) → IsSound (let ended : State × Reply = cond b (installed m g, Done) (copy_dropped m g, Superseded slot g.old) in ended).0
    by g true new old = new refl
    by g false new old = old refl
