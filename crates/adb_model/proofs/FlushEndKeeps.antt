-- The end of a flush keeps a sound state sound.
use Rattle.std.proofs.Common.{◌≡◌, ◌≢◌, ℕ, ◌<◌, eqb, not, ◌&&◌, IsTrue, IsFalse, List, [], ◌∷◌, ◌++◌, length, get_or, map, All, Contains, Some, sum_by, refl, sym, ap, ◌∙◌, subst, inl, inr, ◌⊎◌, ◌+◌, ap₂, arith}
use Rattle.std.specs.List.{list_any}
use Rattle.std.specs.Str.{bytes_eq}
use Rattle.std.proofs.lemmas.Bool.{true≢false, and_parts, and_from, and_left, and_right, and_cases, or_cases, or_parts, or_from, or_left, or_right, eqb-true, eq-eqb, ne_eqb, cases_eq, not-true, not-false, not_from_false, not_from_true, false_from_ne_true}
use Rattle.std.proofs.lemmas.List.Elements.{All-map, All-contains, Contains-get_or}
use Rattle.std.proofs.lemmas.List.Folds.{list_any-append}
use Rattle.std.proofs.lemmas.List.Sums.{sum_by-cons}
use Rattle.std.proofs.lemmas.List.{length-map}
use Rattle.adb_model.specs.Lists.{among}
use Rattle.adb_model.specs.State.{Row, Live, Storage, Pair, Shrink, State}
use Rattle.adb_model.specs.Presence.{has_store, is_cached, is_named, is_present, is_held, is_live, has_row, is_pair}
use Rattle.adb_model.specs.Storages.{is_filling, is_copy, open_flush, in_phase, with_phase}
use Rattle.adb_model.specs.Reclaim.{has_named_row}
use Rattle.adb_model.specs.Call.{NotFlushing}
use Rattle.adb_model.specs.Flush.{flushed_with, flush_end_step}
use Rattle.adb_model.specs.Gone.{IsGone}
use Rattle.adb_model.specs.Sound.{IsSound, LimitsHold, SlotFits, SlotsFit, ShrinkFits, IdsFit, RowsFit, NamesHold, CopyFits, is_settled}
use Rattle.adb_model.proofs.Members.{member, any_at, any_weaker, any_map, any_append_left, any_push, any_push_other, found}
use Rattle.adb_model.proofs.Pairs.{pairs_at, pairs_map, one_by}
use Rattle.adb_model.proofs.Distinct.{bytes_eq_self}
use Rattle.adb_model.proofs.Outcomes.{through_found}
use Rattle.adb_model.proofs.Phases.{live_filled, at_phase, id_same, slot_same, rows_same, bytes_same, other_same}

-- the storage that a flush of its slot is filling
pub record IsOpen (m : State) (t : Storage) : Type 0 where
  pub there : Contains m.storages t
  pub fills : IsTrue (is_filling t)
  pub no_copy : IsFalse (is_copy m t.id)
  pub root : IsTrue (among t.slot m.roots)
  pub unflushed : IsFalse (among t.slot m.flushed)

pub opened : (m : State) (slot : ℕ) (t : Storage) → IsSound m → open_flush m slot ≡ Some t → IsOpen m t × (t.slot ≡ slot)
opened m slot t h e =
    let f = found (λ u. (is_filling u && eqb u.slot slot) && not (is_copy m u.id)) m.storages t e in
    let parts = and_parts _ _ f.1 in
    let fills = and_parts _ _ parts.0 in
    let no_copy = not-true _ parts.1 in
    let fits : SlotFits m t = All-contains (SlotFits m) m.storages t h.slots.storages f.0 in
    (record { there = f.0; fills = fills.0; no_copy = no_copy; root = fits.rooted fills.0; unflushed = fits.copied fills.0 ∙ no_copy }, eqb-true t.slot slot fills.1)

abbrev pub pairs : Storage → List Pair
pairs t = map (λ r. record { slot = t.slot; key = r.key }) t.rows

-- a pair that is named after it was named before, or is of the storage
named_cases : (m : State) (t : Storage) (s : ℕ) (k : List ℕ) → IsTrue (is_named (flushed_with m t) s k) → IsTrue (is_named m s k) ⊎ ((t.slot ≡ s) × IsTrue (has_row k t.rows))
named_cases m t s k n =
    elim (or_cases (is_named m s k) (list_any (is_pair s k) (pairs t)) (sym (list_any-append (is_pair s k) m.named (pairs t)) ∙ n)) [
      | inl before ↦ inl before
      | inr new ↦
          let a = member (λ (r : Row). eqb t.slot s && bytes_eq r.key k) t.rows (sym (any_map (λ (r : Row). record { slot = t.slot; key = r.key }) (is_pair s k) t.rows) ∙ new) in
          let parts = and_parts (eqb t.slot s) (bytes_eq a.0.key k) a.2 in
          inr (eqb-true t.slot s parts.0, any_at (λ r. bytes_eq r.key k) t.rows a.0 a.1 parts.1)
    ]

named_before : (m : State) (t : Storage) (s : ℕ) (k : List ℕ) → IsTrue (is_named m s k) → IsTrue (is_named (flushed_with m t) s k)
named_before m t s k n = any_append_left (is_pair s k) m.named (pairs t) n

named_new : (m : State) (t : Storage) (s : ℕ) (k : List ℕ) → t.slot ≡ s → IsTrue (has_row k t.rows) → IsTrue (is_named (flushed_with m t) s k)
named_new m t s k e r =
    list_any-append (is_pair s k) m.named (pairs t) ∙ or_right (is_named m s k) (list_any (is_pair s k) (pairs t))
    (any_map (λ (r : Row). record { slot = t.slot; key = r.key }) (is_pair s k) t.rows
    ∙ any_weaker (λ (q : Row). bytes_eq q.key k) (λ q. eqb t.slot s && bytes_eq q.key k) t.rows (λ q c b. and_from _ _ (eq-eqb t.slot s e) b) r)

module _ (m : State) (t : Storage) (h : IsSound m) (is : IsOpen m t) where
  -- a storage with the id is this one
  pub one : (u : Storage) → Contains m.storages u → u.id ≡ t.id → u ≡ t
  one u c e = one_by (λ (v : Storage). v.id) m.storages u t h.ids.differ c is.there e

  -- another storage that is being filled is of another slot
  pub other_slot : (u : Storage) → Contains m.storages u → u.id ≢ t.id → IsTrue (is_filling u) → u.slot ≢ t.slot
  other_slot u c ne fill e =
      elim (pairs_at (λ a b. IsTrue (is_filling a) → IsTrue (is_filling b) → a.slot ≢ b.slot) m.storages u t h.slots.one_filling c is.there) [
        | inl same ↦ ne (ap (λ (v : Storage). v.id) same)
        | inr (inl apart) ↦ apart fill is.fills e
        | inr (inr apart) ↦ apart is.fills fill (sym e)
      ]

  flushed_before : (s : ℕ) → IsTrue (among s m.flushed) → IsTrue (among s (m.flushed ++ t.slot ∷ []))
  flushed_before s f = any_append_left (λ x. eqb x s) m.flushed (t.slot ∷ []) f

  flushed_new : (s : ℕ) → t.slot ≡ s → IsTrue (among s (m.flushed ++ t.slot ∷ []))
  flushed_new s e = any_push (λ x. eqb x s) m.flushed t.slot ∙ or_right _ _ (eq-eqb t.slot s e)

  flushed_cases : (s : ℕ) → IsTrue (among s (m.flushed ++ t.slot ∷ [])) → IsTrue (among s m.flushed) ⊎ (t.slot ≡ s)
  flushed_cases s f = elim (or_cases (among s m.flushed) (eqb t.slot s) (sym (any_push (λ x. eqb x s) m.flushed t.slot) ∙ f)) [ inl before ↦ inl before | inr new ↦ inr (eqb-true t.slot s new) ]

  -- a storage that is Live after was Live, or is this one
  pub live_cases : (u : Storage) → IsTrue (is_live (in_phase t.id Live u)) → IsTrue (is_live u) ⊎ (u.id ≡ t.id)
  live_cases u live = elim (cases_eq u.id t.id) [ inl e ↦ inr e | inr ne ↦ inl (sym (ap is_live (other_same t.id Live u ne)) ∙ live) ]

  live_before : (u : Storage) → IsTrue (is_live u) → IsTrue (is_live (in_phase t.id Live u))
  live_before u live = at_phase t.id Live u (λ v. IsTrue (is_live v)) (λ e. refl) (λ ne. live)

  pub filling_before : (u : Storage) → IsTrue (is_filling (in_phase t.id Live u)) → IsTrue (is_filling u) × (u.id ≢ t.id)
  filling_before u fill =
      elim (cases_eq u.id t.id) [
        | inl e ↦ absurd (true≢false (sym fill ∙ live_filled (in_phase t.id Live u) (at_phase t.id Live u (λ v. IsTrue (is_live v)) (λ e. refl) (λ ne. absurd (ne e)))))
        | inr ne ↦ (sym (ap is_filling (other_same t.id Live u ne)) ∙ fill, ne)
      ]

  settled_before : (u : Storage) → IsFalse (is_filling u) → IsFalse (is_filling (in_phase t.id Live u))
  settled_before u settled = at_phase t.id Live u (λ v. IsFalse (is_filling v)) (λ e. refl) (λ ne. settled)

  used_same : (us : List Storage) → sum_by (λ v. v.bytes) (map (in_phase t.id Live) us) ≡ sum_by (λ v. v.bytes) us
  used_same us = sums us
    where
      sums : (us : List Storage) → sum_by (λ v. v.bytes) (map (in_phase t.id Live) us) ≡ sum_by (λ v. v.bytes) us
      sums [] = refl
      sums (u ∷ us) = sum_by-cons (λ (v : Storage). v.bytes) (in_phase t.id Live u) (map (in_phase t.id Live) us) ∙ ap₂ (λ a b. a + b) (bytes_same t.id Live u) (sums us) ∙ sym (sum_by-cons (λ (v : Storage). v.bytes) u us)

  limits : LimitsHold (flushed_with m t)
  limits = record {
    roots = h.limits.roots;
    cleaned = h.limits.cleaned;
    leases = h.limits.leases;
    passes = h.limits.passes;
    pins = h.limits.pins;
    bytes = omega (arith, used_same m.storages, h.limits.bytes);
    count = omega (arith, length-map m.storages (in_phase t.id Live), h.limits.count);
  }

  slot_fits : (u : Storage) → Contains m.storages u → SlotFits m u → SlotFits (flushed_with m t) (in_phase t.id Live u)
  slot_fits u c fits = at_phase t.id Live u (SlotFits (flushed_with m t))
      (λ e. record { settled = λ f. flushed_new u.slot (ap (λ (v : Storage). v.slot) (sym (one u c e))); rooted = λ f. absurd (true≢false (sym f)); copied = λ f. absurd (true≢false (sym f)) })
      (λ ne. record {
        settled = λ f. flushed_before u.slot (fits.settled f);
        rooted = fits.rooted;
        copied = λ f. any_push_other (λ x. eqb x u.slot) m.flushed t.slot (ne_eqb t.slot u.slot (λ e. other_slot u c ne f (sym e))) ∙ fits.copied f;
      })

  live_apart : (u v : Storage) → Contains m.storages u → Contains m.storages v → u.id ≢ v.id → (IsTrue (is_live u) → IsTrue (is_live v) → u.slot ≢ v.slot)
      → IsTrue (is_live (in_phase t.id Live u)) → IsTrue (is_live (in_phase t.id Live v)) → u.slot ≢ v.slot
  live_apart u v c d ne apart live_u live_v = by (live_cases u live_u) (live_cases v live_v)
    where
      -- a Live storage is of a flushed slot
      flushed_slot : (w : Storage) → Contains m.storages w → IsTrue (is_live w) → IsTrue (among w.slot m.flushed)
      flushed_slot w c live = (All-contains (SlotFits m) m.storages w h.slots.storages c).settled (live_filled w live)

      by : IsTrue (is_live u) ⊎ (u.id ≡ t.id) → IsTrue (is_live v) ⊎ (v.id ≡ t.id) → u.slot ≢ v.slot
      by (inl a) (inl b) e = apart a b e
      by (inl a) (inr b) e = true≢false (sym (flushed_slot u c a) ∙ ap (λ (n : ℕ). among n m.flushed) (e ∙ ap (λ (w : Storage). w.slot) (one v d b)) ∙ is.unflushed)
      by (inr a) (inl b) e = true≢false (sym (flushed_slot v d b) ∙ ap (λ (n : ℕ). among n m.flushed) (sym e ∙ ap (λ (w : Storage). w.slot) (one u c a)) ∙ is.unflushed)
      by (inr a) (inr b) e = ne (a ∙ sym b)

  apart_after : (R : ℕ → ℕ → Type 0) (u v : Storage) → R u.slot v.slot → R (in_phase t.id Live u).slot (in_phase t.id Live v).slot
  apart_after R u v r = subst (λ n. R n (in_phase t.id Live v).slot) (sym (slot_same t.id Live u)) (subst (R u.slot) (sym (slot_same t.id Live v)) r)

  slots : SlotsFit (flushed_with m t)
  slots = record {
    roots = λ s f. elim (flushed_cases s f) [ inl before ↦ h.slots.roots s before | inr e ↦ subst (λ n. IsTrue (among n m.roots)) e is.root ];
    named = λ s k n. elim (named_cases m t s k n) [ inl before ↦ flushed_before s (h.slots.named s k before) | inr new ↦ flushed_new s new.0 ];
    storages = All-map (SlotFits (flushed_with m t)) (in_phase t.id Live) m.storages (λ k d lt. slot_fits (get_or m.storages k d) (Contains-get_or m.storages k d lt) (h.slots.storages k d lt));
    one_live = pairs_map (λ u v. IsTrue (is_live u) → IsTrue (is_live v) → u.slot ≢ v.slot) (in_phase t.id Live) m.storages (λ i j d lt within live_u live_v.
        apart_after (λ a b. a ≢ b) (get_or m.storages i d) (get_or m.storages j d)
        (live_apart (get_or m.storages i d) (get_or m.storages j d) (Contains-get_or m.storages i d (omega arith)) (Contains-get_or m.storages j d within) (h.ids.differ i j d lt within) (h.slots.one_live i j d lt within) live_u live_v));
    one_filling = pairs_map (λ u v. IsTrue (is_filling u) → IsTrue (is_filling v) → u.slot ≢ v.slot) (in_phase t.id Live) m.storages (λ i j d lt within fill_u fill_v.
        apart_after (λ a b. a ≢ b) (get_or m.storages i d) (get_or m.storages j d)
        (h.slots.one_filling i j d lt within (filling_before (get_or m.storages i d) fill_u).0 (filling_before (get_or m.storages j d) fill_v).0));
  }

  settled_after : (id : ℕ) → IsTrue (is_settled m id) → IsTrue (is_settled (flushed_with m t) id)
  settled_after id s =
      any_map (in_phase t.id Live) (λ u. eqb u.id id && not (is_filling u)) m.storages
      ∙ any_weaker (λ u. eqb u.id id && not (is_filling u)) (λ u. eqb (in_phase t.id Live u).id id && not (is_filling (in_phase t.id Live u))) m.storages
      (λ u c b. let parts = and_parts _ _ b in and_from _ _ (ap (λ (n : ℕ). eqb n id) (id_same t.id Live u) ∙ parts.0) (not_from_false _ (settled_before u (not-true _ parts.1)))) s

  shrink_fits : (g : Shrink) → Contains m.shrinks g → ShrinkFits m g → ShrinkFits (flushed_with m t) g
  shrink_fits g c fits = record {
    old =
        any_map (in_phase t.id Live) (λ u. (eqb u.id g.old && eqb u.slot g.slot) && not (is_filling u)) m.storages
        ∙ any_weaker (λ u. (eqb u.id g.old && eqb u.slot g.slot) && not (is_filling u)) (λ u. (eqb (in_phase t.id Live u).id g.old && eqb (in_phase t.id Live u).slot g.slot) && not (is_filling (in_phase t.id Live u))) m.storages
        (λ u d b.
        let parts = and_parts _ _ b in
        let first = and_parts _ _ parts.0 in
        and_from _ _ (and_from _ _ (ap (λ (n : ℕ). eqb n g.old) (id_same t.id Live u) ∙ first.0) (ap (λ (n : ℕ). eqb n g.slot) (slot_same t.id Live u) ∙ first.1)) (not_from_false _ (settled_before u (not-true _ parts.1))))
        fits.old;
    new =
        any_map (in_phase t.id Live) (λ u. (eqb u.id g.new && eqb u.slot g.slot) && is_filling u) m.storages
        ∙ any_weaker (λ u. (eqb u.id g.new && eqb u.slot g.slot) && is_filling u) (λ u. (eqb (in_phase t.id Live u).id g.new && eqb (in_phase t.id Live u).slot g.slot) && is_filling (in_phase t.id Live u)) m.storages
        (λ u d b.
        let of = eqb-true u.id g.new (and_parts _ _ (and_parts _ _ b).0).0 in
        let ne : u.id ≢ t.id = λ e. true≢false (sym (any_at (λ f. eqb f.new t.id) m.shrinks g c (eq-eqb g.new t.id (sym of ∙ e))) ∙ is.no_copy) in
        ap (λ (v : Storage). (eqb v.id g.new && eqb v.slot g.slot) && is_filling v) (other_same t.id Live u ne) ∙ b)
        fits.new;
  }

  ids : IdsFit (flushed_with m t)
  ids = record {
    differ = pairs_map (λ u v. u.id ≢ v.id) (in_phase t.id Live) m.storages (λ i j d lt within e.
        h.ids.differ i j d lt within (sym (id_same t.id Live (get_or m.storages i d)) ∙ e ∙ id_same t.id Live (get_or m.storages j d)));
    below = All-map (λ u. u.id < m.next_id) (in_phase t.id Live) m.storages (λ k d lt. subst (λ n. n < m.next_id) (sym (id_same t.id Live (get_or m.storages k d))) (h.ids.below k d lt));
    one_shrink = h.ids.one_shrink;
    shrinks = λ k d lt. shrink_fits (get_or m.shrinks k d) (Contains-get_or m.shrinks k d lt) (h.ids.shrinks k d lt);
    pins = λ k d lt. settled_after _ (h.ids.pins k d lt);
    snap = λ id i. settled_after id (h.ids.snap id i);
  }

  row_fits : (u : Storage) → RowsFit m u → RowsFit (flushed_with m t) (in_phase t.id Live u)
  row_fits u fits = at_phase t.id Live u (RowsFit (flushed_with m t))
      (λ e. record { stored = fits.stored; last = fits.last; some = λ f. absurd (true≢false (sym f)); whole = λ f. absurd (true≢false (sym f)) })
      (λ ne. record { stored = fits.stored; last = fits.last; some = λ f un. fits.some f (before u un); whole = λ f un. fits.whole f (before u un) })
    where
      before : (u : Storage) → IsFalse (among u.slot (m.flushed ++ t.slot ∷ [])) → IsFalse (among u.slot m.flushed)
      before u un = (or_parts _ _ (sym (any_push (λ x. eqb x u.slot) m.flushed t.slot) ∙ un)).0

  -- what is held after was held, or is a row of this one
  pub held_cases : (s : ℕ) (k : List ℕ) → IsTrue (is_held (flushed_with m t) s k) → IsTrue (is_held m s k) ⊎ ((t.slot ≡ s) × IsTrue (has_row k t.rows))
  held_cases s k held =
      let a = member (λ u. (is_live (in_phase t.id Live u) && eqb (in_phase t.id Live u).slot s) && has_row k (in_phase t.id Live u).rows) m.storages
      (sym (any_map (in_phase t.id Live) (λ u. (is_live u && eqb u.slot s) && has_row k u.rows) m.storages) ∙ held) in
      let parts = and_parts _ _ a.2 in
      let first = and_parts _ _ parts.0 in
      let slot = sym (ap (λ (n : ℕ). eqb n s) (slot_same t.id Live a.0)) ∙ first.1 in
      let row = sym (ap (has_row k) (rows_same t.id Live a.0)) ∙ parts.1 in
      elim (live_cases a.0 first.0) [
        | inl live ↦ inl (any_at (λ u. (is_live u && eqb u.slot s) && has_row k u.rows) m.storages a.0 a.1 (and_from _ _ (and_from _ _ live slot) row))
        | inr e ↦
            let same = one a.0 a.1 e in
            inr (ap (λ (u : Storage). u.slot) (sym same) ∙ eqb-true a.0.slot s slot, ap (λ (u : Storage). has_row k u.rows) (sym same) ∙ row)
      ]

  pub held_of : (u : Storage) (s : ℕ) (k : List ℕ) → Contains m.storages u → IsTrue (is_live (in_phase t.id Live u)) → u.slot ≡ s → IsTrue (has_row k u.rows) → IsTrue (is_held (flushed_with m t) s k)
  held_of u s k c live e row =
      any_map (in_phase t.id Live) (λ u. (is_live u && eqb u.slot s) && has_row k u.rows) m.storages
      ∙ any_at (λ u. (is_live (in_phase t.id Live u) && eqb (in_phase t.id Live u).slot s) && has_row k (in_phase t.id Live u).rows) m.storages u c
      (and_from _ _ (and_from _ _ live (eq-eqb _ s (slot_same t.id Live u ∙ e))) (ap (has_row k) (rows_same t.id Live u) ∙ row))

  pub here_live : IsTrue (is_live (in_phase t.id Live t))
  here_live = at_phase t.id Live t (λ v. IsTrue (is_live v)) (λ e. refl) (λ ne. absurd (ne refl))

  fits_rows : RowsFit m t
  fits_rows = All-contains (RowsFit m) m.storages t h.rows is.there

  pub held_after : (s : ℕ) (k : List ℕ) → IsTrue (is_held m s k) → IsTrue (is_held (flushed_with m t) s k)
  held_after s k held =
      let a = member (λ u. (is_live u && eqb u.slot s) && has_row k u.rows) m.storages held in
      let parts = and_parts _ _ a.2 in
      let first = and_parts _ _ parts.0 in
      held_of a.0 s k a.1 (live_before a.0 first.0) (eqb-true a.0.slot s first.1) parts.1

  first_named : (rows : List Row) → 0 < length rows → ((k : List ℕ) → IsTrue (has_row k rows) → IsTrue (is_named (flushed_with m t) t.slot k)) → IsTrue (list_any (λ r. is_named (flushed_with m t) t.slot r.key) rows)
  first_named [] some names = absurd (omega arith)
  first_named (r ∷ rows) some names = or_left _ _ (names r.key (or_left _ _ (bytes_eq_self r.key)))

  named_row : (u : Storage) → Contains m.storages u → (IsTrue (is_live u) → IsTrue (has_named_row m u)) → IsTrue (is_live (in_phase t.id Live u)) → IsTrue (has_named_row (flushed_with m t) (in_phase t.id Live u))
  named_row u c names live =
      ap₂ (λ (s : ℕ) (rows : List Row). list_any (λ r. is_named (flushed_with m t) s r.key) rows) (slot_same t.id Live u) (rows_same t.id Live u)
      ∙ elim (live_cases u live) [
        | inl before ↦ any_weaker (λ r. is_named m u.slot r.key) (λ r. is_named (flushed_with m t) u.slot r.key) u.rows (λ r d n. named_before m t u.slot r.key n) (names before)
        | inr e ↦
            ap (λ (v : Storage). list_any (λ r. is_named (flushed_with m t) v.slot r.key) v.rows) (one u c e)
            ∙ first_named t.rows (fits_rows.some is.fills is.unflushed) (λ k r. named_new m t t.slot k refl r)
      ]

  names : NamesHold (flushed_with m t)
  names = record {
    held = λ s k n. elim (named_cases m t s k n) [ inl before ↦ held_after s k (h.names.held s k before) | inr new ↦ held_of t s k is.there here_live new.0 new.1 ];
    live = All-map (λ u. IsTrue (is_live u) → IsTrue (has_named_row (flushed_with m t) u)) (in_phase t.id Live) m.storages
        (λ k d lt. named_row (get_or m.storages k d) (Contains-get_or m.storages k d lt) (h.names.live k d lt));
  }

  -- a shrink is of a flushed slot
  shrink_flushed : (g : Shrink) → ShrinkFits m g → IsTrue (among g.slot m.flushed)
  shrink_flushed g fits =
      let a = member (λ u. (eqb u.id g.old && eqb u.slot g.slot) && not (is_filling u)) m.storages fits.old in
      let parts = and_parts _ _ a.2 in
      let fit : SlotFits m a.0 = All-contains (SlotFits m) m.storages a.0 h.slots.storages a.1 in
      subst (λ n. IsTrue (among n m.flushed)) (eqb-true a.0.slot g.slot (and_parts _ _ parts.0).1) (fit.settled (not-true _ parts.1))

  copy_fits : (g : Shrink) → ShrinkFits m g → CopyFits m g → CopyFits (flushed_with m t) g
  copy_fits g shrink fits = record {
    named = All-map (λ u. u.id ≡ g.new → (k : List ℕ) → IsTrue (is_named (flushed_with m t) g.slot k) → IsTrue (has_row k u.rows)) (in_phase t.id Live) m.storages
        (λ i d lt e k n. ap (has_row k) (rows_same t.id Live (get_or m.storages i d)) ∙ elim (named_cases m t g.slot k n) [
          | inl before ↦ fits.named i d lt (sym (id_same t.id Live (get_or m.storages i d)) ∙ e) k before
          | inr new ↦ absurd (true≢false (sym (shrink_flushed g shrink) ∙ ap (λ (n : ℕ). among n m.flushed) (sym new.0) ∙ is.unflushed))
        ]);
    old = All-map (λ u. u.id ≡ g.new → All (λ v. v.id ≡ g.old → (k : List ℕ) → IsTrue (has_row k u.rows) → IsTrue (has_row k v.rows)) (with_phase t.id Live m.storages)) (in_phase t.id Live) m.storages
        (λ i d lt e. All-map (λ v. v.id ≡ g.old → (k : List ℕ) → IsTrue (has_row k (in_phase t.id Live (get_or m.storages i d)).rows) → IsTrue (has_row k v.rows)) (in_phase t.id Live) m.storages
        (λ j c within f k r.
        ap (has_row k) (rows_same t.id Live (get_or m.storages j c))
        ∙ fits.old i d lt (sym (id_same t.id Live (get_or m.storages i d)) ∙ e) j c within (sym (id_same t.id Live (get_or m.storages j c)) ∙ f) k
        (sym (ap (has_row k) (rows_same t.id Live (get_or m.storages i d))) ∙ r)));
  }

  -- what the storage has was cached, and so present
  row_present : (s : ℕ) (k : List ℕ) → t.slot ≡ s → IsTrue (has_row k t.rows) → IsTrue (is_present m s k)
  row_present s k e r =
      or_left _ _ (and_from _ _ (subst (λ n. IsTrue (has_store m n k)) e (fits_rows.stored k r)) (not_from_false _ (subst (λ n. IsFalse (among n m.flushed)) e is.unflushed)))

  none_present : (s : ℕ) (k : List ℕ) → IsFalse (is_present m s k) → IsFalse (is_present (flushed_with m t) s k)
  none_present s k none =
      let parts = or_parts (is_cached m s k) (is_named m s k) none in
      or_from _ _
      (elim (and_cases (has_store m s k) (not (among s m.flushed)) parts.0) [
        | inl no_store ↦ and_left _ _ no_store
        | inr flushed ↦ and_right _ _ (not_from_true _ (flushed_before s (not-false _ flushed)))
      ])
      (false_from_ne_true _ (λ n. elim (named_cases m t s k n) [
        | inl before ↦ true≢false (sym before ∙ parts.1)
        | inr new ↦ true≢false (sym (row_present s k new.0 new.1) ∙ none)
      ]))

  none_held : (s : ℕ) (k : List ℕ) → IsFalse (is_present m s k) → IsFalse (is_held m s k) → IsFalse (is_held (flushed_with m t) s k)
  none_held s k none free =
      false_from_ne_true _ (λ held. elim (held_cases s k held) [
        | inl before ↦ true≢false (sym before ∙ free)
        | inr new ↦ true≢false (sym (row_present s k new.0 new.1) ∙ none)
      ])

  gone_kept : (s : ℕ) (k : List ℕ) → IsGone m s k → IsGone (flushed_with m t) s k
  gone_kept s k (inl c) = inl c
  gone_kept s k (inr b) = inr (record { tomb = b.tomb; upto = b.upto; lowest = λ q lt. let low = b.lowest q lt in (none_present q k low.0, none_held q k low.0 low.1) })

  gone : (s : ℕ) (k : List ℕ) → IsTrue (has_store m s k) → IsTrue (among s (m.flushed ++ t.slot ∷ [])) → IsFalse (is_named (flushed_with m t) s k) → IsGone (flushed_with m t) s k
  gone s k st f unnamed =
      elim (flushed_cases s f) [
        | inl before ↦ gone_kept s k (h.gone s k st before (false_from_ne_true _ (λ n. true≢false (sym (named_before m t s k n) ∙ unnamed))))
        | inr e ↦ absurd (true≢false (sym (named_new m t s k e (fits_rows.whole is.fills is.unflushed k (subst (λ n. IsTrue (has_store m n k)) (sym e) st))) ∙ unnamed))
      ]

  ended : IsSound (flushed_with m t)
  ended = record {
    limits = limits;
    slots = slots;
    ids = ids;
    rows = All-map (RowsFit (flushed_with m t)) (in_phase t.id Live) m.storages (λ k d lt. row_fits (get_or m.storages k d) (h.rows k d lt));
    names = names;
    copies = λ k d lt. copy_fits (get_or m.shrinks k d) (h.ids.shrinks k d lt) (h.copies k d lt);
    gone = gone;
  }

pub flush_end_keeps : (m : State) (slot : ℕ) → IsSound m → IsSound (flush_end_step m slot).0
flush_end_keeps m slot h = through_found IsSound (open_flush m slot) (NotFlushing slot) m _ h (λ t e. ended m t h (opened m slot t h e).0)
