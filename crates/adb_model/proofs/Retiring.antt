-- Some Live storages without a named row become Retired.
use Rattle.std.proofs.Common.{◌≡◌, ◌≢◌, ℕ, ◌+◌, ◌<◌, eqb, Bool, not, ◌&&◌, IsTrue, IsFalse, List, [], ◌∷◌, length, get_or, map, All, Contains, sum_by, refl, sym, ap, ap₂, ◌∙◌, subst, inl, inr, ◌⊎◌, arith}
use Rattle.std.specs.List.{list_any}
use Rattle.std.specs.Str.{bytes_eq}
use Rattle.std.proofs.lemmas.Bool.{true≢false, and_parts, and_from, eqb-true, false_from_ne_true}
use Rattle.std.proofs.lemmas.List.Elements.{All-map, Contains-get_or}
use Rattle.std.proofs.lemmas.List.Sums.{sum_by-cons}
use Rattle.std.proofs.lemmas.List.{length-map}
use Rattle.adb_model.specs.State.{Retired, Storage, Shrink, State}
use Rattle.adb_model.specs.Presence.{is_named, is_held, is_live, has_row}
use Rattle.adb_model.specs.Storages.{is_filling}
use Rattle.adb_model.specs.Reclaim.{has_named_row}
use Rattle.adb_model.specs.Gone.{IsGone}
use Rattle.adb_model.specs.Sound.{IsSoundMidway, SlotFits, ShrinkFits, RowsFit, CopyFits}
use Rattle.adb_model.proofs.Members.{member, any_at, any_weaker, any_map, contains_here, contains_next}
use Rattle.adb_model.proofs.Pairs.{pairs_map}
use Rattle.adb_model.proofs.Filters.{same_truth}
use Rattle.adb_model.proofs.Distinct.{bytes_eq-true}
use Rattle.adb_model.proofs.Phases.{live_filled}

-- a Live storage without a named row becomes Retired
pub record Retires (m : State) (u v : Storage) : Type 0 where
  pub is : v ≡ record u { phase = Retired }
  pub live : IsTrue (is_live u)
  pub unnamed : IsFalse (has_named_row m u)

pub any_same_at : {X : Type 0} (p q : X → Bool) (xs : List X) → ((x : X) → Contains xs x → p x ≡ q x) → list_any p xs ≡ list_any q xs
any_same_at p q xs same = same_truth _ _ (any_weaker p q xs (λ x c t. sym (same x c) ∙ t)) (any_weaker q p xs (λ x c t. same x c ∙ t))

pub sum_same : {X : Type 0} (g : X → ℕ) (f : X → X) (xs : List X) → ((x : X) → Contains xs x → g (f x) ≡ g x) → sum_by g (map f xs) ≡ sum_by g xs
sum_same g f [] same = refl
sum_same g f (x ∷ xs) same = sum_by-cons g (f x) (map f xs) ∙ ap₂ (λ a b. a + b) (same x (contains_here x xs)) (sum_same g f xs (λ y c. same y (contains_next x y xs c))) ∙ sym (sum_by-cons g x xs)

module _ (m : State) (f : Storage → Storage) (may : (u : Storage) → Contains m.storages u → (f u ≡ u) ⊎ Retires m u (f u)) where
  abbrev n : State
  n = record m { storages = map f m.storages }

  module _ (u : Storage) (c : Contains m.storages u) where
    at_changed : (P : Storage → Type 0) → (IsTrue (is_live u) → IsFalse (has_named_row m u) → P (record u { phase = Retired })) → P u → P (f u)
    at_changed P there other = elim (may u c) [ inl e ↦ subst P (sym e) other | inr r ↦ subst P (sym r.is) (there r.live r.unnamed) ]

    id_same : (f u).id ≡ u.id
    id_same = at_changed (λ v. v.id ≡ u.id) (λ l un. refl) refl

    slot_same : (f u).slot ≡ u.slot
    slot_same = at_changed (λ v. v.slot ≡ u.slot) (λ l un. refl) refl

    rows_same : (f u).rows ≡ u.rows
    rows_same = at_changed (λ v. v.rows ≡ u.rows) (λ l un. refl) refl

    bytes_same : (f u).bytes ≡ u.bytes
    bytes_same = at_changed (λ v. v.bytes ≡ u.bytes) (λ l un. refl) refl

    filling_same : is_filling (f u) ≡ is_filling u
    filling_same = at_changed (λ v. is_filling v ≡ is_filling u) (λ l un. sym (live_filled u l)) refl

    live_before : IsTrue (is_live (f u)) → IsTrue (is_live u)
    live_before = at_changed (λ v. IsTrue (is_live v) → IsTrue (is_live u)) (λ l un live. l) (λ live. live)

    live_after : IsTrue (is_live u) → IsTrue (has_named_row m u) → IsTrue (is_live (f u))
    live_after live named = at_changed (λ v. IsTrue (is_live v)) (λ l un. absurd (true≢false (sym named ∙ un))) live

    slot_fits : SlotFits m u → SlotFits n (f u)
    slot_fits fits = at_changed (SlotFits n)
        (λ l un. record { settled = λ e. fits.settled (live_filled u l); rooted = λ e. absurd (true≢false (sym e)); copied = λ e. absurd (true≢false (sym e)) })
        (record { settled = fits.settled; rooted = fits.rooted; copied = fits.copied })

    row_fits : RowsFit m u → RowsFit n (f u)
    row_fits fits = at_changed (RowsFit n)
        (λ l un. record { stored = fits.stored; last = fits.last; some = λ e. absurd (true≢false (sym e)); whole = λ e. absurd (true≢false (sym e)) })
        (record { stored = fits.stored; last = fits.last; some = fits.some; whole = fits.whole })

  -- the storage at an index
  at : (k : ℕ) (d : Storage) → k < length m.storages → Contains m.storages (get_or m.storages k d)
  at k d lt = Contains-get_or m.storages k d lt

  -- a test that does not look at the phase, but for whether it is filling
  tests_same : (test : ℕ → ℕ → Bool → Bool) → list_any (λ u. test u.id u.slot (is_filling u)) (map f m.storages) ≡ list_any (λ u. test u.id u.slot (is_filling u)) m.storages
  tests_same test =
      any_map f (λ u. test u.id u.slot (is_filling u)) m.storages
      ∙ any_same_at (λ u. test (f u).id (f u).slot (is_filling (f u))) (λ u. test u.id u.slot (is_filling u)) m.storages
      (λ u c i. test (id_same u c i) (slot_same u c i) (filling_same u c i))

  held_before : (s : ℕ) (k : List ℕ) → IsTrue (is_held n s k) → IsTrue (is_held m s k)
  held_before s k held =
      any_weaker (λ u. (is_live (f u) && eqb (f u).slot s) && has_row k (f u).rows) (λ u. (is_live u && eqb u.slot s) && has_row k u.rows) m.storages
      (λ u c t.
      let parts = and_parts _ _ t in
      let first = and_parts _ _ parts.0 in
      and_from _ _ (and_from _ _ (live_before u c first.0) (sym (ap (λ (q : ℕ). eqb q s) (slot_same u c)) ∙ first.1)) (sym (ap (has_row k) (rows_same u c)) ∙ parts.1))
      (sym (any_map f (λ u. (is_live u && eqb u.slot s) && has_row k u.rows) m.storages) ∙ held)

  module _ (h : IsSoundMidway m) where
    named_held : (s : ℕ) (k : List ℕ) → IsTrue (is_named m s k) → IsTrue (is_held n s k)
    named_held s k named =
        let a = member (λ u. (is_live u && eqb u.slot s) && has_row k u.rows) m.storages (h.held s k named) in
        let parts = and_parts _ _ a.2 in
        let first = and_parts _ _ parts.0 in
        let slot = eqb-true a.0.slot s first.1 in
        let row = member (λ r. bytes_eq r.key k) a.0.rows parts.1 in
        let here : IsTrue (is_named m a.0.slot row.0.key) = subst (λ q. IsTrue (is_named m q row.0.key)) (sym slot) (subst (λ q. IsTrue (is_named m s q)) (sym (bytes_eq-true row.0.key k row.2)) named) in
        let live = live_after a.0 a.1 first.0 (any_at (λ r. is_named m a.0.slot r.key) a.0.rows row.0 row.1 here) in
        any_map f (λ u. (is_live u && eqb u.slot s) && has_row k u.rows) m.storages
        ∙ any_at (λ u. (is_live (f u) && eqb (f u).slot s) && has_row k (f u).rows) m.storages a.0 a.1
        (and_from _ _ (and_from _ _ live (ap (λ (q : ℕ). eqb q s) (slot_same a.0 a.1) ∙ first.1)) (ap (has_row k) (rows_same a.0 a.1) ∙ parts.1))

    copy_fits : (g : Shrink) → CopyFits m g → CopyFits n g
    copy_fits g fits = record {
      named = All-map (λ u. u.id ≡ g.new → (k : List ℕ) → IsTrue (is_named m g.slot k) → IsTrue (has_row k u.rows)) f m.storages
          (λ i d lt e k named. ap (has_row k) (rows_same (get_or m.storages i d) (at i d lt)) ∙ fits.named i d lt (sym (id_same (get_or m.storages i d) (at i d lt)) ∙ e) k named);
      old = All-map (λ u. u.id ≡ g.new → All (λ v. v.id ≡ g.old → (k : List ℕ) → IsTrue (has_row k u.rows) → IsTrue (has_row k v.rows)) (map f m.storages)) f m.storages
          (λ i d lt e. All-map (λ v. v.id ≡ g.old → (k : List ℕ) → IsTrue (has_row k (f (get_or m.storages i d)).rows) → IsTrue (has_row k v.rows)) f m.storages
          (λ j b within q k r.
          ap (has_row k) (rows_same (get_or m.storages j b) (at j b within))
          ∙ fits.old i d lt (sym (id_same (get_or m.storages i d) (at i d lt)) ∙ e) j b within (sym (id_same (get_or m.storages j b) (at j b within)) ∙ q) k
          (sym (ap (has_row k) (rows_same (get_or m.storages i d) (at i d lt))) ∙ r)));
    }

    gone_kept : (s : ℕ) (k : List ℕ) → IsGone m s k → IsGone n s k
    gone_kept s k (inl c) = inl c
    gone_kept s k (inr b) = inr (record {
      tomb = b.tomb;
      upto = b.upto;
      lowest = λ q lt. let low = b.lowest q lt in (low.0, false_from_ne_true _ (λ held. true≢false (sym (held_before q k held) ∙ low.1)));
    })

    pub some_retire : IsSoundMidway n
    some_retire = record {
      limits = record {
        roots = h.limits.roots;
        cleaned = h.limits.cleaned;
        leases = h.limits.leases;
        passes = h.limits.passes;
        pins = h.limits.pins;
        bytes = omega (arith, sum_same (λ (u : Storage). u.bytes) f m.storages bytes_same, h.limits.bytes);
        count = omega (arith, length-map m.storages f, h.limits.count);
      };
      slots = record {
        roots = h.slots.roots;
        named = h.slots.named;
        storages = All-map (SlotFits n) f m.storages (λ k d lt. slot_fits (get_or m.storages k d) (at k d lt) (h.slots.storages k d lt));
        one_live = pairs_map (λ u v. IsTrue (is_live u) → IsTrue (is_live v) → u.slot ≢ v.slot) f m.storages (λ i j d lt within a b e.
            let c = at i d (omega (arith, lt, within)) in
            let b' = at j d within in
            h.slots.one_live i j d lt within (live_before (get_or m.storages i d) c a) (live_before (get_or m.storages j d) b' b)
            (sym (slot_same (get_or m.storages i d) c) ∙ e ∙ slot_same (get_or m.storages j d) b'));
        one_filling = pairs_map (λ u v. IsTrue (is_filling u) → IsTrue (is_filling v) → u.slot ≢ v.slot) f m.storages (λ i j d lt within a b e.
            let c = at i d (omega (arith, lt, within)) in
            let b' = at j d within in
            h.slots.one_filling i j d lt within (sym (filling_same (get_or m.storages i d) c) ∙ a) (sym (filling_same (get_or m.storages j d) b') ∙ b)
            (sym (slot_same (get_or m.storages i d) c) ∙ e ∙ slot_same (get_or m.storages j d) b'));
      };
      ids = record {
        differ = pairs_map (λ u v. u.id ≢ v.id) f m.storages (λ i j d lt within e.
            h.ids.differ i j d lt within (sym (id_same (get_or m.storages i d) (at i d (omega (arith, lt, within)))) ∙ e ∙ id_same (get_or m.storages j d) (at j d within)));
        below = All-map (λ u. u.id < m.next_id) f m.storages (λ k d lt. subst (λ q. q < m.next_id) (sym (id_same (get_or m.storages k d) (at k d lt))) (h.ids.below k d lt));
        one_shrink = h.ids.one_shrink;
        shrinks = λ k d lt.
            let g = get_or m.shrinks k d in
            let fits : ShrinkFits m g = h.ids.shrinks k d lt in
            record {
              old = tests_same (λ id slot fill. (eqb id g.old && eqb slot g.slot) && not fill) ∙ fits.old;
              new = tests_same (λ id slot fill. (eqb id g.new && eqb slot g.slot) && fill) ∙ fits.new;
            };
        pins = λ k d lt. tests_same (λ id slot fill. eqb id (get_or m.pins k d).id && not fill) ∙ h.ids.pins k d lt;
        snap = λ q i. tests_same (λ id slot fill. eqb id q && not fill) ∙ h.ids.snap q i;
      };
      rows = All-map (RowsFit n) f m.storages (λ k d lt. row_fits (get_or m.storages k d) (at k d lt) (h.rows k d lt));
      held = named_held;
      copies = λ k d lt. copy_fits (get_or m.shrinks k d) (h.copies k d lt);
      gone = λ s k st fl un. gone_kept s k (h.gone s k st fl un);
    }
