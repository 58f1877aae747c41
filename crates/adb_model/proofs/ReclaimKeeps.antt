-- A reclaim keeps a sound state sound.
use Rattle.std.proofs.Common.{◌≡◌, ℕ, eqb, ltb, leb, Bool, not, ◌&&◌, ◌||◌, IsTrue, IsFalse, List, ◌⊎◌, get_or, filter, All, Option, refl, sym, ap₂, ◌∙◌, subst, inl, inr}
use Rattle.std.specs.List.{list_any}
use Rattle.std.specs.Str.{bytes_eq}
use Rattle.std.proofs.lemmas.Bool.{true≢false, cases_Bool, and_parts, and_from, and_cases, or_parts, or_from, or_left, or_right, eqb-true, ltb-true, leb-true, lt-ltb, not-true, not-false, not_from_false, false_from_ne_true, cond_both}
use Rattle.std.proofs.lemmas.List.Elements.{All-map}
use Rattle.adb_model.specs.State.{Row, Retired, Storage, Pair, State}
use Rattle.adb_model.specs.Presence.{is_cached, is_named, is_pair, is_present, is_held, is_live, ends_in_tomb, slots_of}
use Rattle.adb_model.specs.Reclaimable.{is_shadowed, is_spent, is_there_below}
use Rattle.adb_model.specs.Storages.{is_filling}
use Rattle.adb_model.specs.Reclaim.{keys_taken, is_taken, without_names, has_named_row, retired, retire_unnamed, drop_shadowed, drop_spent, reclaimed, reclaim_step}
use Rattle.adb_model.specs.Gone.{IsGone, IsCovered, IsBuried}
use Rattle.adb_model.specs.Sound.{IsSound, IsSoundMidway, CopyFits}
use Rattle.adb_model.proofs.Members.{member, any_at, none_at, into_filter, among_at}
use Rattle.adb_model.proofs.Filters.{any_unfilter}
use Rattle.adb_model.proofs.Distinct.{bytes_eq-true}
use Rattle.adb_model.proofs.Phases.{live_filled}
use Rattle.adb_model.proofs.Known.{store_of_present, slot_of_present, slot_of_held}
use Rattle.adb_model.proofs.Retiring.{Retires, some_retire}

pub midway : (m : State) → IsSound m → IsSoundMidway m
midway m h = record { limits = h.limits; slots = h.slots; ids = h.ids; rows = h.rows; held = h.names.held; copies = h.copies; gone = h.gone }

-- ---- names that are dropped

module _ (m : State) (test : Pair → Bool) (h : IsSoundMidway m) where
  named_before : (s : ℕ) (k : List ℕ) → IsTrue (is_named (without_names test m) s k) → IsTrue (is_named m s k)
  named_before s k n = any_unfilter (is_pair s k) (λ p. not (test p)) m.named n

  none_present : (s : ℕ) (k : List ℕ) → IsFalse (is_present m s k) → IsFalse (is_present (without_names test m) s k)
  none_present s k none =
      let parts = or_parts (is_cached m s k) (is_named m s k) none in
      or_from _ _ parts.0 (false_from_ne_true _ (λ n. true≢false (sym (named_before s k n) ∙ parts.1)))

  gone_kept : (s : ℕ) (k : List ℕ) → IsGone m s k → IsGone (without_names test m) s k
  gone_kept s k (inl c) = inl c
  gone_kept s k (inr b) = inr (record { tomb = b.tomb; upto = b.upto; lowest = λ q lt. let low = b.lowest q lt in (none_present q k low.0, low.1) })

  -- where each pair that is dropped is gone, all holds after
  pub names_dropped : ((s : ℕ) (k : List ℕ) → IsTrue (is_named m s k) → IsFalse (is_named (without_names test m) s k) → IsGone m s k) → IsSoundMidway (without_names test m)
  names_dropped are_gone = record {
    limits = h.limits;
    slots = record {
      roots = h.slots.roots;
      named = λ s k n. h.slots.named s k (named_before s k n);
      storages = h.slots.storages;
      one_live = h.slots.one_live;
      one_filling = h.slots.one_filling;
    };
    ids = h.ids;
    rows = h.rows;
    held = λ s k n. h.held s k (named_before s k n);
    copies = λ i d lt. let fits : CopyFits m (get_or m.shrinks i d) = h.copies i d lt in
        record { named = λ j c within e k n. fits.named j c within e k (named_before _ k n); old = fits.old };
    gone = λ s k st f u. gone_kept s k (elim (cases_Bool (is_named m s k)) [ inl n ↦ are_gone s k n u | inr un ↦ h.gone s k st f un ]);
  }

  -- a pair that is dropped passes the test
  pub dropped_passes : (s : ℕ) (k : List ℕ) → IsTrue (is_named m s k) → IsFalse (is_named (without_names test m) s k) → (p : Pair) × (p.slot ≡ s) × (p.key ≡ k) × IsTrue (test p)
  dropped_passes s k n u =
      let a = member (is_pair s k) m.named n in
      let parts = and_parts (eqb a.0.slot s) (bytes_eq a.0.key k) a.2 in (
        a.0,
        eqb-true a.0.slot s parts.0,
        bytes_eq-true a.0.key k parts.1,
        elim (cases_Bool (test a.0)) [
          | inl t ↦ t
          | inr f ↦ absurd (true≢false (sym (any_at (is_pair s k) (filter (λ p. not (test p)) m.named) a.0 (into_filter (λ p. not (test p)) m.named a.0 a.1 (not_from_false _ f)) a.2) ∙ u))
        ],
      )

-- ---- why they are gone

module _ (m : State) (h : IsSoundMidway m) where
  pub shadowed_gone : (s : ℕ) (k : List ℕ) → IsTrue (is_shadowed m s k) → IsCovered m s k
  shadowed_gone s k t =
      let a = member (λ r. (ltb s r && leb r m.cleaned) && is_present m r k) m.roots (and_parts (is_named m s k) _ t).1 in
      let parts = and_parts _ _ a.2 in
      let first = and_parts (ltb s a.0) (leb a.0 m.cleaned) parts.0 in
      record {
        root = a.0;
        is_root = among_at a.0 m.roots a.1;
        above = ltb-true s a.0 first.0;
        upto = leb-true a.0 m.cleaned first.1;
        stored = store_of_present m h.rows h.held a.0 k parts.1;
      }

  pub spent_gone : (s : ℕ) (k : List ℕ) → IsTrue (is_spent m s k) → IsBuried m s k
  spent_gone s k t =
      let parts = and_parts ((is_named m s k && ends_in_tomb m s k) && leb s m.cleaned) (not (is_there_below m s k)) t in
      let first = and_parts (is_named m s k && ends_in_tomb m s k) (leb s m.cleaned) parts.0 in
      let none = not-true _ parts.1 in
      record {
        tomb = (and_parts (is_named m s k) (ends_in_tomb m s k) first.0).1;
        upto = leb-true s m.cleaned first.1;
        lowest = λ q lt. (
          false_from_ne_true _ (λ p. true≢false (sym (and_from (ltb q s) _ (lt-ltb q s lt) (or_left (is_present m q k) (is_held m q k) p)) ∙ none_at (λ q. ltb q s && (is_present m q k || is_held m q k)) (slots_of m) q (slot_of_present m q k p) none)),
          false_from_ne_true _ (λ p. true≢false (sym (and_from (ltb q s) _ (lt-ltb q s lt) (or_right (is_present m q k) (is_held m q k) p)) ∙ none_at (λ q. ltb q s && (is_present m q k || is_held m q k)) (slots_of m) q (slot_of_held m q k p) none)),
        );
      }

  pub shadowed_dropped : (keys : List (List ℕ)) → IsSoundMidway (drop_shadowed keys m)
  shadowed_dropped keys =
      let test : Pair → Bool = λ p. is_taken keys p.key && is_shadowed m p.slot p.key in
      names_dropped m test h (λ s k n u.
      let d = dropped_passes m test h s k n u in
      inl (shadowed_gone s k (subst (λ a. IsTrue (is_shadowed m a k)) d.1 (subst (λ q. IsTrue (is_shadowed m d.0.slot q)) d.2 (and_parts (is_taken keys d.0.key) _ d.3).1))))

  pub spent_dropped : (keys : List (List ℕ)) → IsSoundMidway (drop_spent keys m)
  spent_dropped keys =
      let test : Pair → Bool = λ p. is_taken keys p.key && is_spent m p.slot p.key in
      names_dropped m test h (λ s k n u.
      let d = dropped_passes m test h s k n u in
      inr (spent_gone s k (subst (λ a. IsTrue (is_spent m a k)) d.1 (subst (λ q. IsTrue (is_spent m d.0.slot q)) d.2 (and_parts (is_taken keys d.0.key) _ d.3).1))))

-- ---- storages that retire

module _ (m : State) (u : Storage) where
  at_retired : (P : Storage → Type 0) → (IsTrue (is_live u) → IsFalse (has_named_row m u) → P (record u { phase = Retired })) → ((IsTrue (is_live u) → IsTrue (has_named_row m u)) → P u) → P (retired m u)
  at_retired P there other =
      cond_both (is_live u && not (has_named_row m u)) (record u { phase = Retired }) u P
      (λ t. let parts = and_parts (is_live u) (not (has_named_row m u)) t in there parts.0 (not-true _ parts.1))
      (λ f. other (λ live. elim (and_cases (is_live u) (not (has_named_row m u)) f) [ inl dead ↦ absurd (true≢false (sym live ∙ dead)) | inr named ↦ not-false _ named ]))

  pub slot_same : (retired m u).slot ≡ u.slot
  slot_same = at_retired (λ v. v.slot ≡ u.slot) (λ l f. refl) (λ n. refl)

  pub rows_same : (retired m u).rows ≡ u.rows
  rows_same = at_retired (λ v. v.rows ≡ u.rows) (λ l f. refl) (λ n. refl)

  pub bytes_same : (retired m u).bytes ≡ u.bytes
  bytes_same = at_retired (λ v. v.bytes ≡ u.bytes) (λ l f. refl) (λ n. refl)

  pub filling_same : is_filling (retired m u) ≡ is_filling u
  filling_same = at_retired (λ v. is_filling v ≡ is_filling u) (λ l f. sym (live_filled u l)) (λ n. refl)

  -- a storage with a named row stays
  pub retired_same : (IsTrue (is_live u) → IsTrue (has_named_row m u)) → retired m u ≡ u
  retired_same named = at_retired (λ v. v ≡ u) (λ l f. absurd (true≢false (sym (named l) ∙ f))) (λ n. refl)

  -- what is being filled stays
  pub filling_stays : IsTrue (is_filling u) → retired m u ≡ u
  filling_stays fill = at_retired (λ v. v ≡ u) (λ l f. absurd (true≢false (sym fill ∙ live_filled u l))) (λ n. refl)

  -- it stays, or was Live without a named row
  pub may_retire : (retired m u ≡ u) ⊎ Retires m u (retired m u)
  may_retire = at_retired (λ v. (v ≡ u) ⊎ Retires m u v) (λ l f. inr (record { is = refl; live = l; unnamed = f })) (λ n. inl refl)

  -- what is Live still has a named row
  named_still : IsTrue (is_live (retired m u)) → IsTrue (has_named_row m u)
  named_still = at_retired (λ v. IsTrue (is_live v) → IsTrue (has_named_row m u)) (λ l f live. absurd (true≢false (sym live))) (λ n live. n live)

-- where each Live storage has a named row, a state that is sound midway is sound
pub all_named : (m : State) → IsSoundMidway m → All (λ t. IsTrue (is_live t) → IsTrue (has_named_row m t)) m.storages → IsSound m
all_named m h live = record { limits = h.limits; slots = h.slots; ids = h.ids; rows = h.rows; names = record { held = h.held; live = live }; copies = h.copies; gone = h.gone }

-- once Live storages without a named row have retired, all holds
pub retires : (m : State) → IsSoundMidway m → IsSound (retire_unnamed m)
retires m h =
    all_named (retire_unnamed m) (some_retire m (retired m) (λ u c. may_retire m u) h)
    (All-map (λ u. IsTrue (is_live u) → IsTrue (has_named_row (retire_unnamed m) u)) (retired m) m.storages (λ k d lt live.
    ap₂ (λ (s : ℕ) (rows : List Row). list_any (λ r. is_named m s r.key) rows) (slot_same m (get_or m.storages k d)) (rows_same m (get_or m.storages k d))
    ∙ named_still m (get_or m.storages k d) live))

pub reclaims : (keys : List (List ℕ)) (m : State) → IsSound m → IsSound (reclaimed keys m)
reclaims keys m h =
    let first = retires (drop_shadowed keys m) (shadowed_dropped m (midway m h) keys) in
    let second = retire_unnamed (drop_shadowed keys m) in
    retires (drop_spent keys second) (spent_dropped second (midway second first) keys)

pub reclaim_keeps : (m : State) (after : Option (List ℕ)) (most : ℕ) → IsSound m → IsSound (reclaim_step m after most).0
reclaim_keeps m after most h = reclaims (keys_taken m after most) m h
