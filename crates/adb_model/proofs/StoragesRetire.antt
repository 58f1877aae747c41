-- What changes where one storage in use retires.
use Rattle.std.proofs.Common.{◌≡◌, ◌≢◌, ℕ, ◌<◌, eqb, Bool, true, false, cond, not, ◌&&◌, IsTrue, IsFalse, List, [], ◌∷◌, get_or, map, find, Contains, Some, None, option_map, refl, sym, ap, ◌∙◌, subst, inl, inr, ◌⊎◌, arith}
use Rattle.std.specs.List.{list_any}
use Rattle.std.specs.Str.{bytes_eq}
use Rattle.std.proofs.lemmas.Bool.{true≢false, and_parts, and_from, eqb-true, eqb-false, eq-eqb, cases_eq, not_from_false, false_from_ne_true}
use Rattle.std.proofs.lemmas.List.Elements.{Contains-get_or}
use Rattle.adb_model.specs.State.{Retired, Storage, Pair, State}
use Rattle.adb_model.specs.Presence.{is_named, is_pair, is_held, is_live, has_row}
use Rattle.adb_model.specs.Storages.{is_filling, is_copy, live_storage, filling_storage, open_flush, storage_with, in_phase}
use Rattle.adb_model.specs.Reclaim.{has_named_row, retired, retire_unnamed}
use Rattle.adb_model.specs.Cleaning.{with_retired}
use Rattle.adb_model.specs.Shrink.{named_in}
use Rattle.adb_model.specs.Sound.{IsSound, IsSoundMidway}
use Rattle.adb_model.specs.Once.{IsOnce}
use Rattle.adb_model.specs.RowBytes.{HaveBytes}
use Rattle.adb_model.proofs.Members.{member, any_at, any_map, none_from, from_map, contains_here, contains_next}
use Rattle.adb_model.proofs.Distinct.{bytes_eq-true, bytes_eq_self}
use Rattle.adb_model.proofs.Phases.{at_phase, id_same, slot_same, rows_same, bytes_same, other_same, live_filled}
use Rattle.adb_model.proofs.Finds.{none_finds, find_same, find_kept, find_map}
use Rattle.adb_model.proofs.Within.{some_counted, counted_some}
use Rattle.adb_model.proofs.OnceKeeps.{rows_map}
use Rattle.adb_model.proofs.RowBytes.{mapped}
use Rattle.adb_model.proofs.Retiring.{Retires, any_same_at, some_retire}
use Rattle.adb_model.proofs.ReclaimKeeps.{retired_same, all_named}
use Rattle.adb_model.proofs.LiveStorages.{live_there, in_use, only_id, only_live, live_found, rows_held}

map_twice_at : {X : Type 0} (g f k : X → X) (xs : List X) → ((x : X) → Contains xs x → g (f x) ≡ k x) → map g (map f xs) ≡ map k xs
map_twice_at g f k [] same = refl
map_twice_at g f k (x ∷ xs) same = λ i. same x (contains_here x xs) i ∷ map_twice_at g f k xs (λ y c. same y (contains_next x y xs c)) i

map_same_at : {X : Type 0} (f : X → X) (xs : List X) → ((x : X) → Contains xs x → f x ≡ x) → map f xs ≡ xs
map_same_at f [] same = refl
map_same_at f (x ∷ xs) same = λ i. same x (contains_here x xs) i ∷ map_same_at f xs (λ y c. same y (contains_next x y xs c)) i

-- the storage is in use in the slot
abbrev serves : ℕ → Storage → Bool
serves s u = is_live u && eqb u.slot s

-- and has a row of the key
abbrev holds : ℕ → List ℕ → Storage → Bool
holds s k u = (is_live u && eqb u.slot s) && has_row k u.rows

abbrev with_storages : State → List Storage → State
with_storages m us = record m { storages = us }

-- ---- any storage

module _ (m : State) (t : Storage) where
  abbrev changed : State
  changed = with_retired m t

  pub with_id_retired : (id : ℕ) → storage_with changed id ≡ option_map (in_phase t.id Retired) (storage_with m id)
  with_id_retired id =
      find_map (in_phase t.id Retired) (λ (u : Storage). eqb u.id id) m.storages
      ∙ ap (option_map (in_phase t.id Retired)) (find_same (λ u. eqb (in_phase t.id Retired u).id id) (λ (u : Storage). eqb u.id id) (λ u. ap (λ (q : ℕ). eqb q id) (id_same t.id Retired u)) m.storages)

  pub once_with_retired : IsOnce m → IsOnce changed
  once_with_retired o = record {
    named = o.named;
    rows = rows_map m changed (in_phase t.id Retired) (λ u fill un. (filled u fill, subst (λ q. IsFalse (list_any (λ x. eqb x q) m.flushed)) (slot_same t.id Retired u) un, rows_same t.id Retired u)) o.rows;
    snap = o.snap;
  }
    where
      filled : (u : Storage) → IsTrue (is_filling (in_phase t.id Retired u)) → IsTrue (is_filling u)
      filled u = at_phase t.id Retired u (λ v. IsTrue (is_filling v) → IsTrue (is_filling u)) (λ e fill. absurd (true≢false (sym fill))) (λ ne fill. fill)

  pub bytes_with_retired : HaveBytes m → HaveBytes changed
  bytes_with_retired o = mapped (in_phase t.id Retired) (rows_same t.id Retired) (bytes_same t.id Retired) m.storages o

-- ---- a storage in use

module _ (m : State) (h : IsSoundMidway m) (t : Storage) (e : live_storage m t.slot ≡ Some t) where
  abbrev n : State
  n = with_retired m t

  abbrev f : Storage → Storage
  f = in_phase t.id Retired

  there : Contains m.storages t
  there = live_there m t.slot t e

  live : IsTrue (is_live t)
  live = in_use m t.slot t e

  one : (u : Storage) → Contains m.storages u → u.id ≡ t.id → u ≡ t
  one u c same = only_id m h u t c there same

  pub changed_here : f t ≡ record t { phase = Retired }
  changed_here = ap (λ b. cond b (record t { phase = Retired }) t) (eq-eqb t.id t.id refl)

  -- what is Live still was Live, and of another slot
  live_before : (u : Storage) → Contains m.storages u → IsTrue (is_live (f u)) → (f u ≡ u) × (u.slot ≢ t.slot)
  live_before u c = at_phase t.id Retired u (λ v. IsTrue (is_live v) → (v ≡ u) × (u.slot ≢ t.slot))
      (λ same still. absurd (true≢false (sym still)))
      (λ ne still. (refl, λ same. ne (ap (λ (v : Storage). v.id) (only_live m h u t c there still live same))))

  -- what asks for a Live storage of the slot finds none
  none_live : (v : Storage) → Contains n.storages v → IsTrue (is_live v) → v.slot ≡ t.slot → ⊥
  none_live v c still same =
      let w = from_map f m.storages v c in
      let was = live_before w.0 w.1 (ap is_live w.2 ∙ still) in
      was.1 (ap (λ (u : Storage). u.slot) (sym was.0 ∙ w.2) ∙ same)

  -- what asks for another slot sees no change
  other_slot : (p : Storage → Bool) (s : ℕ) → ((u : Storage) → IsTrue (p u) → u.slot ≡ s) → IsFalse (eqb t.slot s) → (u : Storage) → Contains m.storages u → (p (f u) ≡ p u) × (IsTrue (p u) → f u ≡ u)
  other_slot p s asks other u c = by (cases_eq u.id t.id)
    where
      apart : u.id ≡ t.id → u.slot ≡ s → ⊥
      apart same of = eqb-false t.slot s other (ap (λ (v : Storage). v.slot) (sym (one u c same)) ∙ of)

      by : (u.id ≡ t.id) ⊎ (u.id ≡ t.id → ⊥) → (p (f u) ≡ p u) × (IsTrue (p u) → f u ≡ u)
      by (inl same) = (false_from_ne_true _ (λ x. apart same (sym (slot_same t.id Retired u) ∙ asks (f u) x)) ∙ sym (false_from_ne_true _ (λ x. apart same (asks u x))), λ x. absurd (apart same (asks u x)))
      by (inr ne) = (ap p (other_same t.id Retired u ne), λ x. other_same t.id Retired u ne)

  -- nor does what asks for a storage that is being filled
  fills_same : (p : Storage → Bool) → ((u : Storage) → IsTrue (p u) → IsTrue (is_filling u)) → find p n.storages ≡ find p m.storages
  fills_same p asks = find_kept f p m.storages (λ u c. by u c (cases_eq u.id t.id))
    where
      before : (u : Storage) → Contains m.storages u → u.id ≡ t.id → IsTrue (p u) → ⊥
      before u c same x = true≢false (sym (asks u x) ∙ live_filled u (ap is_live (one u c same) ∙ live))

      after : (u : Storage) → u.id ≡ t.id → IsTrue (p (f u)) → ⊥
      after u same x = true≢false (sym (asks (f u) x) ∙ at_phase t.id Retired u (λ v. IsFalse (is_filling v)) (λ e. refl) (λ ne. absurd (ne same)))

      by : (u : Storage) → Contains m.storages u → (u.id ≡ t.id) ⊎ (u.id ≡ t.id → ⊥) → (p (f u) ≡ p u) × (IsTrue (p u) → f u ≡ u)
      by u c (inl same) = (false_from_ne_true _ (after u same) ∙ sym (false_from_ne_true _ (before u c same)), λ x. absurd (before u c same x))
      by u c (inr ne) = (ap p (other_same t.id Retired u ne), λ x. other_same t.id Retired u ne)

  pub held_retired : (s : ℕ) (k : List ℕ) → is_held n s k ≡ (not (eqb t.slot s) && is_held m s k)
  held_retired s k = by (eqb t.slot s) refl
    where
      by : (b : Bool) → eqb t.slot s ≡ b → is_held n s k ≡ (not b && is_held m s k)
      by true same = none_from (holds s k) n.storages (λ v c x.
          let parts = and_parts (is_live v) (eqb v.slot s) (and_parts (is_live v && eqb v.slot s) (has_row k v.rows) x).0 in
          none_live v c parts.0 (eqb-true v.slot s parts.1 ∙ sym (eqb-true t.slot s same)))
      by false other =
          any_map f (holds s k) m.storages
          ∙ any_same_at (λ u. holds s k (f u)) (holds s k) m.storages (λ u c. (other_slot (holds s k) s (λ v x. eqb-true v.slot s (and_parts (is_live v) (eqb v.slot s) (and_parts (is_live v && eqb v.slot s) (has_row k v.rows) x).0).1) other u c).0)

  pub live_retired : (s : ℕ) → live_storage n s ≡ cond (eqb t.slot s) None (live_storage m s)
  live_retired s = by (eqb t.slot s) refl
    where
      by : (b : Bool) → eqb t.slot s ≡ b → live_storage n s ≡ cond b None (live_storage m s)
      by true same = none_finds (serves s) n.storages (λ v c x.
          let parts = and_parts (is_live v) (eqb v.slot s) x in
          none_live v c parts.0 (eqb-true v.slot s parts.1 ∙ sym (eqb-true t.slot s same)))
      by false other = find_kept f (serves s) m.storages (other_slot (serves s) s (λ v x. eqb-true v.slot s (and_parts (is_live v) (eqb v.slot s) x).1) other)

  pub filling_retired : (s : ℕ) → filling_storage n s ≡ filling_storage m s
  filling_retired s = fills_same (λ u. is_filling u && eqb u.slot s) (λ u x. (and_parts (is_filling u) (eqb u.slot s) x).0)

  pub flush_retired : (s : ℕ) → open_flush n s ≡ open_flush m s
  flush_retired s = fills_same (λ u. (is_filling u && eqb u.slot s) && not (is_copy m u.id)) (λ u x. (and_parts (is_filling u) (eqb u.slot s) (and_parts (is_filling u && eqb u.slot s) (not (is_copy m u.id)) x).0).0)

  -- ---- without a named pair

  module _ (none : named_in m t.slot ≡ 0) where
    unnamed : IsFalse (has_named_row m t)
    unnamed = none_from (λ r. is_named m t.slot r.key) t.rows (λ r c named.
        let a = member (is_pair t.slot r.key) m.named named in
        let parts = and_parts (eqb a.0.slot t.slot) (bytes_eq a.0.key r.key) a.2 in
        let some = some_counted (λ (p : Pair). eqb p.slot t.slot) m.named (any_at (λ (p : Pair). eqb p.slot t.slot) m.named a.0 a.1 parts.0) in
        omega (arith, some, none))

    pub sound_retired : IsSoundMidway n
    sound_retired = some_retire m f (λ u c. by u c (cases_eq u.id t.id)) h
      where
        by : (u : Storage) → Contains m.storages u → (u.id ≡ t.id) ⊎ (u.id ≡ t.id → ⊥) → (f u ≡ u) ⊎ Retires m u (f u)
        by u c (inl same) = inr (record {
          is = ap (λ b. cond b (record u { phase = Retired }) u) (eq-eqb u.id t.id same);
          live = ap is_live (one u c same) ∙ live;
          unnamed = ap (has_named_row m) (one u c same) ∙ unnamed;
        })
        by u c (inr ne) = inl (other_same t.id Retired u ne)

    pub rest_retired : retire_unnamed n ≡ retire_unnamed m
    rest_retired = ap (with_storages m) (map_twice_at (retired m) f (retired m) m.storages (λ u c. by u c (cases_eq u.id t.id)))
      where
        retired_here : retired m t ≡ record t { phase = Retired }
        retired_here = ap (λ b. cond b (record t { phase = Retired }) t) (and_from _ _ live (not_from_false _ unnamed))

        by : (u : Storage) → Contains m.storages u → (u.id ≡ t.id) ⊎ (u.id ≡ t.id → ⊥) → retired m (f u) ≡ retired m u
        by u c (inl same) = ap (λ v. retired m (f v)) (one u c same) ∙ ap (retired m) changed_here ∙ sym retired_here ∙ ap (retired m) (sym (one u c same))
        by u c (inr ne) = ap (retired m) (other_same t.id Retired u ne)

-- ---- each storage in use has a named pair

module _ (m : State) (h : IsSoundMidway m) (all : (s : ℕ) (t : Storage) → live_storage m s ≡ Some t → 0 < named_in m s) where
  named_row : (u : Storage) → Contains m.storages u → IsTrue (is_live u) → IsTrue (has_named_row m u)
  named_row u c in_use' =
      let e = live_found m h u c in_use' in
      let p = member (λ (p : Pair). eqb p.slot u.slot) m.named (counted_some (λ (p : Pair). eqb p.slot u.slot) m.named (all u.slot u e)) in
      let named : IsTrue (is_named m u.slot p.0.key) = any_at (is_pair u.slot p.0.key) m.named p.0 p.1 (and_from _ _ p.2 (bytes_eq_self p.0.key)) in
      let r = member (λ r. bytes_eq r.key p.0.key) u.rows (sym (rows_held m h u.slot u e p.0.key) ∙ h.held u.slot p.0.key named) in
      any_at (λ r. is_named m u.slot r.key) u.rows r.0 r.1 (ap (is_named m u.slot) (bytes_eq-true r.0.key p.0.key r.2) ∙ named)

  pub none_retires : (retire_unnamed m ≡ m) × IsSound m
  none_retires = (
    ap (with_storages m) (map_same_at (retired m) m.storages (λ u c. retired_same m u (named_row u c))),
    all_named m h (λ k d lt. named_row (get_or m.storages k d) (Contains-get_or m.storages k d lt)),
  )
