-- An opened state is sound.
use Rattle.std.proofs.Common.{◌≡◌, ◌≢◌, ℕ, suc, ◌+◌, ◌<◌, ◌≤◌, eqb, ◌&&◌, IsTrue, List, [], ◌∷◌, length, get_or, map, filter, flat_map, All, AllPairs, Contains, IsSomeAnd, Option, Some, None, option_map, sum_by, refl, sym, ap, ◌∙◌, subst, inl, inr, arith, ◌++◌}
use Rattle.std.specs.List.{list_any, enumerate_from}
use Rattle.std.specs.Str.{bytes_eq}
use Rattle.std.proofs.lemmas.Bool.{true≢false, false≢true, and_parts, and_from, eqb-true, eq-eqb}
use Rattle.std.proofs.lemmas.List.Elements.{All-nil, All-contains, Contains-get_or, Contains-append_left, Contains-append_right}
use Rattle.std.proofs.lemmas.List.Kept.{AllPairs-cons}
use Rattle.std.proofs.lemmas.List.Sums.{sum_by-cons}
use Rattle.adb_model.specs.Lists.{among, last, distinct}
use Rattle.adb_model.specs.State.{Row, Storage, Pair, State}
use Rattle.adb_model.specs.Presence.{is_pair, is_named, is_held, is_live, has_row}
use Rattle.adb_model.specs.Reclaim.{has_named_row}
use Rattle.adb_model.specs.History.{IsPass}
use Rattle.adb_model.specs.Opened.{Image, pairs_of, storage_of, opened}
use Rattle.adb_model.specs.Sound.{IsSound, SlotFits, RowsFit, ShrinkFits, CopyFits, is_settled}
use Rattle.adb_model.specs.Laws.{MayOpen}
use Rattle.adb_model.proofs.Members.{member, any_at, into_map, from_map, among_at, contains_here, contains_next, contains_cases, contains_none}
use Rattle.adb_model.proofs.Pairs.{pairs_none, pairs_head, pairs_tail}
use Rattle.adb_model.proofs.Roots.{upto_last, last_none}
use Rattle.adb_model.proofs.Distinct.{bytes_eq-true, bytes_eq_self, eq-bytes_eq, into_distinct, from_distinct}
use Rattle.adb_model.proofs.Rising.{into_rising, rising_rises}
use Rattle.adb_model.proofs.OpenedStores as shown
use Rattle.adb_model.proofs.OpenedStores.{as_store, into_flat, from_flat}

-- the storages with ids from a number on
abbrev storages_from : ℕ → List Image → List Storage
storages_from n images = map storage_of (enumerate_from n images)

pub from_storages : (n : ℕ) (images : List Image) (t : Storage) → Contains (storages_from n images) t → (i : Image) × Contains images i × (t ≡ storage_of (t.id, i)) × (n ≤ t.id) × (t.id < n + length images)
from_storages n [] t c = absurd (contains_none t c)
from_storages n (x ∷ xs) t c =
    elim (contains_cases (storage_of (n, x)) t (storages_from (n + 1) xs) c) [
      | inl e ↦
          let id : n ≡ t.id = ap (λ (u : Storage). u.id) e in
          (x, contains_here x xs, sym e ∙ ap (λ (a : ℕ). storage_of (a, x)) id, omega arith, omega arith)
      | inr d ↦
          let r = from_storages (n + 1) xs t d in
          let low = r.3 in
          let high = r.4 in
          (r.0, contains_next x r.0 xs r.1, r.2, omega arith, omega arith)
    ]

into_storages : (n : ℕ) (images : List Image) (i : Image) → Contains images i → (id : ℕ) × Contains (storages_from n images) (storage_of (id, i))
into_storages n [] i c = absurd (contains_none i c)
into_storages n (x ∷ xs) i c =
    elim (contains_cases x i xs c) [
      | inl e ↦ (n, subst (λ (j : Image). Contains (storages_from n (x ∷ xs)) (storage_of (n, j))) e (contains_here (storage_of (n, x)) (storages_from (n + 1) xs)))
      | inr d ↦ (let r = into_storages (n + 1) xs i d in (r.0, contains_next (storage_of (n, x)) (storage_of (r.0, i)) (storages_from (n + 1) xs) r.1))
    ]

ids_differ : (n : ℕ) (images : List Image) → AllPairs (λ (t u : Storage). t.id ≢ u.id) (storages_from n images)
ids_differ n [] = pairs_none (λ (t u : Storage). t.id ≢ u.id)
ids_differ n (x ∷ xs) =
    AllPairs-cons (λ (t u : Storage). t.id ≢ u.id) (storage_of (n, x)) (storages_from (n + 1) xs)
    (λ k d lt e. let r = from_storages (n + 1) xs _ (Contains-get_or (storages_from (n + 1) xs) k d lt) in let low = r.3 in omega arith)
    (ids_differ (n + 1) xs)

slots_differ : (n : ℕ) (images : List Image) → AllPairs (λ i j. i.slot < j.slot) images → AllPairs (λ (t u : Storage). t.slot ≢ u.slot) (storages_from n images)
slots_differ n [] up = pairs_none (λ (t u : Storage). t.slot ≢ u.slot)
slots_differ n (x ∷ xs) up =
    AllPairs-cons (λ (t u : Storage). t.slot ≢ u.slot) (storage_of (n, x)) (storages_from (n + 1) xs)
    (λ k d lt e.
    let r = from_storages (n + 1) xs _ (Contains-get_or (storages_from (n + 1) xs) k d lt) in
    let above = All-contains (λ j. x.slot < j.slot) xs r.0 (pairs_head (λ i j. i.slot < j.slot) x xs up) r.1 in
    let same = ap (λ (u : Storage). u.slot) r.2 in
    omega (arith, above, same, e))
    (slots_differ (n + 1) xs (pairs_tail (λ i j. i.slot < j.slot) x xs up))

sum_storages : (n : ℕ) (images : List Image) → sum_by (λ (t : Storage). t.bytes) (storages_from n images) ≡ sum_by (λ i. i.bytes) images
sum_storages n [] = refl
sum_storages n (x ∷ xs) = sum_by-cons (λ (t : Storage). t.bytes) (storage_of (n, x)) (storages_from (n + 1) xs) ∙ ap (λ (a : ℕ). x.bytes + a) (sum_storages (n + 1) xs) ∙ sym (sum_by-cons (λ (i : Image). i.bytes) x xs)

length_storages : (n : ℕ) (images : List Image) → length (storages_from n images) ≡ length images
length_storages n [] = refl
length_storages n (x ∷ xs) = ap suc (length_storages (n + 1) xs)

module _ (budget root : ℕ) (images : List Image) (more : List ℕ) (may : MayOpen budget images) where
  abbrev m : State
  m = opened budget root images more

  abbrev all_slots : List ℕ
  all_slots = map (λ i. i.slot) images ++ more ++ root ∷ []

  slot_rooted : (i : Image) → Contains images i → IsTrue (among i.slot m.roots)
  slot_rooted i c =
      among_at i.slot m.roots (into_rising all_slots i.slot
      (Contains-append_left (map (λ (i : Image). i.slot) images ++ more) (root ∷ []) i.slot (Contains-append_left (map (λ (i : Image). i.slot) images) more i.slot (into_map (λ (i : Image). i.slot) images i c))))

  newest : IsSomeAnd (last m.roots) (λ n. root ≤ n)
  newest = by (last m.roots) refl
    where
      here : Contains m.roots root
      here = into_rising all_slots root (Contains-append_right (map (λ (i : Image). i.slot) images ++ more) (root ∷ []) root (contains_here root []))

      by : (o : Option ℕ) → last m.roots ≡ o → IsSomeAnd o (λ n. root ≤ n)
      by None e = contains_none root (subst (λ ns. Contains ns root) (last_none m.roots e) here)
      by (Some n) e = All-contains (λ r. r ≤ n) m.roots root (upto_last m.roots n (rising_rises all_slots) e) here

  named_from : (s : ℕ) (k : List ℕ) → IsTrue (is_named m s k) → (i : Image) × Contains images i × (i.slot ≡ s) × IsTrue (has_row k i.rows)
  named_from s k n =
      let a = member (is_pair s k) (flat_map pairs_of images) n in
      let parts = and_parts (eqb a.0.slot s) (bytes_eq a.0.key k) a.2 in
      let f = from_flat pairs_of images a.0 a.1 in
      let p = from_map (λ q. let pair : Pair = record { slot = f.0.slot; key = q } in pair) (distinct bytes_eq (map (λ r. r.key) f.0.rows)) a.0 f.2 in
      let r = from_map (λ (r : Row). r.key) f.0.rows p.0 (from_distinct bytes_eq bytes_eq-true bytes_eq_self (map (λ (r : Row). r.key) f.0.rows) p.0 p.1) in
      let key = ap (λ (q : Pair). q.key) p.2 ∙ bytes_eq-true a.0.key k parts.1 in
      (f.0, f.1, ap (λ (q : Pair). q.slot) p.2 ∙ eqb-true a.0.slot s parts.0, any_at (λ r. bytes_eq r.key k) f.0.rows r.0 r.1 (eq-bytes_eq r.0.key k (r.2 ∙ key)))

  named_into : (i : Image) → Contains images i → (k : List ℕ) → IsTrue (has_row k i.rows) → IsTrue (is_named m i.slot k)
  named_into i c k row =
      let r = member (λ r. bytes_eq r.key k) i.rows row in
      let q = into_distinct bytes_eq bytes_eq-true bytes_eq_self (map (λ (r : Row). r.key) i.rows) r.0.key (into_map (λ (r : Row). r.key) i.rows r.0 r.1) in
      let pair : Pair = record { slot = i.slot; key = r.0.key } in
      any_at (is_pair i.slot k) (flat_map pairs_of images) pair (into_flat pairs_of images i pair c (into_map (λ q. let pair : Pair = record { slot = i.slot; key = q } in pair) (distinct bytes_eq (map (λ r. r.key) i.rows)) r.0.key q))
      (and_from _ _ (eq-eqb i.slot i.slot refl) r.2)

  held_into : (i : Image) → Contains images i → (k : List ℕ) → IsTrue (has_row k i.rows) → IsTrue (is_held m i.slot k)
  held_into i c k row =
      let t = into_storages 1 images i c in
      any_at (λ u. (is_live u && eqb u.slot i.slot) && has_row k u.rows) m.storages (storage_of (t.0, i)) t.1 (and_from _ _ (eq-eqb i.slot i.slot refl) row)

  account_of : (s : ℕ) (o : Option Row) → option_map (λ r. r.account) o ≡ option_map (λ t. t.account) (option_map (as_store s) o)
  account_of s None = refl
  account_of s (Some r) = refl

  row_fits : (id : ℕ) (i : Image) → Contains images i → RowsFit m (storage_of (id, i))
  row_fits id i c = record {
    stored = λ k r. shown.store_into budget root images more i c k r;
    last = λ k r. account_of i.slot (last (filter (λ r. bytes_eq r.key k) i.rows)) ∙ ap (option_map (λ t. t.account)) (sym (shown.last_in budget root images more may.rise i c k));
    some = λ f. absurd (false≢true f);
    whole = λ f. absurd (false≢true f);
  }

  named_row : (i : Image) → Contains images i → (rows : List Row) → i.rows ≡ rows → 0 < length rows → IsTrue (list_any (λ r. is_named m i.slot r.key) rows)
  named_row i c [] e some = absurd (omega arith)
  named_row i c (r ∷ rows) e some =
      any_at (λ r. is_named m i.slot r.key) (r ∷ rows) r (contains_here r rows)
      (named_into i c r.key (any_at (λ q. bytes_eq q.key r.key) i.rows r (subst (λ rs. Contains rs r) (sym e) (contains_here r rows)) (bytes_eq_self r.key)))

  -- what holds of each image's storage holds of each storage
  pub of_images : (P : Storage → Type 0) → ((id : ℕ) (i : Image) → Contains images i → id < 1 + length images → P (storage_of (id, i))) → All P m.storages
  of_images P holds k d lt =
      let t = get_or m.storages k d in
      let r = from_storages 1 images t (Contains-get_or m.storages k d lt) in
      subst P (sym r.2) (holds t.id r.0 r.1 r.4)

  pub opened_sound : IsSound m
  opened_sound = record {
    limits = record {
      roots = rising_rises all_slots;
      cleaned = inr newest;
      leases = All-nil (λ l. IsPass l.pass × (root ≤ l.max_root));
      passes = All-nil (λ p. IsPass p.pass);
      pins = λ pass. omega arith;
      bytes = omega (arith, sum_storages 1 images, may.fits);
      count = omega (arith, length_storages 1 images, may.cells);
    };
    slots = record {
      roots = λ s f. f;
      named = λ s k n. let i = named_from s k n in subst (λ n. IsTrue (among n m.roots)) i.2 (slot_rooted i.0 i.1);
      storages = of_images (SlotFits m) (λ id i c lt. record { settled = λ f. slot_rooted i c; rooted = λ f. slot_rooted i c; copied = λ f. absurd (false≢true f) });
      one_live = λ i j d lt within a b. slots_differ 1 images may.rise i j d lt within;
      one_filling = λ i j d lt within a b. slots_differ 1 images may.rise i j d lt within;
    };
    ids = record {
      differ = ids_differ 1 images;
      below = of_images (λ t. t.id < length images + 1) (λ id i c lt. omega arith);
      one_shrink = pairs_none (λ a b. a.slot ≢ b.slot);
      shrinks = All-nil (ShrinkFits m);
      pins = All-nil (λ p. IsTrue (is_settled m p.id));
      snap = λ n i. absurd (false≢true i);
    };
    rows = of_images (RowsFit m) (λ id i c lt. row_fits id i c);
    names = record {
      held = λ s k n. let i = named_from s k n in subst (λ n. IsTrue (is_held m n k)) i.2 (held_into i.0 i.1 k i.3);
      live = of_images (λ t. IsTrue (is_live t) → IsTrue (has_named_row m t)) (λ id i c lt live. named_row i c i.rows refl (All-contains (λ i. 0 < length i.rows) images i may.some c));
    };
    copies = All-nil (CopyFits m);
    gone = λ s k st f u.
        let i = shown.store_from budget root images more s k st in
        absurd (true≢false (sym (subst (λ n. IsTrue (is_named m n k)) i.2 (named_into i.0 i.1 k i.3)) ∙ u));
  }
