-- What each call leaves of the fields of a table.
use Rattle.std.proofs.Common.{◌≡◌, ◌≢◌, ℕ, zero, suc, ◌+◌, ◌-◌, ◌<◌, ◌≤◌, List, [], ◌∷◌, ◌++◌, length, set, get_or, take, map, cond, Bool, true, false, if◌then◌else◌, Option, Some, None, sum_by, count_by, refl, sym, ap, subst, ◌∙◌, inl, inr, arith, length-set}
use Rattle.std.proofs.lemmas.Bool.{cases_Bool, false≢true, eqb-true}
use Rattle.std.specs.Prelude.{◌==◌}
use Rattle.std.specs.Ordering.{nat_cmp}
use Rattle.std.specs.BTreeMap.{is_at}
use Rattle.std.specs.Cmp.{unsigned_ties}
use Rattle.std.proofs.lemmas.List.{get_or_default}
use Rattle.std.proofs.Math.Seq.{map-set_same}
use Rattle.std.proofs.lemmas.List.Sums.{sum_by-cons, count_by-le-length}
use Rattle.cell_table.specs.declared.phase.Phase.{Phase}
use Rattle.cell_table.specs.declared.phase.Phase.TheVariants.{Free, Filling, Live, Retired}
use Rattle.cell_table.specs.declared.table.Counts.{Counts}
use Rattle.cell_table.specs.Phases.{has_id, id_of, bytes_of, pins_of, is_free, is_filling, is_live, is_retired, is_idle, published, retired, pinned, unpinned, recycled}
use Rattle.cell_table.specs.Cells.{Table, cell_at, counts_of}
use Rattle.cell_table.specs.Inside.{all_cells, ArePlaces, IsSound, HaveRoom}
use Rattle.cell_table.proofs.Padded.{in_use, cell_at-all, set-all, sum_by-all}
use Rattle.cell_table.proofs.Changes.{one_if, sum_by-changed, places_same, places_more, places_less, eq_when, ids_same, ids_more, ids_less}

pub counts_path : (a b : Counts) → a.filling ≡ b.filling → a.live ≡ b.live → a.retired ≡ b.retired → a.free ≡ b.free → a.pins ≡ b.pins → a ≡ b
counts_path a b filling live retired free pins j = record { filling = filling j; live = live j; retired = retired j; free = free j; pins = pins j }

at_id : (id q : ℕ) → q ≡ id → is_at (nat_cmp id) q ≡ true
at_id id q same = sym (unsigned_ties id q) ∙ eq_when id q (sym same)

at_other : (id q : ℕ) → q ≢ id → is_at (nat_cmp id) q ≡ false
at_other id q differs = sym (unsigned_ties id q) ∙ elim (cases_Bool (id == q)) [ inl same ↦ absurd (differs (sym (eqb-true id q same))) | inr other ↦ other ]

no_place : (o : Option ℕ) → ((k : ℕ) → o ≡ Some k → ⊥) → o ≡ None
no_place None never = refl
no_place (Some k) never = absurd (never k refl)

module _ {T : Type 0} where
  -- a cell that was read
  pub cell_read : (cells : List (Phase T)) (i : ℕ) (was : Phase T) → i < length cells → was ≡ get_or cells i was → cell_at cells i ≡ was
  cell_read cells i was lt read = get_or_default cells i Free was lt ∙ sym read

  -- the last place of a list
  pub last_place : (test : Phase T → Bool) (cells : List (Phase T)) (places : List ℕ) → ArePlaces test cells places → (n i : ℕ) → length places ≡ n + 1 → get_or places n 0 ≡ i → (i < length cells) × (test (cell_at cells i) ≡ true)
  last_place test cells places all n i long last = subst (λ k. (k < length cells) × (test (cell_at cells k) ≡ true)) last (all.each n 0 (omega arith))

  pub room_set : (cells : List (Phase T)) (i : ℕ) (now : Phase T) (most free idle : ℕ) → HaveRoom cells most free idle → HaveRoom (set cells i now) most free idle
  room_set cells i now most free idle room = record {
    few = omega (arith, length-set cells i now, room.few);
    free = omega (arith, length-set cells i now, room.free);
    idle = omega (arith, length-set cells i now, room.idle);
  }

  count_below : (test : Phase T → Bool) (cells : List (Phase T)) (i : ℕ) → i < length cells → test (cell_at cells i) ≡ false → count_by test cells < length cells
  count_below test [] i lt not = absurd (omega arith)
  count_below test (c ∷ cells) zero lt not = omega (arith, sum_by-cons (λ p. one_if (test p)) c cells, count_by-le-length test cells, ap one_if not)
  count_below test (c ∷ cells) (suc i) lt not = elim (cases_Bool (test c)) [
    | inl passes ↦ omega (arith, sum_by-cons (λ p. one_if (test p)) c cells, count_below test cells i (omega arith) not, ap one_if passes)
    | inr fails ↦ omega (arith, sum_by-cons (λ p. one_if (test p)) c cells, count_below test cells i (omega arith) not, ap one_if fails)
  ]

  -- a list of places has room for that of a cell that does not pass
  pub places_fit : (test : Phase T → Bool) (cells : List (Phase T)) (places : List ℕ) → ArePlaces test cells places → (i : ℕ) (was : Phase T) → i < length cells → cell_at cells i ≡ was → test was ≡ false → length places < length cells
  places_fit test cells places all i was lt is not = omega (arith, all.every, count_below test cells i lt (ap test is ∙ not))

  pub idle_not_free : (p : Phase T) → is_idle p ≡ true → is_free p ≡ false
  idle_not_free Free idle = absurd (false≢true idle)
  idle_not_free (Filling id b) idle = refl
  idle_not_free (Live id b pins value) idle = refl
  idle_not_free (Retired id b pins value) idle = refl

  pub live_not_idle : (p : Phase T) → is_live p ≡ true → is_idle p ≡ false
  live_not_idle Free live = refl
  live_not_idle (Filling id b) live = refl
  live_not_idle (Live id b pins value) live = refl
  live_not_idle (Retired id b pins value) live = absurd (false≢true live)

  recycled_idle : (p : Phase T) → is_idle p ≡ true → recycled p ≡ Free
  recycled_idle p idle = ap (λ b. if b then Free else p) idle

  none_recycled : (cells : List (Phase T)) → count_by is_idle cells ≡ 0 → map recycled cells ≡ cells
  none_recycled [] none = refl
  none_recycled (c ∷ cells) none = elim (cases_Bool (is_idle c)) [
    | inl idle ↦ absurd (omega (arith, sum_by-cons (λ p. one_if (is_idle p)) c cells, none, ap one_if idle))
    | inr stays ↦
        let rest = none_recycled cells (omega (arith, sum_by-cons (λ p. one_if (is_idle p)) c cells, none)) in
        λ j. ap (λ b. if b then Free else c) stays j ∷ rest j
  ]

  -- an idle cell is freed, as recycling of all would do
  pub recycled-free : (most : ℕ) (cells : List (Phase T)) (i : ℕ) → i < length cells → is_idle (cell_at cells i) ≡ true → map recycled (all_cells most (set cells i Free)) ≡ map recycled (all_cells most cells)
  recycled-free most cells i lt idle =
      ap (map recycled) (sym (set-all most cells i Free lt))
      ∙ map-set_same recycled (all_cells most cells) i Free Free (sym (ap recycled (cell_at-all most cells i) ∙ recycled_idle (cell_at cells i) idle))

  -- no cell is idle any more
  pub recycled-all : (most : ℕ) (cells : List (Phase T)) (idle : List ℕ) → ArePlaces is_idle cells idle → length idle ≡ 0 → all_cells most cells ≡ map recycled (all_cells most cells)
  recycled-all most cells idle all none =
      sym (none_recycled (all_cells most cells) (omega (arith, sum_by-all most cells (λ c. one_if (is_idle c)) refl, all.every)))

  pub filling_not_free : (p : Phase T) → is_filling p ≡ true → is_free p ≡ false
  filling_not_free Free filling = absurd (false≢true filling)
  filling_not_free (Filling id b) filling = refl
  filling_not_free (Live id b pins value) filling = refl
  filling_not_free (Retired id b pins value) filling = refl

  pub pinned_not_idle : (p : Phase T) → 0 < pins_of p → is_idle p ≡ false
  pinned_not_idle Free some = refl
  pinned_not_idle (Filling id b) some = refl
  pinned_not_idle (Live id b pins value) some = refl
  pinned_not_idle (Retired id b pins value) some = grind arith

  -- the table that contracts see
  module _ (table : Table T) (most limit : ℕ) (cells : List (Phase T)) (view : record { cells = all_cells most cells; limit = limit } ≡ table) where
    pub cell_seen : (i : ℕ) → cell_at table.cells i ≡ cell_at cells i
    cell_seen i = sym (ap (λ (t : Table T). cell_at t.cells i) view) ∙ cell_at-all most cells i

    pub sum_seen : (f : Phase T → ℕ) → f Free ≡ 0 → sum_by f table.cells ≡ sum_by f cells
    sum_seen f none = sym (ap (λ (t : Table T). sum_by f t.cells) view) ∙ sum_by-all most cells f none

    pub counts_seen : counts_of cells ≡ counts_of table.cells
    counts_seen = counts_path (counts_of cells) (counts_of table.cells)
        (sym (sum_seen (λ c. one_if (is_filling c)) refl)) (sym (sum_seen (λ c. one_if (is_live c)) refl)) (sym (sum_seen (λ c. one_if (is_retired c)) refl)) (sym (sum_seen (λ c. one_if (is_idle c)) refl)) (sym (sum_seen pins_of refl))

    -- a cell that contracts see in use
    module _ (P : Phase T → Type 0) (none : P Free → ⊥) (i : ℕ) (holds : P (cell_at table.cells i)) where
      pub in_range : i < length cells
      in_range = in_use P none cells i (subst P (cell_seen i) holds)

      module _ (was : Phase T) (read : was ≡ get_or cells i was) where
        pub was_there : cell_at cells i ≡ was
        was_there = get_or_default cells i Free was in_range ∙ sym read

        pub was_so : P was
        was_so = subst P (cell_seen i ∙ was_there) holds

    pub table_set : (i : ℕ) (now : Phase T) (f : Phase T → Phase T) → i < length cells → now ≡ f (cell_at cells i) → record { cells = all_cells most (set cells i now); limit = limit } ≡ record table { cells = set table.cells i (f (cell_at table.cells i)) }
    table_set i now f lt is =
        (λ j. record { cells = (sym (set-all most cells i now lt) ∙ ap (set (all_cells most cells) i) (is ∙ ap f (sym (cell_at-all most cells i)))) j; limit = limit })
        ∙ ap (λ (t : Table T). record t { cells = set t.cells i (f (cell_at t.cells i)) }) view

  module _ (cells : List (Phase T)) (free idle : List ℕ) (find : ℕ → Option ℕ) (bytes limit : ℕ) (counts : Counts) (sound : IsSound cells free idle find bytes limit counts) (i : ℕ) (was now : Phase T) (lt : i < length cells) (is : cell_at cells i ≡ was) where
    tally_changed : (new : Counts) → new.filling + one_if (is_filling was) ≡ counts.filling + one_if (is_filling now) → new.live + one_if (is_live was) ≡ counts.live + one_if (is_live now)
        → new.retired + one_if (is_retired was) ≡ counts.retired + one_if (is_retired now) → new.free + one_if (is_idle was) ≡ counts.free + one_if (is_idle now) → new.pins + pins_of was ≡ counts.pins + pins_of now
        → new ≡ counts_of (set cells i now)
    tally_changed new filling live retired free pins =
        let count = λ (test : Phase T → Bool). sum_by-changed cells i was now lt is (λ c. one_if (test c)) in
        let was_filling = ap (λ (t : Counts). t.filling) sound.tally in
        let was_live = ap (λ (t : Counts). t.live) sound.tally in
        let was_retired = ap (λ (t : Counts). t.retired) sound.tally in
        let was_free = ap (λ (t : Counts). t.free) sound.tally in
        let was_pins = ap (λ (t : Counts). t.pins) sound.tally in
        counts_path new (counts_of (set cells i now))
        (omega (arith, count is_filling, was_filling, filling)) (omega (arith, count is_live, was_live, live)) (omega (arith, count is_retired, was_retired, retired)) (omega (arith, count is_idle, was_free, free))
        (omega (arith, sum_by-changed cells i was now lt is pins_of, was_pins, pins))

    -- the cell's id stays, and it is free or not as before
    IsSound-same : (new_idle : List ℕ) (new : Counts) → is_free now ≡ is_free was → ((n : ℕ) → has_id n now ≡ has_id n was) → bytes_of now ≡ bytes_of was → ArePlaces is_idle (set cells i now) new_idle → new ≡ counts_of (set cells i now) → IsSound (set cells i now) free new_idle find bytes limit new
    IsSound-same new_idle new free_same id_same bytes_same idle_now tally = record {
      free_places = places_same cells i was now lt is is_free free sound.free_places free_same;
      idle_places = idle_now;
      ids = ids_same cells i was now lt is find sound.ids id_same;
      total = omega (arith, sound.total, sum_by-changed cells i was now lt is bytes_of, bytes_same);
      within = sound.within;
      tally = tally;
    }

  module _ (cells : List (Phase T)) (free idle : List ℕ) (find : ℕ → Option ℕ) (bytes limit : ℕ) (counts : Counts) (sound : IsSound cells free idle find bytes limit counts) (i : ℕ) (lt : i < length cells) where
    pub publish_counts : (was : Phase T) → cell_at cells i ≡ was → is_filling was ≡ true → 0 < counts.filling
    publish_counts Free is passes = absurd (false≢true passes)
    publish_counts (Filling id b) is passes = omega (arith, sum_by-changed cells i (Filling id b) Free lt is (λ c. one_if (is_filling c)), ap (λ (t : Counts). t.filling) sound.tally)
    publish_counts (Live id b pins value) is passes = absurd (false≢true passes)
    publish_counts (Retired id b pins value) is passes = absurd (false≢true passes)

    pub IsSound-publish : (was : Phase T) → cell_at cells i ≡ was → is_filling was ≡ true → (value : T) → IsSound (set cells i (published value was)) free idle find bytes limit (record counts { filling = counts.filling - 1; live = counts.live + 1 })
    IsSound-publish Free is passes value = absurd (false≢true passes)
    IsSound-publish (Filling id b) is passes value =
        let some = publish_counts (Filling id b) is passes in
        let now = Live id b 0 value in
        IsSound-same cells free idle find bytes limit counts sound i (Filling id b) now lt is idle _ refl (λ n. refl) refl
        (places_same cells i (Filling id b) now lt is is_idle idle sound.idle_places refl)
        (tally_changed cells free idle find bytes limit counts sound i (Filling id b) now lt is (record counts { filling = counts.filling - 1; live = counts.live + 1 }) (omega arith) (omega arith) (omega arith) (omega arith) (omega arith))
    IsSound-publish (Live id b pins value) is passes v = absurd (false≢true passes)
    IsSound-publish (Retired id b pins value) is passes v = absurd (false≢true passes)

    pub pins_within : (was : Phase T) → cell_at cells i ≡ was → pins_of was ≤ counts.pins
    pins_within was is = omega (arith, sum_by-changed cells i was Free lt is pins_of, ap (λ (t : Counts). t.pins) sound.tally)

    pub IsSound-pin : (was : Phase T) → cell_at cells i ≡ was → is_live was ≡ true → IsSound (set cells i (pinned was)) free idle find bytes limit (record counts { pins = counts.pins + 1 })
    IsSound-pin Free is passes = absurd (false≢true passes)
    IsSound-pin (Filling id b) is passes = absurd (false≢true passes)
    IsSound-pin (Live id b pins value) is passes =
        let was = Live id b pins value in
        let now = Live id b (pins + 1) value in
        IsSound-same cells free idle find bytes limit counts sound i was now lt is idle _ refl (λ n. refl) refl
        (places_same cells i was now lt is is_idle idle sound.idle_places refl)
        (tally_changed cells free idle find bytes limit counts sound i was now lt is (record counts { pins = counts.pins + 1 }) (omega arith) (omega arith) (omega arith) (omega arith) (omega arith))
    IsSound-pin (Retired id b pins value) is passes = absurd (false≢true passes)

    -- the list of idle places, and their number, after a cell that was not idle may be
    idle_after : (was now : Phase T) → cell_at cells i ≡ was → is_idle was ≡ false → ArePlaces is_idle (set cells i now) (if is_idle now then idle ++ i ∷ [] else idle)
    idle_after was now is not = elim (cases_Bool (is_idle now)) [
      | inl idles ↦ rw idles (places_more cells i was now lt is is_idle idle sound.idle_places not idles)
      | inr stays ↦ rw stays (places_same cells i was now lt is is_idle idle sound.idle_places (stays ∙ sym not))
    ]

    pub retire_counts : (was : Phase T) → cell_at cells i ≡ was → is_live was ≡ true → 0 < counts.live
    retire_counts Free is passes = absurd (false≢true passes)
    retire_counts (Filling id b) is passes = absurd (false≢true passes)
    retire_counts (Live id b pins value) is passes = omega (arith, sum_by-changed cells i (Live id b pins value) Free lt is (λ c. one_if (is_live c)), ap (λ (t : Counts). t.live) sound.tally)
    retire_counts (Retired id b pins value) is passes = absurd (false≢true passes)

    pub IsSound-retire : (was : Phase T) → cell_at cells i ≡ was → is_live was ≡ true →
        let now = retired was in
        IsSound (set cells i now) free (if is_idle now then idle ++ i ∷ [] else idle) find bytes limit (record counts { live = counts.live - 1; retired = counts.retired + 1; free = counts.free + one_if (is_idle now) })
    IsSound-retire Free is passes = absurd (false≢true passes)
    IsSound-retire (Filling id b) is passes = absurd (false≢true passes)
    IsSound-retire (Live id b pins value) is passes =
        let some = retire_counts (Live id b pins value) is passes in
        let was = Live id b pins value in
        let now = Retired id b pins value in
        IsSound-same cells free idle find bytes limit counts sound i was now lt is _ _ refl (λ n. refl) refl
        (idle_after was now is refl)
        (tally_changed cells free idle find bytes limit counts sound i was now lt is (record counts { live = counts.live - 1; retired = counts.retired + 1; free = counts.free + one_if (is_idle now) }) (omega arith) (omega arith) (omega arith) (omega arith) (omega arith))
    IsSound-retire (Retired id b pins value) is passes = absurd (false≢true passes)

    pub unpin_counts : (was : Phase T) → cell_at cells i ≡ was → 0 < pins_of was → 0 < counts.pins
    unpin_counts was is some = omega (arith, sum_by-changed cells i was Free lt is pins_of, ap (λ (t : Counts). t.pins) sound.tally)

    pub IsSound-unpin : (was : Phase T) → cell_at cells i ≡ was → 0 < pins_of was →
        let now = unpinned was in
        IsSound (set cells i now) free (if is_idle now then idle ++ i ∷ [] else idle) find bytes limit (record counts { free = counts.free + one_if (is_idle now); pins = counts.pins - 1 })
    IsSound-unpin Free is some = absurd (omega arith)
    IsSound-unpin (Filling id b) is some = absurd (omega arith)
    IsSound-unpin (Live id b pins value) is some =
        let all = unpin_counts (Live id b pins value) is some in
        let was = Live id b pins value in
        let now = Live id b (pins - 1) value in
        IsSound-same cells free idle find bytes limit counts sound i was now lt is _ _ refl (λ n. refl) refl
        (idle_after was now is refl)
        (tally_changed cells free idle find bytes limit counts sound i was now lt is (record counts { free = counts.free + one_if (is_idle now); pins = counts.pins - 1 }) (omega arith) (omega arith) (omega arith) (omega arith) (omega arith))
    IsSound-unpin (Retired id b pins value) is some =
        let all = unpin_counts (Retired id b pins value) is some in
        let was = Retired id b pins value in
        let now = Retired id b (pins - 1) value in
        let not : is_idle was ≡ false = grind arith in
        IsSound-same cells free idle find bytes limit counts sound i was now lt is _ _ refl (λ n. refl) refl
        (idle_after was now is not)
        (tally_changed cells free idle find bytes limit counts sound i was now lt is (record counts { free = counts.free + one_if (is_idle now); pins = counts.pins - 1 }) (omega arith) (omega arith) (omega arith) (omega (arith, ap one_if not)) (omega arith))

    pub fewer_bytes : (was : Phase T) → cell_at cells i ≡ was → bytes_of was ≤ bytes
    fewer_bytes was is = omega (arith, sum_by-changed cells i was Free lt is bytes_of, sound.total)

    -- a cell in use is freed
    module _ (was : Phase T) (is : cell_at cells i ≡ was) (found : ℕ → Option ℕ) (gone : (q : ℕ) → found q ≡ cond (is_at (nat_cmp (id_of was)) q) None (find q)) where
      IsSound-free : (new_idle : List ℕ) (new : Counts) → is_free was ≡ false → ((n : ℕ) → has_id n was ≡ (id_of was == n)) → ArePlaces is_idle (set cells i Free) new_idle → new ≡ counts_of (set cells i Free)
          → IsSound (set cells i Free) (free ++ i ∷ []) new_idle found (bytes - bytes_of was) limit new
      IsSound-free new_idle new in_use has idle_now tally =
          let left = fewer_bytes was is in record {
            free_places = places_more cells i was Free lt is is_free free sound.free_places in_use refl;
            idle_places = idle_now;
            ids = ids_less cells i was Free lt is find sound.ids (id_of was) has (λ n. refl) found (λ n same. gone n ∙ ap (λ b. cond b None (find n)) (at_id (id_of was) n same)) (λ n differs. gone n ∙ ap (λ b. cond b None (find n)) (at_other (id_of was) n differs));
            total = omega (arith, sound.total, sum_by-changed cells i was Free lt is bytes_of);
            within = omega (arith, sound.within);
            tally = tally;
          }

    pub IsSound-abandon : (was : Phase T) (is : cell_at cells i ≡ was) (found : ℕ → Option ℕ) → ((q : ℕ) → found q ≡ cond (is_at (nat_cmp (id_of was)) q) None (find q)) → is_filling was ≡ true
        → IsSound (set cells i Free) (free ++ i ∷ []) idle found (bytes - bytes_of was) limit (record counts { filling = counts.filling - 1 })
    IsSound-abandon Free is found gone passes = absurd (false≢true passes)
    IsSound-abandon (Filling id b) is found gone passes =
        let some = publish_counts (Filling id b) is passes in
        IsSound-free (Filling id b) is found gone idle _ refl (λ n. refl)
        (places_same cells i (Filling id b) Free lt is is_idle idle sound.idle_places refl)
        (tally_changed cells free idle find bytes limit counts sound i (Filling id b) Free lt is (record counts { filling = counts.filling - 1 }) (omega arith) (omega arith) (omega arith) (omega arith) (omega arith))
    IsSound-abandon (Live id b pins value) is found gone passes = absurd (false≢true passes)
    IsSound-abandon (Retired id b pins value) is found gone passes = absurd (false≢true passes)

    -- the last idle cell is freed
    pub recycle_counts : (was : Phase T) → cell_at cells i ≡ was → is_idle was ≡ true → (0 < counts.retired) × (0 < counts.free)
    recycle_counts Free is passes = absurd (false≢true passes)
    recycle_counts (Filling id b) is passes = absurd (false≢true passes)
    recycle_counts (Live id b pins value) is passes = absurd (false≢true passes)
    recycle_counts (Retired id b pins value) is passes =
        let was = Retired id b pins value in (
          omega (arith, sum_by-changed cells i was Free lt is (λ c. one_if (is_retired c)), ap (λ (t : Counts). t.retired) sound.tally),
          omega (arith, sum_by-changed cells i was Free lt is (λ c. one_if (is_idle c)), ap (λ (t : Counts). t.free) sound.tally, ap one_if passes),
        )

    pub IsSound-recycle : (was : Phase T) (is : cell_at cells i ≡ was) (found : ℕ → Option ℕ) → ((q : ℕ) → found q ≡ cond (is_at (nat_cmp (id_of was)) q) None (find q)) → is_idle was ≡ true → (n : ℕ) → length idle ≡ n + 1 → get_or idle n 0 ≡ i
        → IsSound (set cells i Free) (free ++ i ∷ []) (take n idle) found (bytes - bytes_of was) limit (record counts { retired = counts.retired - 1; free = counts.free - 1 })
    IsSound-recycle Free is found gone passes n long last = absurd (false≢true passes)
    IsSound-recycle (Filling id b) is found gone passes n long last = absurd (false≢true passes)
    IsSound-recycle (Live id b pins value) is found gone passes n long last = absurd (false≢true passes)
    IsSound-recycle (Retired id b pins value) is found gone passes n long last =
        let was = Retired id b pins value in
        let some = recycle_counts was is passes in
        let no_pins : pins ≡ 0 = eqb-true pins 0 passes in
        IsSound-free was is found gone (take n idle) _ refl (λ n. refl)
        (places_less cells i was Free lt is is_idle idle sound.idle_places passes refl n long last)
        (tally_changed cells free idle find bytes limit counts sound i was Free lt is (record counts { retired = counts.retired - 1; free = counts.free - 1 }) (omega arith) (omega arith) (omega (arith, some.0)) (omega (arith, some.1, ap one_if passes)) (omega (arith, no_pins)))

    -- the last free cell is filled
    pub IsSound-begin : cell_at cells i ≡ Free → (id b : ℕ) → ((c : ℕ) → has_id id (cell_at cells c) ≡ false) → bytes + b ≤ limit → (found : ℕ → Option ℕ) → ((q : ℕ) → found q ≡ cond (is_at (nat_cmp id) q) (Some i) (find q)) → (n : ℕ) → length free ≡ n + 1 → get_or free n 0 ≡ i
        → IsSound (set cells i (Filling id b)) (take n free) idle found (bytes + b) limit (record counts { filling = counts.filling + 1 })
    IsSound-begin is id b absent fits found new n long last =
        let now = Filling id b in record {
          free_places = places_less cells i Free now lt is is_free free sound.free_places refl refl n long last;
          idle_places = places_same cells i Free now lt is is_idle idle sound.idle_places refl;
          ids = ids_more cells i Free now lt is find sound.ids (λ m. refl) id (λ m. refl) (no_place (find id) (λ c e. false≢true (sym (absent c) ∙ (sound.ids id c).0 e))) found
              (λ m same. new m ∙ ap (λ b. cond b (Some i) (find m)) (at_id id m same)) (λ m differs. new m ∙ ap (λ b. cond b (Some i) (find m)) (at_other id m differs));
          total = omega (arith, sound.total, sum_by-changed cells i Free now lt is bytes_of);
          within = fits;
          tally = tally_changed cells free idle find bytes limit counts sound i Free now lt is (record counts { filling = counts.filling + 1 }) (omega arith) (omega arith) (omega arith) (omega arith) (omega arith);
        }
