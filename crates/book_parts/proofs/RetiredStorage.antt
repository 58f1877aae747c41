-- Parts in which a storage without a named row has retired reflect the state in which it has.
use Rattle.std.proofs.Common.{◌≡◌, ℕ, ◌+◌, ◌<◌, List, [], ◌∷◌, set, length, count_by, eqb, Bool, true, false, cond, not, ◌&&◌, ◌||◌, Option, Some, None, option_map, option_and_then, refl, sym, ap, ◌∙◌, subst, arith}
use Rattle.std.specs.List.{list_any}
use Rattle.std.specs.Option.{option_map_or}
use Rattle.std.specs.Str.{bytes_eq}
use Rattle.std.proofs.lemmas.Bool.{eqb-true, eq-eqb, ne_eqb, true≢false}
use Rattle.std.proofs.lemmas.List.Sums.{sum_by-cons}
use Rattle.slot_list.specs.declared.Version.{Version}
use Rattle.slot_list.specs.declared.Place.{Place}
use Rattle.slot_list.specs.declared.Place.TheVariants.{Stored}
use Rattle.slot_list.specs.Versions.{at}
use Rattle.accounts_index.specs.Index.{Index, kept, is_stored}
use Rattle.vec_scan.specs.Seal.{rows_in, row_there}
use Rattle.cell_table.specs.declared.phase.Phase.{Phase}
use Rattle.cell_table.specs.declared.phase.Phase.TheVariants as cells
use Rattle.cell_table.specs.Phases as phases
use Rattle.cell_table.specs.Phases.{has_id, value_of}
use Rattle.cell_table.specs.Cells.{cell_at}
use Rattle.storage_map.specs.declared.entry.Live.{Live}
use Rattle.storage_map.specs.Slots.{Slots, live_at, begun_at, alive_in, total_in, Becomes}
use Rattle.adb_model.specs.Lists.{among}
use Rattle.adb_model.specs.State.{Pair, Retired, Storage, State}
use Rattle.adb_model.specs.Presence.{has_row, is_pair, is_held, is_named}
use Rattle.adb_model.specs.Storages.{used, storage_with, live_storage, filling_storage, open_flush, pin_count, in_phase}
use Rattle.adb_model.specs.Shrink.{named_in}
use Rattle.adb_model.specs.Cleaning.{with_retired}
use Rattle.adb_model.specs.Stats.{counts_of}
use Rattle.adb_model.specs.Call.{Counts}
use Rattle.adb_model.specs.Sound.{IsSoundMidway}
use Rattle.book_parts.specs.Parts.{Parts, Shared}
use Rattle.book_parts.specs.Cells.{CellsFit, IsImageOf, IsCellOf}
use Rattle.book_parts.specs.Storages.{IsLiveOf, IsBegunOf, IsPlacedAt}
use Rattle.book_parts.specs.Reflects.{Reflects, counts_in, found_of, mark_of, indexed}
use Rattle.book_parts.specs.Reclaims.{Unholds, IsEmptied}
use Rattle.book_parts.proofs.Found.{some_is, none_some, of_id}
use Rattle.book_parts.proofs.CellChanges as changes
use Rattle.book_parts.proofs.CellOfStorage.{live_with_id, live_cell}
use Rattle.book_parts.proofs.CellSums.{one_if, in_range, same_look}
use Rattle.book_parts.proofs.SameRows.{same_keys}
use Rattle.book_parts.proofs.SlotChanges.{live_kept, begun_kept, same_counts, if_same}
use Rattle.book_parts.proofs.DroppedVersion.{entry_of}
use Rattle.book_parts.proofs.StoredVersions.{named_is}

-- the storage, retired
abbrev pub retired_of : Storage → Storage
retired_of t = record t { phase = Retired }

-- the slot's storage in use, and the state in which it has retired
pub record Retirement (m : State) (slot : ℕ) (t : Storage) : Type 0 where
  pub there : storage_with m t.id ≡ Some t
  pub rows : (k : List ℕ) → is_held m slot k ≡ has_row k t.rows
  pub held : (s : ℕ) (k : List ℕ) → is_held (with_retired m t) s k ≡ (not (eqb slot s) && is_held m s k)
  pub with_id : (id : ℕ) → storage_with (with_retired m t) id ≡ option_map (in_phase t.id Retired) (storage_with m id)
  pub live : (s : ℕ) → live_storage (with_retired m t) s ≡ cond (eqb slot s) None (live_storage m s)
  pub filling : (s : ℕ) → filling_storage (with_retired m t) s ≡ filling_storage m s
  pub flush : (s : ℕ) → open_flush (with_retired m t) s ≡ open_flush m s
  pub bytes : used (with_retired m t) ≡ used m
  pub storages : length (with_retired m t).storages ≡ length m.storages
  pub filling_count : (counts_of (with_retired m t)).filling ≡ (counts_of m).filling
  pub live_count : (counts_of m).live ≡ (counts_of (with_retired m t)).live + 1
  pub retired_count : (counts_of (with_retired m t)).retired ≡ (counts_of m).retired + 1
  pub row_count : (counts_of m).rows ≡ (counts_of (with_retired m t)).rows + length t.rows

-- ---- names

-- a slot with a named pair counts it
pub named_counted : (s : ℕ) (k : List ℕ) (ps : List Pair) → list_any (is_pair s k) ps ≡ true → 0 < count_by (λ p. eqb p.slot s) ps
named_counted s k [] e = absurd (true≢false (sym e))
named_counted s k (p ∷ ps) e = by (eqb p.slot s) refl (named_counted s k ps)
  where
    split : count_by (λ (q : Pair). eqb q.slot s) (p ∷ ps) ≡ cond (eqb p.slot s) 1 0 + count_by (λ (q : Pair). eqb q.slot s) ps
    split = sum_by-cons (λ (q : Pair). cond (eqb q.slot s) 1 0) p ps

    by : (b : Bool) → eqb p.slot s ≡ b → (list_any (is_pair s k) ps ≡ true → 0 < count_by (λ (q : Pair). eqb q.slot s) ps) → 0 < count_by (λ (q : Pair). eqb q.slot s) (p ∷ ps)
    by true t rest = let first : cond (eqb p.slot s) 1 0 ≡ 1 = ap one_if t in omega (arith, split, first)
    by false f rest =
        let later = rest (sym (ap (λ b. b && bytes_eq p.key k || list_any (is_pair s k) ps) f) ∙ e) in
        let first : cond (eqb p.slot s) 1 0 ≡ 0 = ap one_if f in
        omega (arith, split, later, first)

not_and : (b : Bool) → (not b && b) ≡ false
not_and true = refl
not_and false = refl

-- the rows of a storage that has retired are held no longer
unheld : (b row in_image held : Bool) → (b ≡ true → held ≡ row) → in_image ≡ row → (not (b && in_image) && held) ≡ (not b && held)
unheld true row in_image held is same = ap (λ i. not i && held) same ∙ ap (λ h. not row && h) (is refl) ∙ not_and row
unheld false row in_image held is same = refl

-- ---- cells

pub live_form : (t : Storage) (count : ℕ) (phase : Phase Shared) → phases.is_live phase ≡ true → has_id t.id phase ≡ true → IsCellOf t count phase
    → (image : Shared) × (phase ≡ cells.Live t.id t.bytes count image) × IsImageOf t image.value
live_form t count cells.Free live has is = absurd is
live_form t count (cells.Filling id bytes) live has is = absurd (true≢false (sym live))
live_form t count (cells.Live id bytes pins image) live has is =
    let form : cells.Live id bytes pins image ≡ cells.Live t.id t.bytes count image = λ i. cells.Live (eqb-true id t.id has i) (is.1 i) (is.2 i) image in
    (image, form, is.3)
live_form t count (cells.Retired id bytes pins image) live has is = absurd (true≢false (sym live))

-- ---- a storage without a row alive

module _ (cs : List (Phase Shared)) where
  pub storage_of_entry : (named : ℕ) (l : Live) (storage : Option Storage) → IsLiveOf cs named (Some l) storage
      → (t : Storage) × (storage ≡ Some t) × (has_id t.id (cell_at cs l.cell) ≡ true) × (l.alive ≡ named)
  storage_of_entry named l None is = absurd is
  storage_of_entry named l (Some t) is = (t, refl, is.0, is.1)

pub emptied : (p : Parts) (m : State) (slot : ℕ) (live : Live) → IsSoundMidway m → Reflects p m → live_at p.map slot ≡ Some live → live.alive ≡ 0
    → (t : Storage) × IsEmptied p m slot live.cell t
emptied p m slot live h r e none =
    let fits : IsLiveOf p.cells.cells (named_in m slot) (Some live) (live_storage m slot) = subst (λ o. IsLiveOf p.cells.cells (named_in m slot) o (live_storage m slot)) e (r.slots.lives slot) in
    let found = storage_of_entry p.cells.cells (named_in m slot) live (live_storage m slot) fits in
    let t = found.0 in
    let of_cell = r.cells.each live.cell t.id found.2 in (
      t,
      record {
        live = found.1;
        unnamed = sym found.3 ∙ none;
        there = found.2;
        in_use = live_cell of_cell.0 (pin_count m t.id) (cell_at p.cells.cells live.cell) (live_with_id m slot t.id t of_cell.0 h.ids.differ found.1 of_cell.1 refl) of_cell.2;
      },
    )

pub all_named : (p : Parts) (m : State) → Reflects p m → ((q : ℕ) (live : Live) → live_at p.map q ≡ Some live → 0 < live.alive)
    → (s : ℕ) (t : Storage) → live_storage m s ≡ Some t → 0 < named_in m s
all_named p m r alive s t e =
    let entry = entry_of p.cells.cells (named_in m s) (live_at p.map s) t (subst (IsLiveOf p.cells.cells (named_in m s) (live_at p.map s)) e (r.slots.lives s)) in
    subst (λ (n : ℕ). 0 < n) entry.3 (alive s entry.0 entry.1)

-- ---- it retires

module _ (p : Parts) (m : State) (slot cell : ℕ) (t : Storage) (h : IsSoundMidway m) (r : Reflects p m) (is : IsEmptied p m slot cell t) (d : Retirement m slot t) where
  abbrev n : State
  n = with_retired m t

  abbrev count : ℕ
  count = pin_count m t.id

  form : (image : Shared) × (cell_at p.cells.cells cell ≡ cells.Live t.id t.bytes count image) × IsImageOf t image.value
  form =
      let o = r.cells.each cell t.id is.there in
      let fits : IsCellOf t count (cell_at p.cells.cells cell) = subst (λ u. IsCellOf u count (cell_at p.cells.cells cell)) (some_is (sym o.1 ∙ d.there)) o.2 in
      live_form t count (cell_at p.cells.cells cell) is.in_use is.there fits

  -- the form of its cell
  pub was_live : (image : Shared) → value_of (cell_at p.cells.cells cell) ≡ Some image → (cell_at p.cells.cells cell ≡ cells.Live t.id t.bytes count image) × IsImageOf t image.value
  was_live image e =
      let same : form.0 ≡ image = some_is (sym (ap value_of form.1) ∙ e) in
      subst (λ (i : Shared). (cell_at p.cells.cells cell ≡ cells.Live t.id t.bytes count i) × IsImageOf t i.value) same (form.1, form.2)

  module _ (image : Shared) (index : Index) (slots : Slots) (was_is : cell_at p.cells.cells cell ≡ cells.Live t.id t.bytes count image) (of_image : IsImageOf t image.value)
      (e : Unholds slot (rows_in image.value) p.index index) (becomes : Becomes p.map slots slot None (begun_at p.map slot)) where
    abbrev was : Phase Shared
    was = cells.Live t.id t.bytes count image

    abbrev now : Phase Shared
    now = cells.Retired t.id t.bytes count image

    abbrev after : List (Phase Shared)
    after = set p.cells.cells cell now

    within : cell < length p.cells.cells
    within = in_range p.cells.cells t.id cell is.there

    stays_other : (q : ℕ) (found : Option Storage) → ((u : Storage) → found ≡ Some u → u.id ≡ q) → eqb t.id q ≡ false → option_map (in_phase t.id Retired) found ≡ found
    stays_other q None ids f = refl
    stays_other q (Some u) ids f = ap (λ (b : Bool). Some (cond b (retired_of u) u)) (ne_eqb u.id t.id (λ same. true≢false (sym (eq-eqb t.id q (sym same ∙ ids u refl)) ∙ f)))

    retired_found : (q : ℕ) → eqb t.id q ≡ true → storage_with n q ≡ Some (retired_of t)
    retired_found q h =
        d.with_id q ∙ ap (λ (x : ℕ). option_map (in_phase t.id Retired) (storage_with m x)) (sym (eqb-true t.id q h))
        ∙ ap (option_map (in_phase t.id Retired)) d.there ∙ ap (λ (b : Bool). Some (cond b (retired_of t) t)) (eq-eqb t.id t.id refl)

    image_of : IsImageOf (retired_of t) image.value
    image_of = record { slot = of_image.slot; id = of_image.id; rows = of_image.rows }

    fit : CellsFit n after
    fit = changes.cells_change p.cells.cells cell was now within was_is m n r.cells
        (λ q h f. absurd (true≢false (sym h ∙ f)))
        (λ q h f. absurd (true≢false (sym h ∙ f)))
        (λ q h. (retired_of t, retired_found q h, (refl, refl, ap (pin_count m) (eqb-true t.id q h), image_of)))
        (λ q f g. d.with_id q ∙ stays_other q (storage_with m q) (λ u x. (of_id m q u x).1) f)
        (λ q f g. refl)
        (omega (arith, d.storages))

    keeps : (u : Storage) (k : ℕ) → has_id u.id (cell_at p.cells.cells k) ≡ true → has_id u.id (cell_at after k) ≡ true
    keeps u k x = changes.id_kept p.cells.cells cell was now within was_is u.id k (λ same. same) x

    same_value : (k : ℕ) → value_of (cell_at after k) ≡ value_of (cell_at p.cells.cells k)
    same_value k = same_look p.cells.cells cell now within value_of (ap value_of (sym was_is)) k

    found_is : (k : List ℕ) (s : ℕ) → indexed index s k ≡ indexed p.index s k
    found_is k s = ap (λ (vs : List Version). option_map found_of (at s vs)) (e.versions k)

    -- no version of the slot is stored
    unstored : (s : ℕ) (k : List ℕ) (tomb : Bool) (c offset : ℕ) → indexed p.index s k ≡ Some (tomb, Stored c offset) → eqb slot s ≡ false
    unstored s k tomb c offset x = by (eqb slot s) refl
      where
        stored : (o : Option Version) → option_map found_of o ≡ Some (tomb, Stored c offset) → option_map_or (λ v. is_stored v.place) o false ≡ true
        stored None y = absurd (none_some y)
        stored (Some v) y = ap (λ (i : Bool × Place). is_stored i.1) (some_is y)

        by : (b : Bool) → eqb slot s ≡ b → b ≡ false
        by true f =
            let named : is_named m s k ≡ true = named_is p m r h s k ∙ stored (at s (kept p.index k).versions) x in
            let some : 0 < named_in m s = named_counted s k m.named named in
            let none : named_in m s ≡ 0 = ap (named_in m) (sym (eqb-true slot s f)) ∙ is.unnamed in
            absurd (omega (arith, some, none))
        by false f = refl

    placed : (k : List ℕ) (s : ℕ) (tomb : Bool) (c offset : ℕ) → indexed index s k ≡ Some (tomb, Stored c offset) → IsPlacedAt n after s k c offset
    placed k s tomb c offset x =
        let before = sym (found_is k s) ∙ x in
        let old = r.placed k s tomb c offset before in
        record {
          storage = old.storage;
          account = old.account;
          live = d.live s ∙ ap (λ b. cond b None (live_storage m s)) (unstored s k tomb c offset before) ∙ old.live;
          there = keeps old.storage c old.there;
          row = ap (λ (v : Option Shared). option_and_then (λ (image : Shared). row_there image.value.rows offset) v) (same_value c) ∙ old.row;
          last = old.last;
        }

    held_in_image : (k : List ℕ) → has_row k (rows_in image.value) ≡ has_row k t.rows
    held_in_image k = same_keys (rows_in image.value) t.rows k of_image.rows

    held : (k : List ℕ) (s : ℕ) → among s (kept index k).held ≡ is_held n s k
    held k s =
        e.held k s ∙ ap (λ b. not (eqb slot s && has_row k (rows_in image.value)) && b) (r.held k s)
        ∙ unheld (eqb slot s) (has_row k t.rows) (has_row k (rows_in image.value)) (is_held m s k) (λ f. ap (λ (q : ℕ). is_held m q k) (sym (eqb-true slot s f)) ∙ d.rows k) (held_in_image k)
        ∙ sym (d.held s k)

    lives : (s : ℕ) → IsLiveOf after (named_in n s) (live_at slots s) (live_storage n s)
    lives s =
        subst (λ o. IsLiveOf after (named_in m s) o (live_storage n s)) (sym (becomes.lives s))
        (subst (IsLiveOf after (named_in m s) (cond (eqb slot s) None (live_at p.map s))) (sym (d.live s)) (by (eqb slot s)))
      where
        by : (b : Bool) → IsLiveOf after (named_in m s) (cond b None (live_at p.map s)) (cond b None (live_storage m s))
        by true = tt
        by false = live_kept p.cells.cells after (named_in m s) (live_at p.map s) (live_storage m s) (λ u k x h. keeps u k h) (r.slots.lives s)

    begins : (s : ℕ) → IsBegunOf after (begun_at slots s) (filling_storage n s)
    begins s =
        subst (λ o. IsBegunOf after o (filling_storage n s)) (sym (becomes.begins s ∙ if_same (begun_at p.map) slot s))
        (subst (IsBegunOf after (begun_at p.map s)) (sym (d.filling s))
        (begun_kept p.cells.cells after (begun_at p.map s) (filling_storage m s) (λ u k x h. keeps u k h) (r.slots.begins s)))

    abbrev new : Parts
    new = record p { index = index; cells = record p.cells { cells = after }; map = slots }

    counted : counts_in new ≡ counts_of n
    counted =
        let part = λ (f : Counts → ℕ). ap f r.counts in
        let count_of = changes.count_changed p.cells.cells cell was now within was_is in
        let sum = changes.sum_changed p.cells.cells cell was now within was_is in
        let entry = entry_of p.cells.cells (named_in m slot) (live_at p.map slot) t (subst (IsLiveOf p.cells.cells (named_in m slot) (live_at p.map slot)) is.live (r.slots.lives slot)) in
        let alive : alive_in (live_at p.map slot) ≡ 0 = ap alive_in entry.1 ∙ entry.3 ∙ is.unnamed in
        let total : total_in (live_at p.map slot) ≡ length t.rows = ap total_in entry.1 ∙ entry.4 in
        same_counts (counts_in new) (counts_of n)
        (part (λ c. c.cached))
        (omega (arith, count_of phases.is_filling, part (λ c. c.filling), d.filling_count))
        (omega (arith, count_of phases.is_live, part (λ c. c.live), d.live_count))
        (omega (arith, count_of phases.is_retired, part (λ c. c.retired), d.retired_count))
        (omega (arith, becomes.alive, alive, part (λ c. c.named)))
        (omega (arith, becomes.total, total, part (λ c. c.rows), d.row_count))
        (omega (arith, sum phases.bytes_of, part (λ c. c.bytes), d.bytes))
        (omega (arith, sum phases.pins_of, part (λ c. c.pins)))

    pub reflects_retired : Reflects new n
    reflects_retired = record {
      marks = λ k s. ap (option_map mark_of) (found_is k s) ∙ r.marks k s;
      placed = placed;
      held = held;
      expected = λ k s. ap (among s) (e.expected k) ∙ r.expected k s ∙ sym (ap (λ o. option_map_or (λ (u : Storage). has_row k u.rows) o false) (d.flush s));
      rows = r.rows;
      roots = r.roots;
      cleaned = r.cleaned;
      leases = r.leases;
      cells = fit;
      slots = record { lives = lives; begins = begins };
      counts = counted;
      limit = r.limit;
      next_id = r.next_id;
      snap = r.snap;
    }
