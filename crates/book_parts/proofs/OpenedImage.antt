-- Parts from which one image more is opened reflect the state that is opened from it too.
use Rattle.std.proofs.Common.{◌≡◌, ℕ, ◌+◌, ◌<◌, List, set, length, eqb, Bool, true, false, cond, ◌&&◌, ◌||◌, Option, Some, None, is_some, refl, sym, ap, ap₂, ◌∙◌, subst, arith}
use Rattle.std.specs.List.Sorted.{IsStrictlyIncreasing}
use Rattle.std.specs.Option.{option_map, option_map_or}
use Rattle.std.proofs.lemmas.Bool.{eqb-true, eq-eqb, true≢false}
use Rattle.std.proofs.lemmas.List.{length-map}
use Rattle.slot_list.specs.declared.Place.{Place}
use Rattle.slot_list.specs.declared.Place.TheVariants.{Stored}
use Rattle.accounts_index.specs.Index.{Index, kept}
use Rattle.vec_scan.specs.Image.{Image, Placed}
use Rattle.vec_scan.specs.Seal.{rows_in, offsets_of}
use Rattle.cell_table.specs.declared.phase.Phase.{Phase}
use Rattle.cell_table.specs.declared.phase.Phase.TheVariants.{Free}
use Rattle.cell_table.specs.declared.phase.Phase.TheVariants as cells
use Rattle.cell_table.specs.Phases as phases
use Rattle.cell_table.specs.Phases.{has_id}
use Rattle.cell_table.specs.Cells.{cell_at}
use Rattle.storage_map.specs.declared.entry.Live.{Live}
use Rattle.storage_map.specs.declared.entry.Begun.{Begun}
use Rattle.storage_map.specs.Slots as maps
use Rattle.storage_map.specs.Slots.{Slots, live_at, begun_at, Becomes}
use Rattle.adb_model.specs.Lists.{among}
use Rattle.adb_model.specs.Account.{is_tomb}
use Rattle.adb_model.specs.State as model
use Rattle.adb_model.specs.State.{Row, Storage, State}
use Rattle.adb_model.specs.Load.{last_store}
use Rattle.adb_model.specs.Presence.{has_row, is_cached, is_named, is_present, is_held, ends_in_tomb}
use Rattle.adb_model.specs.Storages.{live_storage, filling_storage, storage_with, pin_count}
use Rattle.adb_model.specs.Shrink.{named_in}
use Rattle.adb_model.specs.Stats.{counts_of}
use Rattle.adb_model.specs.Call.{Counts}
use Rattle.adb_model.specs.Sound.{last_account, last_row}
use Rattle.book_parts.specs.Parts.{Parts, Shared}
use Rattle.book_parts.specs.Cells.{CellsFit, IsImageOf, IsCellOf, row_in}
use Rattle.book_parts.specs.Storages.{IsLiveOf, IsBegunOf, IsPlacedAt}
use Rattle.book_parts.specs.Reflects.{Reflects, counts_in, mark_of, indexed, present_mark, is_expected}
use Rattle.book_parts.specs.Opening.{Indexes, last_placed, distinct_keys}
use Rattle.book_parts.proofs.Found.{some_is, none_some}
use Rattle.book_parts.proofs.CellChanges as changes
use Rattle.book_parts.proofs.CellChanges.{placed_kept, placed_apart}
use Rattle.book_parts.proofs.SlotChanges.{live_kept, no_begun, no_live, same_counts}
use Rattle.book_parts.proofs.OpenedRows.{last_there, last_row_is, placed_row}
use Rattle.book_parts.proofs.OpenedStates.{AllIsFlushed, HasOneMore}
use Rattle.book_parts.proofs.OpenedCounts.{CountsOneMore}

abbrev mark : Bool → Bool → Bool → Option (Bool × Bool)
mark p t c = cond p (Some (t, c)) None

abbrev slot_of : model.Snap → ℕ
slot_of q = q.slot

-- whether the account of a last store is a tomb
tomb_of : (m : State) (s : ℕ) (k : List ℕ) → ends_in_tomb m s k ≡ option_map_or is_tomb (last_account m s k) false
tomb_of m s k = by (last_store m s k)
  where
    by : (o : Option model.Stored) → option_map_or (λ (t : model.Stored). is_tomb t.account) o false ≡ option_map_or is_tomb (option_map (λ (t : model.Stored). t.account) o) false
    by None = refl
    by (Some t) = refl

-- the storage of an image
abbrev pub in_use : Image → Storage
in_use image = record { id = image.id; slot = image.slot; rows = rows_in image; bytes = length image.bytes; phase = model.Live }

-- the entry of its slot
abbrev entry_of : ℕ → Image → Live
entry_of cell image = record { cell = cell; alive = distinct_keys (rows_in image); total = length image.rows }

module _ (p : Parts) (m n : State) (cell : ℕ) (image : Shared) (index : Index) (slots : Slots) (r : Reflects p m) (before : AllIsFlushed m) (after : AllIsFlushed n)
    (d : HasOneMore m n (in_use image.value) (distinct_keys (rows_in image.value))) (g : CountsOneMore m n (in_use image.value) (distinct_keys (rows_in image.value)))
    (rise : IsStrictlyIncreasing (offsets_of image.value.rows)) (e : Indexes image.value.slot cell image.value.rows p.index index)
    (within : cell < length p.cells.cells) (was_free : cell_at p.cells.cells cell ≡ Free) (becomes : Becomes p.map slots image.value.slot (Some (entry_of cell image.value)) None) where
  abbrev rows : List Row
  rows = rows_in image.value

  abbrev slot : ℕ
  slot = image.value.slot

  abbrev new : Storage
  new = in_use image.value

  abbrev keys : ℕ
  keys = distinct_keys rows

  abbrev found : Placed → Bool × Place
  found x = (is_tomb x.row.account, Stored cell x.offset)

  present_before : (s : ℕ) (k : List ℕ) → is_present m s k ≡ is_named m s k
  present_before s k = ap (λ b. b || is_named m s k) (before.uncached s k)

  present_after : (s : ℕ) (k : List ℕ) → is_present n s k ≡ (is_named m s k || (eqb slot s && has_row k rows))
  present_after s k = ap (λ b. b || is_named n s k) (after.uncached s k) ∙ d.named s k

  mark_after : (s : ℕ) (k : List ℕ) → present_mark n s k
      ≡ mark (is_named m s k || (eqb slot s && has_row k rows)) (option_map_or is_tomb (cond (eqb slot s) (last_row k rows) (last_account m s k)) false) false
  mark_after s k =
      ap (mark (is_present n s k) (ends_in_tomb n s k)) (after.uncached s k)
      ∙ ap₂ (λ a t. mark a t false) (present_after s k) (tomb_of n s k ∙ ap (λ o. option_map_or is_tomb o false) (d.accounts s k))

  -- ---- what a look-up finds

  marks : (k : List ℕ) (s : ℕ) → option_map mark_of (indexed index s k) ≡ present_mark n s k
  marks k s = ap (option_map mark_of) (e.versions k s) ∙ by (eqb slot s) refl ∙ sym (mark_after s k)
    where
      here : (o : Option Placed) → last_placed image.value.rows k ≡ o
          → option_map mark_of (cond (has_row k rows) (option_map found (last_placed image.value.rows k)) (indexed p.index slot k)) ≡ mark (has_row k rows) (option_map_or is_tomb (last_row k rows) false) false
      here None f =
          let row : has_row k rows ≡ false = sym (last_there image.value.rows k) ∙ ap is_some f in
          let none = r.marks k slot ∙ ap (λ a. mark a (ends_in_tomb m slot k) (is_cached m slot k)) (present_before slot k ∙ d.none_named k) in
          ap (λ b. option_map mark_of (cond b (option_map found (last_placed image.value.rows k)) (indexed p.index slot k))) row ∙ none
          ∙ sym (ap (λ b. mark b (option_map_or is_tomb (last_row k rows) false) false) row)
      here (Some x) f =
          let row : has_row k rows ≡ true = sym (last_there image.value.rows k) ∙ ap is_some f in
          let account : last_row k rows ≡ Some x.row.account = last_row_is image.value.rows k ∙ ap (option_map (λ (y : Placed). y.row.account)) f in
          ap (λ b. option_map mark_of (cond b (option_map found (last_placed image.value.rows k)) (indexed p.index slot k))) row
          ∙ ap (λ o. option_map mark_of (option_map found o)) f
          ∙ sym (ap₂ (λ b o. mark b (option_map_or is_tomb o false) false) row account)

      by : (b : Bool) → eqb slot s ≡ b
          → option_map mark_of (cond (b && has_row k rows) (option_map found (last_placed image.value.rows k)) (indexed p.index s k))
          ≡ mark (is_named m s k || (b && has_row k rows)) (option_map_or is_tomb (cond b (last_row k rows) (last_account m s k)) false) false
      by true f =
          let same = eqb-true slot s f in
          subst (λ q. option_map mark_of (cond (has_row k rows) (option_map found (last_placed image.value.rows k)) (indexed p.index q k)) ≡ mark (is_named m q k || has_row k rows) (option_map_or is_tomb (last_row k rows) false) false) same
          (here (last_placed image.value.rows k) refl ∙ sym (ap (λ b. mark (b || has_row k rows) (option_map_or is_tomb (last_row k rows) false) false) (d.none_named k)))
      by false f =
          r.marks k s ∙ ap (mark (is_present m s k) (ends_in_tomb m s k)) (before.uncached s k)
          ∙ ap₂ (λ a t. mark a t false) (present_before s k ∙ sym (or_false (is_named m s k))) (tomb_of m s k)
        where
          or_false : (b : Bool) → (b || false) ≡ b
          or_false true = refl
          or_false false = refl

  held : (k : List ℕ) (s : ℕ) → among s (kept index k).held ≡ is_held n s k
  held k s = e.held k s ∙ ap (λ b. (eqb slot s && has_row k rows) || b) (r.held k s) ∙ sym (d.held s k)

  expected : (k : List ℕ) (s : ℕ) → among s (kept index k).expected ≡ is_expected n s k
  expected k s = e.expected k s ∙ r.expected k s ∙ ap (λ o. option_map_or (λ (t : Storage). has_row k t.rows) o false) (before.no_flush s ∙ sym (after.no_flush s))

  -- ---- cells

  abbrev now : Phase Shared
  now = cells.Live new.id new.bytes 0 image

  abbrev changed : List (Phase Shared)
  changed = set p.cells.cells cell now

  here : cell_at changed cell ≡ now
  here = changes.cell_here p.cells.cells cell Free now within was_free

  is_image : IsImageOf new image.value
  is_image = record { slot = refl; id = refl; rows = λ k. refl }

  with_new : (q : ℕ) → has_id q now ≡ true → storage_with n q ≡ Some new
  with_new q t = d.with_id q ∙ ap (λ b. cond b (Some new) (storage_with m q)) t

  of_cell : (q : ℕ) → has_id q now ≡ true → IsCellOf new (pin_count n q) now
  of_cell q t = (refl, refl, sym g.unpinned ∙ ap (pin_count n) (eqb-true new.id q t), is_image)

  fit : CellsFit n changed
  fit = changes.cells_change p.cells.cells cell Free now within was_free m n r.cells
      (λ q t f. ap (storage_with m) (sym (eqb-true new.id q t)) ∙ d.fresh)
      (λ q t f. absurd (true≢false (sym t)))
      (λ q t. (new, with_new q t, of_cell q t))
      (λ q f h. d.with_id q ∙ ap (λ b. cond b (Some new) (storage_with m q)) h)
      (λ q f h. g.pinned q)
      (omega (arith, g.storages))

  keeps : (u : Storage) (k : ℕ) → has_id u.id (cell_at p.cells.cells k) ≡ true → has_id u.id (cell_at changed k) ≡ true
  keeps u k h = changes.id_kept p.cells.cells cell Free now within was_free u.id k (λ f. absurd (true≢false (sym f))) h

  -- ---- places

  placed_new : (k : List ℕ) (x : Placed) → last_placed image.value.rows k ≡ Some x → IsPlacedAt n changed slot k cell x.offset
  placed_new k x f = record {
    storage = new;
    account = x.row.account;
    live = d.live slot ∙ ap (λ b. cond b (Some new) (live_storage m slot)) (eq-eqb slot slot refl);
    there = ap (has_id new.id) here ∙ eq-eqb new.id new.id refl;
    row = ap (λ c. row_in c x.offset) here ∙ placed_row image.value.rows k x rise f;
    last = d.accounts slot k ∙ ap (λ b. cond b (last_row k rows) (last_account m slot k)) (eq-eqb slot slot refl)
        ∙ last_row_is image.value.rows k ∙ ap (option_map (λ (y : Placed). y.row.account)) f;
  }

  -- nothing of the slot had a place before
  none_before : (k : List ℕ) (tomb : Bool) (at offset : ℕ) → indexed p.index slot k ≡ Some (tomb, Stored at offset) → ⊥
  none_before k tomb at offset x = let old = r.placed k slot tomb at offset x in none_some (sym d.none_live ∙ old.live)

  placed : (k : List ℕ) (s : ℕ) (tomb : Bool) (at offset : ℕ) → indexed index s k ≡ Some (tomb, Stored at offset) → IsPlacedAt n changed s k at offset
  placed k s tomb at offset x = by (eqb slot s) refl (sym (e.versions k s) ∙ x)
    where
      at_new : (o : Option Placed) → last_placed image.value.rows k ≡ o → option_map found o ≡ Some (tomb, Stored at offset) → IsPlacedAt n changed slot k at offset
      at_new None f y = absurd (none_some y)
      at_new (Some z) f y =
          let both : Stored cell z.offset ≡ Stored at offset = ap (λ (i : Bool × Place). i.1) (some_is y) in
          let same_cell : cell ≡ at = cc in
          let same_offset : z.offset ≡ offset = cc in
          subst (λ c. IsPlacedAt n changed slot k c offset) same_cell (subst (λ o. IsPlacedAt n changed slot k cell o) same_offset (placed_new k z f))

      in_slot : (b : Bool) → cond b (option_map found (last_placed image.value.rows k)) (indexed p.index slot k) ≡ Some (tomb, Stored at offset) → IsPlacedAt n changed slot k at offset
      in_slot true y = at_new (last_placed image.value.rows k) refl y
      in_slot false y = absurd (none_before k tomb at offset y)

      by : (b : Bool) → eqb slot s ≡ b → cond (b && has_row k rows) (option_map found (last_placed image.value.rows k)) (indexed p.index s k) ≡ Some (tomb, Stored at offset)
          → IsPlacedAt n changed s k at offset
      by true f y =
          let same = eqb-true slot s f in
          subst (λ q. IsPlacedAt n changed q k at offset) same
          (in_slot (has_row k rows) (ap (λ q. cond (has_row k rows) (option_map found (last_placed image.value.rows k)) (indexed p.index q k)) same ∙ y))
      by false f y =
          let old = r.placed k s tomb at offset y in
          placed_kept m n p.cells.cells changed s k at offset
          (d.live s ∙ ap (λ b. cond b (Some new) (live_storage m s)) f)
          (d.accounts s k ∙ ap (λ b. cond b (last_row k rows) (last_account m s k)) f)
          (changes.cell_other p.cells.cells cell Free now within was_free at (placed_apart m p.cells.cells s k at offset cell Free was_free refl old)) old

  -- ---- slots

  abbrev entry : Live
  entry = entry_of cell image.value

  lives : (s : ℕ) → IsLiveOf changed (named_in n s) (live_at slots s) (live_storage n s)
  lives s =
      subst (λ c. IsLiveOf changed c (live_at slots s) (live_storage n s)) (sym (d.names s))
      (subst (λ l. IsLiveOf changed (named_in m s + cond (eqb slot s) keys 0) l (live_storage n s)) (sym (becomes.lives s))
      (subst (IsLiveOf changed (named_in m s + cond (eqb slot s) keys 0) (cond (eqb slot s) (Some entry) (live_at p.map s))) (sym (d.live s)) (by (eqb slot s) refl)))
    where
      by : (b : Bool) → eqb slot s ≡ b → IsLiveOf changed (named_in m s + cond b keys 0) (cond b (Some entry) (live_at p.map s)) (cond b (Some new) (live_storage m s))
      by true f =
          let none : named_in m s ≡ 0 = ap (named_in m) (sym (eqb-true slot s f)) ∙ d.no_names in
          (ap (has_id new.id) here ∙ eq-eqb new.id new.id refl, omega (arith, none), sym (length-map image.value.rows (λ (x : Placed). x.row)))
      by false f =
          let same : named_in m s ≡ named_in m s + 0 = omega arith in
          subst (λ c. IsLiveOf changed c (live_at p.map s) (live_storage m s)) same
          (live_kept p.cells.cells changed (named_in m s) (live_at p.map s) (live_storage m s) (λ u k x h. keeps u k h) (r.slots.lives s))

  begins : (s : ℕ) → IsBegunOf changed (begun_at slots s) (filling_storage n s)
  begins s =
      let none : begun_at p.map s ≡ None = no_begun p.cells.cells (begun_at p.map s) (subst (IsBegunOf p.cells.cells (begun_at p.map s)) (before.none_filling s) (r.slots.begins s)) in
      subst (λ b. IsBegunOf changed b (filling_storage n s)) (sym (becomes.begins s ∙ ap (cond (eqb slot s) None) none ∙ either (eqb slot s)))
      (subst (IsBegunOf changed None) (sym (after.none_filling s)) tt)
    where
      none_begun : Option Begun
      none_begun = None

      either : (b : Bool) → cond b none_begun none_begun ≡ none_begun
      either true = refl
      either false = refl

  -- ---- counts

  abbrev with_image : ℕ → Parts
  with_image next = record p { index = index; cells = record p.cells { cells = changed }; map = slots; roots = n.roots; next_id = next }

  counted : counts_in (with_image n.next_id) ≡ counts_of n
  counted =
      let old = r.counts in
      let count = changes.count_changed p.cells.cells cell Free now within was_free in
      let sum = changes.sum_changed p.cells.cells cell Free now within was_free in
      let was = λ (part : Counts → ℕ). ap part old in
      let no_live_before : live_at p.map slot ≡ None = no_live p.cells.cells (named_in m slot) (live_at p.map slot) (subst (IsLiveOf p.cells.cells (named_in m slot) (live_at p.map slot)) d.none_live (r.slots.lives slot)) in
      let alive_before = ap maps.alive_in no_live_before in
      let total_before = ap maps.total_in no_live_before in
      same_counts (counts_in (with_image n.next_id)) (counts_of n)
      (was (λ c. c.cached) ∙ before.none_counted ∙ sym after.none_counted)
      (omega (arith, count phases.is_filling, was (λ c. c.filling), g.filling))
      (omega (arith, count phases.is_live, was (λ c. c.live), g.live))
      (omega (arith, count phases.is_retired, was (λ c. c.retired), g.retired))
      (omega (arith, becomes.alive, alive_before, was (λ c. c.named), g.named))
      (omega (arith, becomes.total, total_before, was (λ c. c.rows), g.rows, length-map image.value.rows (λ (x : Placed). x.row)))
      (omega (arith, sum phases.bytes_of, was (λ c. c.bytes), g.bytes))
      (omega (arith, sum phases.pins_of, was (λ c. c.pins), g.pins))

  pub reflects_image : m.cleaned ≡ n.cleaned → m.leases ≡ n.leases → m.budget ≡ n.budget → option_map slot_of m.snap ≡ option_map slot_of n.snap → (next : ℕ) → next ≡ n.next_id → Reflects (with_image next) n
  reflects_image cleaned leases budget snap next next_is = record {
    marks = marks;
    placed = placed;
    held = held;
    expected = expected;
    rows = λ s. r.rows s ∙ before.unflushed s ∙ sym (after.unflushed s);
    roots = refl;
    cleaned = r.cleaned ∙ cleaned;
    leases = r.leases ∙ leases;
    cells = fit;
    slots = record { lives = lives; begins = begins };
    counts = counted;
    limit = r.limit ∙ budget;
    next_id = next_is;
    snap = r.snap ∙ snap;
  }
