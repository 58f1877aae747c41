-- Parts whose retired cells without pins are free reflect the state from which their storages have left.
use Rattle.std.proofs.Common.{◌≡◌, ℕ, zero, suc, ◌+◌, ◌<◌, List, [], ◌∷◌, map, set, length, count_by, eqb, nat_lt, Bool, true, false, cond, not, ◌&&◌, ◌||◌, IsTrue, IsFalse, Contains, Some, None, refl, sym, ap, ap₂, ◌∙◌, subst, arith}
use Rattle.std.specs.Option.{option_map_or}
use Rattle.std.proofs.lemmas.Bool.{and_parts, and_from, eqb-true, eq-eqb, true≢false, lt-ltb, not_from_false, false_from_ne_true}
use Rattle.std.proofs.lemmas.List.Sums.{sum_by-cons}
use Rattle.cell_table.specs.declared.phase.Phase.{Phase}
use Rattle.cell_table.specs.declared.phase.Phase.TheVariants.{Free, Filling, Live, Retired}
use Rattle.cell_table.specs.Phases as phases
use Rattle.cell_table.specs.Phases.{has_id, is_idle, recycled}
use Rattle.cell_table.specs.Cells.{cell_at}
use Rattle.storage_map.specs.Slots.{live_at, begun_at}
use Rattle.adb_model.specs.State.{Storage, State}
use Rattle.adb_model.specs.Presence as presence
use Rattle.adb_model.specs.Presence.{has_row, is_held}
use Rattle.adb_model.specs.Storages.{is_filling, is_retired, is_pinned, used, storage_with, live_storage, filling_storage, open_flush, pin_count}
use Rattle.adb_model.specs.Shrink.{named_in}
use Rattle.adb_model.specs.Snap as machine
use Rattle.adb_model.specs.Recycling.{is_spare, spares, without_storage}
use Rattle.adb_model.specs.Stats.{counts_of}
use Rattle.adb_model.specs.Call.{Counts}
use Rattle.adb_model.specs.Sound.{IsSound}
use Rattle.book_parts.specs.Parts.{Parts, Shared}
use Rattle.book_parts.specs.Cells.{CellsFit, IsCellOf}
use Rattle.book_parts.specs.Storages.{IsLiveOf, IsBegunOf}
use Rattle.book_parts.specs.Reflects.{Reflects, counts_in}
use Rattle.book_parts.specs.Changes.{with_cell}
use Rattle.book_parts.proofs.Found.{some_is, found, of_id, one_of_id}
use Rattle.book_parts.proofs.CellChanges as changes
use Rattle.book_parts.proofs.CellChanges.{placed_kept, one_if}
use Rattle.book_parts.proofs.CellOfStorage.{one_id}
use Rattle.book_parts.proofs.CellSums.{in_range}
use Rattle.book_parts.proofs.SlotChanges.{live_kept, begun_kept, same_counts}

-- a storage that may leave, and what is so of a state where it has
pub record IsSpareIn (m : State) (t : Storage) : Type 0 where
  pub there : storage_with m t.id ≡ Some t
  pub spare : IsTrue (is_spare m t)

pub record Leaves : Type 0 where
  pub pinned : (m : State) (id : ℕ) → is_pinned m id ≡ nat_lt 0 (pin_count m id)
  pub sound : (m : State) (t : Storage) → IsSound m → IsSpareIn m t → IsSound (without_storage m t)
  pub with_id : (m : State) (t : Storage) (id : ℕ) → storage_with (without_storage m t) id ≡ cond (eqb t.id id) None (storage_with m id)
  pub live : (m : State) (t : Storage) → IsSound m → IsSpareIn m t → (s : ℕ) → live_storage (without_storage m t) s ≡ live_storage m s
  pub filling : (m : State) (t : Storage) → IsSound m → IsSpareIn m t → (s : ℕ) → filling_storage (without_storage m t) s ≡ filling_storage m s
  pub flush : (m : State) (t : Storage) → IsSound m → IsSpareIn m t → (s : ℕ) → open_flush (without_storage m t) s ≡ open_flush m s
  pub held : (m : State) (t : Storage) → IsSound m → IsSpareIn m t → (s : ℕ) (k : List ℕ) → is_held (without_storage m t) s k ≡ is_held m s k
  pub bytes : (m : State) (t : Storage) → IsSound m → IsSpareIn m t → used m ≡ used (without_storage m t) + t.bytes
  pub storages : (m : State) (t : Storage) → IsSound m → IsSpareIn m t → length m.storages ≡ length (without_storage m t).storages + 1
  pub filling_count : (m : State) (t : Storage) → IsSound m → IsSpareIn m t → (counts_of (without_storage m t)).filling ≡ (counts_of m).filling
  pub live_count : (m : State) (t : Storage) → IsSound m → IsSpareIn m t → (counts_of (without_storage m t)).live ≡ (counts_of m).live
  pub retired_count : (m : State) (t : Storage) → IsSound m → IsSpareIn m t → (counts_of m).retired ≡ (counts_of (without_storage m t)).retired + 1
  pub row_count : (m : State) (t : Storage) → IsSound m → IsSpareIn m t → (counts_of (without_storage m t)).rows ≡ (counts_of m).rows
  pub fewer : (m : State) (t : Storage) → IsSound m → IsSpareIn m t → length (spares m) ≡ length (spares (without_storage m t)) + 1
  pub rest : (m : State) (t : Storage) → IsSound m → IsSpareIn m t → machine.recycled (without_storage m t) ≡ machine.recycled m
  pub none : (m : State) → IsSound m → ((id : ℕ) (t : Storage) → storage_with m id ≡ Some t → IsFalse (is_spare m t)) → machine.recycled m ≡ m
  pub all : (m : State) → length m.storages ≡ length (machine.recycled m).storages + length (spares m)

-- ---- lists of cells

abbrev weight : Phase Shared → ℕ
weight c = one_if (is_idle c)

some_idle : (cs : List (Phase Shared)) → 0 < count_by is_idle cs → (k : ℕ) × (k < length cs) × (is_idle (cell_at cs k) ≡ true)
some_idle [] some = let h : 0 < 0 = some in absurd (omega (arith, h))
some_idle (c ∷ cs) some = by (is_idle c) refl (some_idle cs)
  where
    by : (b : Bool) → is_idle c ≡ b → (0 < count_by is_idle cs → (k : ℕ) × (k < length cs) × (is_idle (cell_at cs k) ≡ true)) → (k : ℕ) × (k < length (c ∷ cs)) × (is_idle (cell_at (c ∷ cs) k) ≡ true)
    by true t rest = (0, omega arith, t)
    by false f rest = let later = rest (omega (arith, sum_by-cons weight c cs, ap one_if f, some)) in (suc later.0, omega (arith, later.1), later.2)

none_idle : (cs : List (Phase Shared)) → count_by is_idle cs ≡ 0 → map recycled cs ≡ cs
none_idle [] none = refl
none_idle (c ∷ cs) none = by (is_idle c) refl (none_idle cs)
  where
    by : (b : Bool) → is_idle c ≡ b → (count_by is_idle cs ≡ 0 → map recycled cs ≡ cs) → recycled c ∷ map recycled cs ≡ c ∷ cs
    by true t rest = let h : one_if (is_idle c) ≡ 1 = ap one_if t in absurd (omega (arith, sum_by-cons weight c cs, h, none))
    by false f rest = ap₂ (λ (x : Phase Shared) (xs : List (Phase Shared)). x ∷ xs) (ap (λ b. cond b Free c) f) (rest (omega (arith, sum_by-cons weight c cs, none)))

idle_counted : (cs : List (Phase Shared)) (k : ℕ) → k < length cs → is_idle (cell_at cs k) ≡ true → 0 < count_by is_idle cs
idle_counted [] k lt t = let h : k < 0 = lt in absurd (omega (arith, h))
idle_counted (c ∷ cs) zero lt t = omega (arith, sum_by-cons weight c cs, ap one_if t)
idle_counted (c ∷ cs) (suc k) lt t = let rest = idle_counted cs k (omega (arith, lt)) t in omega (arith, sum_by-cons weight c cs, rest)

-- the change of a cell to what becomes of it changes nothing of what becomes of all
map_changed : (f : Phase Shared → Phase Shared) (cs : List (Phase Shared)) (k : ℕ) (now : Phase Shared) → f now ≡ f (cell_at cs k) → k < length cs → map f (set cs k now) ≡ map f cs
map_changed f [] k now same lt = refl
map_changed f (c ∷ cs) zero now same lt = ap (λ (x : Phase Shared). x ∷ map f cs) same
map_changed f (c ∷ cs) (suc k) now same lt = ap (λ (xs : List (Phase Shared)). f c ∷ xs) (map_changed f cs k now same (omega (arith, lt)))

-- ---- an idle cell's storage

not_lt : (n : ℕ) → n ≡ 0 → nat_lt 0 n ≡ false
not_lt n e = ap (nat_lt 0) e

idle_form : (t : Storage) (count : ℕ) (phase : Phase Shared) → is_idle phase ≡ true → IsCellOf t count phase → IsTrue (is_retired t) × (count ≡ 0)
idle_form t count Free idle is = absurd (true≢false (sym idle))
idle_form t count (Filling id bytes) idle is = absurd (true≢false (sym idle))
idle_form t count (Live id bytes pins image) idle is = absurd (true≢false (sym idle))
idle_form t count (Retired id bytes pins image) idle is = (is.0, sym is.2 ∙ eqb-true pins 0 idle)

pub idle_id : (phase : Phase Shared) → is_idle phase ≡ true → (id : ℕ) × (has_id id phase ≡ true)
idle_id Free idle = absurd (true≢false (sym idle))
idle_id (Filling id bytes) idle = absurd (true≢false (sym idle))
idle_id (Live id bytes pins image) idle = absurd (true≢false (sym idle))
idle_id (Retired id bytes pins image) idle = (id, eq-eqb id id refl)

same_bytes : (t : Storage) (count : ℕ) (phase : Phase Shared) → is_idle phase ≡ true → IsCellOf t count phase → phases.bytes_of phase ≡ t.bytes
same_bytes t count Free idle is = absurd (true≢false (sym idle))
same_bytes t count (Filling id bytes) idle is = absurd (true≢false (sym idle))
same_bytes t count (Live id bytes pins image) idle is = absurd (true≢false (sym idle))
same_bytes t count (Retired id bytes pins image) idle is = is.1

-- the counts of an idle cell
idle_counts : (phase : Phase Shared) → is_idle phase ≡ true → (phases.is_free phase ≡ false) × (phases.is_filling phase ≡ false) × (phases.is_live phase ≡ false) × (phases.is_retired phase ≡ true) × (phases.pins_of phase ≡ 0)
idle_counts Free idle = absurd (true≢false (sym idle))
idle_counts (Filling id bytes) idle = absurd (true≢false (sym idle))
idle_counts (Live id bytes pins image) idle = absurd (true≢false (sym idle))
idle_counts (Retired id bytes pins image) idle = (refl, refl, refl, refl, eqb-true pins 0 idle)

-- the cell of a retired storage without pins is idle
spare_idle : (t : Storage) (phase : Phase Shared) → IsTrue (is_retired t) → IsCellOf t 0 phase → is_idle phase ≡ true
spare_idle t Free retired is = absurd is
spare_idle t (Filling id bytes) retired is = absurd (true≢false (sym (sym (ap (λ b. not (presence.is_live t || b)) is.0 ∙ or_true (presence.is_live t)) ∙ retired)))
  where
    or_true : (b : Bool) → not (b || true) ≡ false
    or_true true = refl
    or_true false = refl
spare_idle t (Live id bytes pins image) retired is = absurd (true≢false (sym (sym (ap (λ b. not (b || is_filling t)) is.0) ∙ retired)))
spare_idle t (Retired id bytes pins image) retired is = eq-eqb pins 0 is.2

spare_parts : (m : State) (t : Storage) → IsTrue (is_spare m t) → IsTrue (is_retired t) × (is_pinned m t.id ≡ false)
spare_parts m t e = let both = and_parts (is_retired t) (not (is_pinned m t.id)) e in (both.0, unpinned (is_pinned m t.id) both.1)
  where
    unpinned : (b : Bool) → not b ≡ true → b ≡ false
    unpinned true e = absurd (true≢false (sym e))
    unpinned false e = refl

none_counted : (n : ℕ) → nat_lt 0 n ≡ false → n ≡ 0
none_counted zero e = refl
none_counted (suc n) e = absurd (true≢false (sym (lt-ltb 0 (suc n) (omega arith)) ∙ e))

-- ---- one storage leaves

module _ (law : Leaves) (p : Parts) (m : State) (k : ℕ) (h : IsSound m) (r : Reflects p m) (within : k < length p.cells.cells) (idle : is_idle (cell_at p.cells.cells k) ≡ true) where
  abbrev pub before : List (Phase Shared)
  before = p.cells.cells

  abbrev pub was : Phase Shared
  was = cell_at before k

  abbrev pub id : ℕ
  id = (idle_id was idle).0

  pub of_cell : (t : Storage) × (storage_with m id ≡ Some t) × IsCellOf t (pin_count m id) was
  of_cell = r.cells.each k id (idle_id was idle).1

  abbrev pub left : Storage
  left = of_cell.0

  left_id : left.id ≡ id
  left_id = (of_id m id left of_cell.1).1

  has : has_id left.id was ≡ true
  has = ap (λ i. has_id i was) left_id ∙ (idle_id was idle).1

  left_form : IsTrue (is_retired left) × (pin_count m id ≡ 0)
  left_form = idle_form left (pin_count m id) was idle of_cell.2

  pub left_spare : IsSpareIn m left
  left_spare = record {
    there = ap (storage_with m) left_id ∙ of_cell.1;
    spare = and_from (is_retired left) (not (is_pinned m left.id)) left_form.0
        (not_from_false (is_pinned m left.id) (law.pinned m left.id ∙ not_lt (pin_count m left.id) (ap (pin_count m) left_id ∙ left_form.1)));
  }

  abbrev pub n : State
  n = without_storage m left

  abbrev after : List (Phase Shared)
  after = set before k Free

  fit : CellsFit n after
  fit = changes.cells_change before k was Free within refl m n r.cells
      (λ q x f. absurd (true≢false (sym x)))
      (λ q x f. law.with_id m left q ∙ ap (λ i. cond (eqb left.id i) None (storage_with m q)) (sym (one_id left.id q was has x)) ∙ ap (λ b. cond b None (storage_with m q)) (eq-eqb left.id left.id refl))
      (λ q x. absurd (true≢false (sym x)))
      (λ q f g. law.with_id m left q ∙ ap (λ b. cond b None (storage_with m q)) (false_from_ne_true (eqb left.id q) (λ t. true≢false (sym (ap (λ i. has_id i was) (sym (eqb-true left.id q t)) ∙ has) ∙ f))))
      (λ q f g. refl)
      (omega (arith, law.storages m left h left_spare, ap one_if (idle_counts was idle).0))

  left_in : Contains m.storages left
  left_in = (of_id m left.id left left_spare.there).0

  -- what is retired is neither in use nor being filled
  not_live : (live filling : Bool) → not (live || filling) ≡ true → live ≡ true → ⊥
  not_live true filling e t = true≢false (sym e)
  not_live false filling e t = true≢false (sym t)

  not_filling : (live filling : Bool) → not (live || filling) ≡ true → filling ≡ true → ⊥
  not_filling true filling e t = true≢false (sym e)
  not_filling false true e t = true≢false (sym e)
  not_filling false false e t = true≢false (sym t)

  live_apart : (s : ℕ) (u : Storage) → live_storage m s ≡ Some u → u.id ≡ left.id → ⊥
  live_apart s u e same =
      let f = found (λ (v : Storage). presence.is_live v && eqb v.slot s) m.storages u e in
      let one = one_of_id m h u left f.0 left_in same in
      not_live (presence.is_live left) (is_filling left) left_form.0 (ap presence.is_live (sym one) ∙ (and_parts (presence.is_live u) (eqb u.slot s) f.1).0)

  filling_apart : (s : ℕ) (u : Storage) → filling_storage m s ≡ Some u → u.id ≡ left.id → ⊥
  filling_apart s u e same =
      let f = found (λ (v : Storage). is_filling v && eqb v.slot s) m.storages u e in
      let one = one_of_id m h u left f.0 left_in same in
      not_filling (presence.is_live left) (is_filling left) left_form.0 (ap is_filling (sym one) ∙ (and_parts (is_filling u) (eqb u.slot s) f.1).0)

  keeps : (u : Storage) (c : ℕ) → (u.id ≡ left.id → ⊥) → has_id u.id (cell_at before c) ≡ true → has_id u.id (cell_at after c) ≡ true
  keeps u c ne x = changes.id_kept before k was Free within refl u.id c (λ t. absurd (ne (one_id u.id left.id was t has))) x

  abbrev pub new : Parts
  new = with_cell p k Free

  counted : counts_in new ≡ counts_of n
  counted =
      let count = changes.count_changed before k was Free within refl in
      let sum = changes.sum_changed before k was Free within refl in
      let part = λ (f : Counts → ℕ). ap f r.counts in
      let of = idle_counts was idle in
      same_counts (counts_in new) (counts_of n)
      (part (λ c. c.cached))
      (omega (arith, count phases.is_filling, ap one_if of.1, part (λ c. c.filling), law.filling_count m left h left_spare))
      (omega (arith, count phases.is_live, ap one_if of.2, part (λ c. c.live), law.live_count m left h left_spare))
      (omega (arith, count phases.is_retired, ap one_if of.3, part (λ c. c.retired), law.retired_count m left h left_spare))
      (part (λ c. c.named))
      (part (λ c. c.rows) ∙ sym (law.row_count m left h left_spare))
      (omega (arith, sum phases.bytes_of, same_bytes left (pin_count m id) was idle of_cell.2, part (λ c. c.bytes), law.bytes m left h left_spare))
      (omega (arith, sum phases.pins_of, of.4, part (λ c. c.pins)))

  pub reflects_left : Reflects new n
  reflects_left = record {
    marks = r.marks;
    placed = λ key s tomb at offset x.
        let kept = r.placed key s tomb at offset x in
        let apart : at ≡ k → ⊥ = λ same. live_apart s kept.storage kept.live (one_id kept.storage.id left.id was (ap (λ c. has_id kept.storage.id (cell_at before c)) (sym same) ∙ kept.there) has) in
        placed_kept m n before after s key at offset (law.live m left h left_spare s) refl (changes.cell_other before k was Free within refl at apart) kept;
    held = λ key s. r.held key s ∙ sym (law.held m left h left_spare s key);
    expected = λ key s. r.expected key s ∙ sym (ap (λ f. option_map_or (λ (t : Storage). has_row key t.rows) f false) (law.flush m left h left_spare s));
    rows = r.rows;
    roots = r.roots;
    cleaned = r.cleaned;
    leases = r.leases;
    cells = fit;
    slots = record {
      lives = λ s. subst (IsLiveOf after (named_in m s) (live_at p.map s)) (sym (law.live m left h left_spare s))
          (live_kept before after (named_in m s) (live_at p.map s) (live_storage m s) (λ u c x. keeps u c (live_apart s u x)) (r.slots.lives s));
      begins = λ s. subst (IsBegunOf after (begun_at p.map s)) (sym (law.filling m left h left_spare s))
          (begun_kept before after (begun_at p.map s) (filling_storage m s) (λ u c x. keeps u c (filling_apart s u x)) (r.slots.begins s));
    };
    counts = counted;
    limit = r.limit;
    next_id = r.next_id;
    snap = r.snap;
  }

-- ---- all leave

abbrev recycled_parts : Parts → Parts
recycled_parts p = record p { cells = record p.cells { cells = map recycled p.cells.cells } }

none_left : Leaves → (p : Parts) (m : State) → IsSound m → Reflects p m → count_by is_idle p.cells.cells ≡ 0 → (id : ℕ) (t : Storage) → storage_with m id ≡ Some t → IsFalse (is_spare m t)
none_left law p m h r none id t e = false_from_ne_true (is_spare m t) (λ spare.
    let parts = spare_parts m t spare in
    let cell = r.cells.every id t e in
    let o = r.cells.each cell.0 id cell.1 in
    let same : o.0 ≡ t = some_is (sym o.1 ∙ e) in
    let unpinned : pin_count m id ≡ 0 = none_counted (pin_count m id) (sym (law.pinned m id) ∙ ap (is_pinned m) (sym (of_id m id t e).1) ∙ parts.1) in
    let fits : IsCellOf t 0 (cell_at p.cells.cells cell.0) = subst (λ u. IsCellOf u 0 (cell_at p.cells.cells cell.0)) same (subst (λ (c : ℕ). IsCellOf o.0 c (cell_at p.cells.cells cell.0)) unpinned o.2) in
    let some = idle_counted p.cells.cells cell.0 (in_range p.cells.cells id cell.0 cell.1) (spare_idle t (cell_at p.cells.cells cell.0) parts.0 fits) in
    absurd (omega (arith, some, none)))

pub all_recycled : Leaves → (idle : ℕ) (p : Parts) (m : State) → IsSound m → Reflects p m → count_by is_idle p.cells.cells ≡ idle
    → Reflects (recycled_parts p) (machine.recycled m) × (idle ≡ length (spares m))
all_recycled law zero p m h r e =
    let same = law.none m h (none_left law p m h r e) in
    let whole = law.all m in
    let all : length (machine.recycled m).storages ≡ length m.storages = ap (λ (s : State). length s.storages) same in (
      subst (λ (s : State). Reflects (recycled_parts p) s) (sym same)
          (subst (λ (cs : List (Phase Shared)). Reflects (record p { cells = record p.cells { cells = cs } }) m) (sym (none_idle p.cells.cells e)) r),
      omega (arith, all, whole),
    )
all_recycled law (suc idle) p m h r e =
    let some = some_idle p.cells.cells (omega (arith, e)) in
    let k = some.0 in
    let spare = left_spare law p m k h r some.1 some.2 in
    let t = left law p m k h r some.1 some.2 in
    let fewer = changes.count_changed p.cells.cells k (cell_at p.cells.cells k) Free some.1 refl is_idle in
    let rest = all_recycled law idle (with_cell p k Free) (without_storage m t) (law.sound m t h spare) (reflects_left law p m k h r some.1 some.2) (omega (arith, fewer, ap one_if some.2, e)) in
    let same_cells : map recycled (set p.cells.cells k Free) ≡ map recycled p.cells.cells = map_changed recycled p.cells.cells k Free (sym (ap (λ b. cond b Free (cell_at p.cells.cells k)) some.2)) some.1 in (
      subst (λ (s : State). Reflects (recycled_parts p) s) (law.rest m t h spare)
          (subst (λ (cs : List (Phase Shared)). Reflects (record p { cells = record p.cells { cells = cs } }) (machine.recycled (without_storage m t))) same_cells rest.0),
      omega (arith, rest.1, law.fewer m t h spare),
    )
