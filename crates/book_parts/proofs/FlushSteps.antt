-- What the machine does where a flush is to begin, and what a book's parts tell of it.
use Rattle.std.proofs.Common.{◌≡◌, ◌≢◌, ℕ, zero, suc, ◌+◌, ◌<◌, ◌≤◌, List, [], ◌∷◌, Bool, true, false, cond, not, eqb, nat_lt, nat_le, ◌&&◌, ◌||◌, Option, Some, None, option_map, length, filter, map, count_by, refl, sym, ap, ◌∙◌, subst, inl, inr, ◌⊎◌, IsTrue, IsFalse, arith}
use Rattle.std.specs.List.{list_any}
use Rattle.std.specs.Str.{bytes_eq}
use Rattle.std.proofs.lemmas.Bool.{cases_Bool, eqb-true, true≢false, le-ltb, lt-leb, ne_eqb}
use Rattle.std.proofs.lemmas.List.Sums.{sum_by-cons}
use Rattle.cell_table.specs.declared.phase.Phase.{Phase}
use Rattle.cell_table.specs.declared.phase.Phase.TheVariants as phases
use Rattle.cell_table.specs.Phases.{has_id, is_free}
use Rattle.cell_table.specs.Cells as cells
use Rattle.cell_table.specs.Cells.{Table, cell_at}
use Rattle.storage_map.specs.declared.entry.Begun.{Begun}
use Rattle.storage_map.specs.Slots.{Slots, begun_at}
use Rattle.accounts_index.specs.Index.{Index}
use Rattle.write_cache.specs.Rows.{rows}
use Rattle.adb_model.specs.Lists.{among, distinct}
use Rattle.adb_model.specs.State.{Row, Stored, Filling, Storage, State}
use Rattle.adb_model.specs.Storages.{used, bytes_of, open_flush, filling_storage}
use Rattle.adb_model.specs.Callers.{keys_of}
use Rattle.adb_model.specs.Flush.{flush_rows, has_cached_key, filling_with, with_filling}
use Rattle.adb_model.specs.Laws.{IsOpenFlush}
use Rattle.adb_model.specs.Outcome.{unless, refused_if, first_of}
use Rattle.adb_model.specs.Call.{Refusal, NotRooted, NothingCached, Flushing, Full, NoCell, IdsSpent, FlushBegin, FlushBegun, Reply}
use Rattle.adb_model.specs.Step.{step}
use Rattle.book_parts.specs.Parts.{Parts, Shared}
use Rattle.book_parts.specs.Storages.{IsBegunOf}
use Rattle.book_parts.specs.Reflects.{Reflects}
use Rattle.book_parts.specs.Flushes.{FlushBegins}

module _ (m : State) (pass slot : ℕ) where
  abbrev pub wanted : ℕ
  wanted = bytes_of (flush_rows m slot)

  -- the refusals, by what they ask
  abbrev pub asked : Bool → Bool → Option Storage → Bool → Bool → Bool → List (Option Refusal)
  asked rooted cached other full none spent =
      refused_if (not rooted) (NotRooted slot)
      ∷ refused_if (not cached) (NothingCached slot)
      ∷ option_map (λ t. Flushing slot t.id) other
      ∷ refused_if full (Full (used m) wanted m.budget)
      ∷ refused_if none (NoCell 1048576)
      ∷ refused_if spent IdsSpent
      ∷ []

  abbrev pub begun_step : List (Option Refusal) → State × Reply
  begun_step refusals = unless (first_of refusals) m (with_filling m slot (flush_rows m slot), FlushBegun m.next_id wanted)

  abbrev pub is_full : Bool
  is_full = nat_lt m.budget (used m + wanted)

  abbrev pub is_out : Bool
  is_out = nat_le 1048576 (length m.storages)

  abbrev pub is_spent : Bool
  is_spent = eqb m.next_id 18446744073709551615

  pub begin_is : (a b : Bool) (o : Option Storage) (f n s : Bool)
      → among slot m.roots ≡ a → has_cached_key m slot ≡ b → open_flush m slot ≡ o → is_full ≡ f → is_out ≡ n → is_spent ≡ s
      → step m pass (FlushBegin slot) ≡ begun_step (asked a b o f n s)
  begin_is a b o f n s ea eb eo ef en es =
      ap (λ x. begun_step (asked x (has_cached_key m slot) (open_flush m slot) is_full is_out is_spent)) ea
      ∙ ap (λ x. begun_step (asked a x (open_flush m slot) is_full is_out is_spent)) eb
      ∙ ap (λ x. begun_step (asked a b x is_full is_out is_spent)) eo
      ∙ ap (λ x. begun_step (asked a b o x is_out is_spent)) ef
      ∙ ap (λ x. begun_step (asked a b o f x is_spent)) en
      ∙ ap (λ x. begun_step (asked a b o f n x)) es

-- ---- lists

abbrev weight_of_free : Phase Shared → ℕ
weight_of_free c = cond (is_free c) 1 0

none_filtered : {A : Type 0} (test : A → Bool) (xs : List A) → list_any test xs ≡ false → filter test xs ≡ []
none_filtered test [] e = refl
none_filtered test (x ∷ xs) e = by (cases_Bool (test x)) (none_filtered test xs)
  where
    by : (test x ≡ true) ⊎ (test x ≡ false) → (list_any test xs ≡ false → filter test xs ≡ []) → filter test (x ∷ xs) ≡ []
    by (inl t) rest = let h : true ≡ false = sym (ap (λ b. b || list_any test xs) t) ∙ e in absurd (true≢false h)
    by (inr f) rest = let h : list_any test xs ≡ false = sym (ap (λ b. b || list_any test xs) f) ∙ e in ap (λ b. cond b (x ∷ filter test xs) (filter test xs)) f ∙ rest h

-- a cell that is free is counted
pub some_free : (cs : List (Phase Shared)) (i : ℕ) → i < length cs → cell_at cs i ≡ phases.Free → 0 < count_by is_free cs
some_free [] i within e = let h : i < 0 = within in absurd (omega (arith, h))
some_free (x ∷ cs) zero within e =
    let first : weight_of_free x ≡ 1 = ap weight_of_free e in
    let h = sum_by-cons weight_of_free x cs in
    omega (arith, h, first)
some_free (x ∷ cs) (suc i) within e =
    let rest = some_free cs i (omega (arith, within)) e in
    let h = sum_by-cons weight_of_free x cs in
    omega (arith, h, rest)

-- ---- a cached key

module _ (p : Parts) (m : State) (slot : ℕ) (r : Reflects p m) where
  unflushed_by : (f : Bool) (rs : List Row) → 0 < length (cond f [] rs) → f ≡ false
  unflushed_by true rs some = let h : 0 < 0 = some in absurd (omega (arith, h))
  unflushed_by false rs some = refl

  pub some_unflushed : 0 < length (rows p.cache slot) → IsFalse (among slot m.flushed)
  some_unflushed some = unflushed_by (among slot m.flushed) (flush_rows m slot) (subst (λ (rs : List Row). 0 < length rs) (r.rows slot) some)

  pub rows_written : 0 < length (rows p.cache slot) → rows p.cache slot ≡ flush_rows m slot
  rows_written some = r.rows slot ∙ ap (λ f. cond f [] (flush_rows m slot)) (some_unflushed some)

  stored_by : (b : Bool) → list_any (λ t. eqb t.slot slot) m.stores ≡ b → length (flush_rows m slot) ≡ length (keys_of m slot) → 0 < length (flush_rows m slot) → b ≡ true
  stored_by true is all some = refl
  stored_by false is all some =
      let left : length (keys_of m slot) ≡ 0 = ap (λ (ts : List Stored). length (distinct bytes_eq (map (λ t. t.key) ts))) (none_filtered (λ t. eqb t.slot slot) m.stores is) in
      absurd (omega (arith, left, all, some))

  -- where the slot has cached rows, the machine has a cached key there
  pub some_cached : length (flush_rows m slot) ≡ length (keys_of m slot) → 0 < length (rows p.cache slot) → IsTrue (has_cached_key m slot)
  some_cached all some =
      let any = stored_by (list_any (λ t. eqb t.slot slot) m.stores) refl all (subst (λ (rs : List Row). 0 < length rs) (rows_written some) some) in
      ap (λ b. b && not (among slot m.flushed)) any ∙ ap (λ b. not b) (some_unflushed some)

  pub none_cached : (IsTrue (has_cached_key m slot) → 0 < length (rows p.cache slot)) → length (rows p.cache slot) ≡ 0 → has_cached_key m slot ≡ false
  none_cached some none = by (cases_Bool (has_cached_key m slot))
    where
      by : (has_cached_key m slot ≡ true) ⊎ (has_cached_key m slot ≡ false) → has_cached_key m slot ≡ false
      by (inl t) = let h = some t in absurd (omega (arith, h, none))
      by (inr f) = f

-- ---- a flush that is open

same_id : (a b : ℕ) (phase : Phase Shared) → has_id a phase ≡ true → has_id b phase ≡ true → a ≡ b
same_id a b phases.Free e f = absurd cc
same_id a b (phases.Filling id bytes) e f = sym (eqb-true id a e) ∙ eqb-true id b f
same_id a b (phases.Live id bytes pins image) e f = sym (eqb-true id a e) ∙ eqb-true id b f
same_id a b (phases.Retired id bytes pins image) e f = sym (eqb-true id a e) ∙ eqb-true id b f

module _ (cs : List (Phase Shared)) where
  begun_found : (o : Option Begun) (b : Begun) (f : Option Storage) → IsBegunOf cs o f → o ≡ Some b → (t : Storage) × (f ≡ Some t) × (has_id t.id (cell_at cs b.cell) ≡ true)
  begun_found None b f is e = absurd cc
  begun_found (Some x) b None is e = absurd is
  begun_found (Some x) b (Some t) is e = let same : x ≡ b = cc in (t, refl, subst (λ (y : Begun). has_id t.id (cell_at cs y.cell) ≡ true) same is.0)

  begun_none : (o : Option Begun) (f : Option Storage) → IsBegunOf cs o f → o ≡ None → f ≡ None
  begun_none None None is e = refl
  begun_none None (Some t) is e = absurd is
  begun_none (Some x) f is e = absurd cc

used_phase : (id : ℕ) (phase : Phase Shared) → has_id id phase ≡ true → is_free phase ≡ false
used_phase id phases.Free e = absurd cc
used_phase id (phases.Filling n bytes) e = refl
used_phase id (phases.Live n bytes pins image) e = refl
used_phase id (phases.Retired n bytes pins image) e = refl

module _ (p : Parts) (m : State) (slot : ℕ) (r : Reflects p m) where
  -- the storage of an entry that has begun
  pub begun_storage : (b : Begun) → begun_at p.map slot ≡ Some b → (t : Storage) × (filling_storage m slot ≡ Some t) × (has_id t.id (cell_at p.cells.cells b.cell) ≡ true)
  begun_storage b e = begun_found p.cells.cells (begun_at p.map slot) b (filling_storage m slot) (r.slots.begins slot) e

  pub begun_in_use : (b : Begun) → begun_at p.map slot ≡ Some b → is_free (cell_at p.cells.cells b.cell) ≡ false
  begun_in_use b e = let t = begun_storage b e in used_phase t.0.id (cell_at p.cells.cells b.cell) t.2

  -- is that of the open flush
  pub flush_of : (b : Begun) (id : ℕ) → ((t : Storage) → open_flush m slot ≡ Some t → IsOpenFlush m slot t) → (open_flush m slot ≡ None → filling_storage m slot ≡ None)
      → begun_at p.map slot ≡ Some b → has_id id (cell_at p.cells.cells b.cell) ≡ true → (t : Storage) × (open_flush m slot ≡ Some t) × (t.id ≡ id)
  flush_of b id stands none e is = by (open_flush m slot) refl (begun_storage b e)
    where
      by : (o : Option Storage) → open_flush m slot ≡ o → (t : Storage) × (filling_storage m slot ≡ Some t) × (has_id t.id (cell_at p.cells.cells b.cell) ≡ true)
          → (t : Storage) × (open_flush m slot ≡ Some t) × (t.id ≡ id)
      by None o found = let h : Some found.0 ≡ None = sym found.1 ∙ none o in absurd cc
      by (Some u) o found =
          let h : Some u ≡ Some found.0 = sym (stands u o).in_slot ∙ found.1 in
          let same : u ≡ found.0 = cc in
          (u, o, ap (λ t. t.id) same ∙ same_id found.0.id id (cell_at p.cells.cells b.cell) found.2 is)

  -- where no entry has begun, no flush is open
  pub none_open : ((t : Storage) → open_flush m slot ≡ Some t → IsOpenFlush m slot t) → begun_at p.map slot ≡ None → open_flush m slot ≡ None
  none_open stands e = by (open_flush m slot) refl
    where
      by : (o : Option Storage) → open_flush m slot ≡ o → open_flush m slot ≡ None
      by None o = o
      by (Some u) o = let h : Some u ≡ None = sym (stands u o).in_slot ∙ begun_none p.cells.cells (begun_at p.map slot) (filling_storage m slot) (r.slots.begins slot) e in absurd cc

  pub same_used : cells.used p.cells.cells ≡ used m
  same_used = ap (λ c. c.bytes) r.counts

-- ---- a flush begins

module _ (p : Parts) (m : State) (slot : ℕ) (r : Reflects p m) (some : 0 < length (rows p.cache slot)) where
  abbrev filled : ℕ → List Row → Storage
  filled id written = record { id = id; slot = slot; rows = written; bytes = bytes_of written; phase = Filling }

  -- the storage that is being filled has the cached rows
  pub same_filling : filling_with m slot (flush_rows m slot) ≡ record { id = p.next_id; slot = slot; rows = rows p.cache slot; bytes = bytes_of (rows p.cache slot); phase = Filling }
  same_filling = sym (ap (λ id. filled id (rows p.cache slot)) r.next_id ∙ ap (filled m.next_id) (rows_written p m slot r some))

module _ (p : Parts) (m : State) (pass slot cell : ℕ) (index : Index) (table : Table Shared) (slots : Slots) (r : Reflects p m) where
  abbrev begun_as : ℕ → ℕ → State × Reply
  begun_as id bytes = (with_filling m slot (flush_rows m slot), FlushBegun id bytes)

  -- a flush that has room begins
  pub begun_is : among slot m.roots ≡ true → has_cached_key m slot ≡ true → open_flush m slot ≡ None → 0 < length (rows p.cache slot)
      → p.next_id ≢ 18446744073709551615 → FlushBegins slot p.next_id cell (rows p.cache slot) p.index index p.cells table p.map slots
      → step m pass (FlushBegin slot) ≡ begun_as p.next_id (bytes_of (rows p.cache slot))
  begun_is rooted cached none some unspent begins =
      let same : cells.used p.cells.cells ≡ used m = same_used p m slot r in
      let limit = r.limit in
      let size : bytes_of (rows p.cache slot) ≡ wanted m pass slot = ap bytes_of (rows_written p m slot r some) in
      let fits = begins.cells.fits in
      let within : used m + wanted m pass slot ≤ m.budget = omega (arith, fits, same, limit, size) in
      let all = r.cells.free in
      let free = some_free p.cells.cells cell begins.cells.within begins.cells.was_free in
      let few : length m.storages < 1048576 = omega (arith, all, free) in
      begin_is m pass slot true true None false false false rooted cached none
      (le-ltb m.budget (used m + wanted m pass slot) within) (lt-leb 1048576 (length m.storages) few)
      (ne_eqb m.next_id 18446744073709551615 (λ e. unspent (r.next_id ∙ e)))
      ∙ sym (ap (λ id. begun_as id (bytes_of (rows p.cache slot))) r.next_id ∙ ap (begun_as m.next_id) size)
