-- What parts that reflect a state have.
use Rattle.std.proofs.Common.{◌≡◌, ◌≢◌, ◌<◌, ℕ, List, [], ◌∷◌, length, eqb, Bool, true, false, cond, not, ◌||◌, IsTrue, IsFalse, AllPairs, Option, Some, None, is_some, find, refl, sym, ap, ap₂, ◌∙◌, subst, arith}
use Rattle.std.specs.Option.{option_map}
use Rattle.std.specs.List.{list_any}
use Rattle.std.specs.Str.{bytes_eq}
use Rattle.std.proofs.lemmas.Bool.{and_parts, and_from, or_left, or_right, not-true, false_from_ne_true}
use Rattle.std.proofs.lemmas.Slice.Eq.{bytes_eq-Decides}
use Rattle.accounts_index.specs.Index.{Index}
use Rattle.write_cache.specs.Rows.{rows}
use Rattle.cell_table.specs.Phases.{has_id}
use Rattle.cell_table.specs.Cells.{IsUnused, cell_at}
use Rattle.storage_map.specs.Slots.{Slots}
use Rattle.adb_model.specs.Lists.{among}
use Rattle.adb_model.specs.State.{Row, Stored, State}
use Rattle.adb_model.specs.Load.{is_of, last_store}
use Rattle.adb_model.specs.Presence.{has_store}
use Rattle.adb_model.specs.Storages.{storage_with, live_storage, filling_storage}
use Rattle.adb_model.specs.Shrink.{named_in}
use Rattle.adb_model.specs.Flush.{flush_rows, has_cached_key}
use Rattle.book_parts.specs.Parts.{Parts}
use Rattle.book_parts.specs.Reflects.{Reflects, counts_in, mark_of}
use Rattle.book_parts.specs.Storages.{IsLiveOf, IsBegunOf}
use Rattle.book_parts.specs.Changes.{SameIndex}
use Rattle.book_parts.specs.Flushes.{SameSlots}
use Rattle.book_parts.proofs.Found.{none_some}

-- no cell has an id that no storage has
pub fresh_unused : (p : Parts) (m : State) → Reflects p m → storage_with m m.next_id ≡ None → IsUnused p.next_id p.cells.cells
fresh_unused p m r fresh cell = false_from_ne_true (has_id p.next_id (cell_at p.cells.cells cell)) (λ t.
    none_some (sym (ap (storage_with m) r.next_id ∙ fresh) ∙ (r.cells.each cell p.next_id t).1))

bytes_eq-self : (a : List ℕ) → bytes_eq a a ≡ true
bytes_eq-self a = (bytes_eq-Decides a a).1 refl

-- a store of the slot is of some key
key_of : (slot : ℕ) (stores : List Stored) → IsTrue (list_any (λ t. eqb t.slot slot) stores) → (k : List ℕ) × IsTrue (list_any (is_of slot k) stores)
key_of slot [] e = absurd cc
key_of slot (t ∷ stores) e = by (eqb t.slot slot) refl (key_of slot stores) e
  where
    by : (b : Bool) → eqb t.slot slot ≡ b → (IsTrue (list_any (λ t. eqb t.slot slot) stores) → (k : List ℕ) × IsTrue (list_any (is_of slot k) stores)) → IsTrue (b || list_any (λ t. eqb t.slot slot) stores) → (k : List ℕ) × IsTrue (list_any (is_of slot k) (t ∷ stores))
    by true same later any = (t.key, or_left (is_of slot t.key t) (list_any (is_of slot t.key) stores) (and_from (eqb t.slot slot) (bytes_eq t.key t.key) same (bytes_eq-self t.key)))
    by false same later any = let rest = later any in (rest.0, or_right (is_of slot rest.0 t) (list_any (is_of slot rest.0) stores) rest.1)

some_mapped : {A B : Type 0} (f : A → B) (o : Option A) → is_some (option_map f o) ≡ is_some o
some_mapped f None = refl
some_mapped f (Some x) = refl

found_in : {A : Type 0} (test : A → Bool) (xs : List A) → is_some (find test xs) ≡ true → 0 < length xs
found_in test [] e = absurd cc
found_in test (x ∷ xs) e = omega arith

-- the cached rows of a slot that is not flushed are those that a flush writes
pub own_rows : (p : Parts) (m : State) (slot : ℕ) → Reflects p m → IsFalse (among slot m.flushed) → rows p.cache slot ≡ flush_rows m slot
own_rows p m slot r unflushed = r.rows slot ∙ ap (λ f. cond f [] (flush_rows m slot)) unflushed

pub unflushed_of : (m : State) (slot : ℕ) → IsTrue (has_cached_key m slot) → IsFalse (among slot m.flushed)
unflushed_of m slot cached = not-true (among slot m.flushed) (and_parts (list_any (λ t. eqb t.slot slot) m.stores) (not (among slot m.flushed)) cached).1

-- a slot with a cached key has a row
pub some_rows : (m : State) (slot : ℕ) → IsTrue (has_cached_key m slot) → ((k : List ℕ) → has_store m slot k ≡ is_some (last_store m slot k))
    → ((k : List ℕ) → option_map (λ r. r.account) (find (λ r. bytes_eq r.key k) (flush_rows m slot)) ≡ option_map (λ t. t.account) (last_store m slot k))
    → 0 < length (flush_rows m slot)
some_rows m slot cached there account =
    let any : IsTrue (list_any (λ t. eqb t.slot slot) m.stores) = (and_parts (list_any (λ t. eqb t.slot slot) m.stores) (not (among slot m.flushed)) cached).0 in
    let key = key_of slot m.stores any in
    let k = key.0 in
    found_in (λ (r : Row). bytes_eq r.key k) (flush_rows m slot)
    (sym (some_mapped (λ (r : Row). r.account) (find (λ (r : Row). bytes_eq r.key k) (flush_rows m slot))) ∙ ap is_some (account k)
    ∙ some_mapped (λ (t : Stored). t.account) (last_store m slot k) ∙ sym (there k) ∙ key.1)

-- a slot's rows are of different keys
pub rows_differ : (p : Parts) (m : State) (slot : ℕ) → Reflects p m → AllPairs (λ r q. r.key ≢ q.key) (flush_rows m slot) → AllPairs (λ r q. r.key ≢ q.key) (rows p.cache slot)
rows_differ p m slot r differ = subst (λ (rs : List Row). AllPairs (λ r q. r.key ≢ q.key) rs) (sym (r.rows slot)) (by (among slot m.flushed))
  where
    by : (f : Bool) → AllPairs (λ (r q : Row). r.key ≢ q.key) (cond f [] (flush_rows m slot))
    by true = λ i j d lt within. let h : j < 0 = within in absurd (omega (arith, h))
    by false = differ

-- what tells the same reflects the same
pub reflects_kept : (p : Parts) (m : State) (index : Index) (slots : Slots) → Reflects p m → SameIndex p.index index → SameSlots p.map slots → Reflects (record p { index = index; map = slots }) m
reflects_kept p m index slots r i s = record {
  marks = λ k q. ap (option_map mark_of) (i.versions k q) ∙ r.marks k q;
  placed = λ k q tomb cell offset x. r.placed k q tomb cell offset (sym (i.versions k q) ∙ x);
  held = λ k q. i.holds.held k q ∙ r.held k q;
  expected = λ k q. i.holds.expected k q ∙ r.expected k q;
  rows = r.rows;
  roots = r.roots;
  cleaned = r.cleaned;
  leases = r.leases;
  cells = r.cells;
  slots = record {
    lives = λ q. subst (λ l. IsLiveOf p.cells.cells (named_in m q) l (live_storage m q)) (sym (s.lives q)) (r.slots.lives q);
    begins = λ q. subst (λ b. IsBegunOf p.cells.cells b (filling_storage m q)) (sym (s.begins q)) (r.slots.begins q);
  };
  counts = ap₂ (λ (alive total : ℕ). record (counts_in p) { named = alive; rows = total }) s.alive s.total ∙ r.counts;
  limit = r.limit;
  next_id = r.next_id;
  snap = r.snap;
}
