-- The parts reflect a state whose snapshot holds one storage more, or one fewer.
use Rattle.std.proofs.Common.{◌≡◌, ℕ, ◌+◌, eqb, Bool, List, [], ◌∷◌, ◌++◌, Option, Some, None, option_map, count_by, length, refl, sym, ap, ◌∙◌, subst, arith, length-append, append_assoc, append-nil}
use Rattle.std.specs.Option.{option_map_or}
use Rattle.std.proofs.lemmas.List.Sums.{sum_by-cons}
use Rattle.cell_table.specs.Phases.{pinned, unpinned}
use Rattle.cell_table.specs.Cells.{Table, cell_at}
use Rattle.adb_model.specs.State.{Snap, State}
use Rattle.adb_model.specs.Snap.{without_snap}
use Rattle.adb_model.specs.Snapping.{snapped}
use Rattle.adb_model.specs.Stats.{counts_of}
use Rattle.book_parts.specs.Parts.{Parts, Shared}
use Rattle.book_parts.specs.Cells.{IsCellOf}
use Rattle.book_parts.specs.Changes.{with_cell}
use Rattle.book_parts.specs.Reflects.{Reflects}
use Rattle.book_parts.specs.Snaps.{PinsEach, UnpinsEach}
use Rattle.book_parts.proofs.CellSums.{one_if}
use Rattle.book_parts.proofs.Repinned.{reflects_repinned, repinned_more, repinned_fewer}

count_push : {X : Type 0} (p : X → Bool) (xs : List X) (x : X) → count_by p (xs ++ x ∷ []) ≡ count_by p xs + one_if (p x)
count_push {X} p [] x = omega (arith, sum_by-cons (λ (y : X). one_if (p y)) x [])
count_push {X} p (y ∷ ys) x = omega (arith, count_push p ys x, sum_by-cons (λ (y : X). one_if (p y)) y (ys ++ x ∷ []), sum_by-cons (λ (y : X). one_if (p y)) y ys)

abbrev holding : ℕ → List ℕ → Option Snap
holding slot ids = Some (record { slot = slot; ids = ids })

abbrev with_cells : Parts → Table Shared → Parts
with_cells p table = record p { cells = table }

-- ---- one after another

pub pins_reflect : (ids : List ℕ) (p : Parts) (m : State) (slot : ℕ) (done : List ℕ) (table : Table Shared) → Reflects p (snapped m slot done) → PinsEach ids p.cells table
    → Reflects (record p { cells = table }) (snapped m slot (done ++ ids))
pins_reflect [] p m slot done table r same =
    subst (λ ids. Reflects (with_cells p table) (snapped m slot ids)) (sym (append-nil done)) (subst (λ t. Reflects (with_cells p t) (snapped m slot done)) (sym same) r)
pins_reflect (id ∷ ids) p m slot done table r each =
    let was = cell_at p.cells.cells each.0 in
    let n = snapped m slot done in
    let more = repinned_more n n.pins (holding slot (done ++ id ∷ [])) id was each.2
    (λ q. omega (arith, count_push (λ (i : ℕ). eqb i q) done id)) (omega (arith, length-append done (id ∷ []))) in
    let step : Reflects (with_cell p each.0 (pinned was)) (snapped m slot (done ++ id ∷ [])) =
    reflects_repinned p n n.pins (holding slot (done ++ id ∷ [])) r.snap id each.0 (pinned was) each.1 r more in
    subst (λ (all : List ℕ). Reflects (with_cells p table) (snapped m slot all)) (append_assoc done (id ∷ []) ids)
    (pins_reflect ids (with_cell p each.0 (pinned was)) m slot (done ++ id ∷ []) table step each.3)

pub unpins_reflect : (ids : List ℕ) (p : Parts) (m : State) (slot : ℕ) (table : Table Shared) → Reflects p (snapped m slot ids) → UnpinsEach ids p.cells table
    → Reflects (record p { cells = table }) (snapped m slot [])
unpins_reflect [] p m slot table r same = subst (λ t. Reflects (with_cells p t) (snapped m slot [])) (sym same) r
unpins_reflect (id ∷ ids) p m slot table r each =
    let was = cell_at p.cells.cells each.0 in
    let n = snapped m slot (id ∷ ids) in
    let fewer = repinned_fewer n n.pins (holding slot ids) id was each.2
    (λ q. omega (arith, sum_by-cons (λ (i : ℕ). one_if (eqb i q)) id ids)) (omega arith) in
    let step : Reflects (with_cell p each.0 (unpinned was)) (snapped m slot ids) =
    reflects_repinned p n n.pins (holding slot ids) r.snap id each.0 (unpinned was) each.1 r fewer in
    unpins_reflect ids (with_cell p each.0 (unpinned was)) m slot table step each.3

-- ---- a snapshot of no storages, and none

-- where another snapshot pins as much, all else is as before
resnapped : (p : Parts) (m : State) (snap : Option Snap) (slot : Option ℕ) → Reflects p m → slot ≡ option_map (λ n. n.slot) snap
    → ((id : ℕ) → option_map_or (λ n. count_by (λ i. eqb i id) n.ids) snap 0 ≡ option_map_or (λ n. count_by (λ i. eqb i id) n.ids) m.snap 0)
    → option_map_or (λ n. length n.ids) snap 0 ≡ option_map_or (λ n. length n.ids) m.snap 0
    → Reflects (record p { snap = slot }) (record m { snap = snap })
resnapped p m snap slot r open_slot each all = record {
  marks = r.marks;
  placed = r.placed;
  held = r.held;
  expected = r.expected;
  rows = r.rows;
  roots = r.roots;
  cleaned = r.cleaned;
  leases = r.leases;
  cells = record {
    all = r.cells.all;
    free = r.cells.free;
    apart = r.cells.apart;
    each = λ cell id has. let o = r.cells.each cell id has in
        (o.0, o.1, subst (λ k. IsCellOf o.0 k (cell_at p.cells.cells cell)) (ap (λ k. count_by (λ q. eqb q.id id) m.pins + count_by (λ h. eqb h.old id) m.shrinks + k) (sym (each id))) o.2);
    every = r.cells.every;
  };
  slots = r.slots;
  counts = r.counts ∙ ap (λ k. record (counts_of m) { pins = length m.pins + length m.shrinks + k }) (sym all);
  limit = r.limit;
  snap = open_slot;
  next_id = r.next_id;
}

pub opens_empty : (p : Parts) (m : State) (slot : ℕ) → Reflects p m → m.snap ≡ None → Reflects (record p { snap = Some slot }) (snapped m slot [])
opens_empty p m slot r none = resnapped p m (holding slot []) (Some slot) r refl
    (λ id. sym (ap (λ (o : Option Snap). option_map_or (λ n. count_by (λ i. eqb i id) n.ids) o 0) none))
    (sym (ap (λ (o : Option Snap). option_map_or (λ n. length n.ids) o 0) none))

pub closes_empty : (p : Parts) (m : State) (slot : ℕ) → Reflects p (snapped m slot []) → Reflects (record p { snap = None }) (without_snap m)
closes_empty p m slot r = resnapped p (snapped m slot []) None None r refl (λ id. refl) refl
