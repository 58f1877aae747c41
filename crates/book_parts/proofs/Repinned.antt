-- The parts reflect a state of which only pins have changed.
use Rattle.std.proofs.Common.{◌≡◌, ◌≢◌, ℕ, ◌+◌, ◌<◌, eqb, List, length, set, true, Option, Some, None, option_map, option_and_then, refl, sym, ap, ◌∙◌, subst, arith, length-set}
use Rattle.std.proofs.lemmas.Bool.{false≢true, eq-eqb, ne_eqb}
use Rattle.vec_scan.specs.Seal.{row_there}
use Rattle.cell_table.specs.declared.phase.Phase.{Phase}
use Rattle.cell_table.specs.declared.phase.Phase.TheVariants as cells
use Rattle.cell_table.specs.Phases.{has_id, value_of, bytes_of, pins_of, is_free, is_filling, is_live, is_retired, pinned, unpinned}
use Rattle.cell_table.specs.Cells.{cell_at}
use Rattle.storage_map.specs.declared.entry.Live.{Live}
use Rattle.storage_map.specs.declared.entry.Begun.{Begun}
use Rattle.storage_map.specs.Slots.{live_at, begun_at}
use Rattle.adb_model.specs.State.{Storage, Pin, Snap, State}
use Rattle.adb_model.specs.Storages.{live_storage, filling_storage, pin_count}
use Rattle.adb_model.specs.Shrink.{named_in}
use Rattle.adb_model.specs.Call.{Counts}
use Rattle.adb_model.specs.Stats.{counts_of}
use Rattle.book_parts.specs.Parts.{Shared, Parts}
use Rattle.book_parts.specs.Cells.{IsCellOf, CellsFit}
use Rattle.book_parts.specs.Storages.{IsLiveOf, IsBegunOf}
use Rattle.book_parts.specs.Reflects.{Reflects, counts_in}
use Rattle.book_parts.specs.Changes.{with_cell}
use Rattle.book_parts.proofs.CellSums.{one_if, at_or_apart, in_range, cell_here, cell_other, same_look, sum_changed, same_sum, same_count}
use Rattle.book_parts.proofs.CellOfStorage.{one_id, pin_fits, unpin_fits}

-- with other pins of passes, and another snapshot
abbrev pub repinned : State → List Pin → Option Snap → State
repinned m ps snap = record m { pins = ps; snap = snap }

-- a storage's pins change in number, and those of no other; its cell has the new number
pub record IsRepinned (m : State) (ps : List Pin) (snap : Option Snap) (id : ℕ) (was now : Phase Shared) : Type 0 where
  pub ids : (n : ℕ) → has_id n now ≡ has_id n was
  pub value : value_of now ≡ value_of was
  pub bytes : bytes_of now ≡ bytes_of was
  pub free : is_free now ≡ is_free was
  pub filling : is_filling now ≡ is_filling was
  pub live : is_live now ≡ is_live was
  pub retired : is_retired now ≡ is_retired was
  pub fits : (t : Storage) → IsCellOf t (pin_count m id) was → IsCellOf t (pin_count (repinned m ps snap) id) now
  pub others : (q : ℕ) → id ≢ q → pin_count (repinned m ps snap) q ≡ pin_count m q
  pub total : (counts_of (repinned m ps snap)).pins + pins_of was ≡ (counts_of m).pins + pins_of now

-- ---- by one more, and by one fewer

module _ (m : State) (ps : List Pin) (snap : Option Snap) (id : ℕ) where
  pub repinned_more : (was : Phase Shared) → is_live was ≡ true
      → ((q : ℕ) → pin_count (repinned m ps snap) q ≡ pin_count m q + one_if (eqb id q)) → (counts_of (repinned m ps snap)).pins ≡ (counts_of m).pins + 1
      → IsRepinned m ps snap id was (pinned was)
  repinned_more cells.Free live each all = absurd (false≢true live)
  repinned_more (cells.Filling i b) live each all = absurd (false≢true live)
  repinned_more (cells.Live i b pins image) live each all = record {
    ids = λ n. refl;
    value = refl;
    bytes = refl;
    free = refl;
    filling = refl;
    live = refl;
    retired = refl;
    fits = λ t is. pin_fits t (pin_count m id) (pin_count (repinned m ps snap) id) (cells.Live i b pins image) (omega (arith, each id, ap one_if (eq-eqb id id refl))) refl is;
    others = λ q apart. omega (arith, each q, ap one_if (ne_eqb id q apart));
    total = omega (arith, all);
  }
  repinned_more (cells.Retired i b pins image) live each all = absurd (false≢true live)

  pub repinned_fewer : (was : Phase Shared) → 0 < pins_of was
      → ((q : ℕ) → pin_count m q ≡ pin_count (repinned m ps snap) q + one_if (eqb id q)) → (counts_of m).pins ≡ (counts_of (repinned m ps snap)).pins + 1
      → IsRepinned m ps snap id was (unpinned was)
  repinned_fewer cells.Free some each all = absurd (omega (arith, some))
  repinned_fewer (cells.Filling i b) some each all = absurd (omega (arith, some))
  repinned_fewer (cells.Live i b pins image) some each all = record {
    ids = λ n. refl;
    value = refl;
    bytes = refl;
    free = refl;
    filling = refl;
    live = refl;
    retired = refl;
    fits = λ t is. unpin_fits t (pin_count m id) (pin_count (repinned m ps snap) id) (cells.Live i b pins image) (omega (arith, each id, ap one_if (eq-eqb id id refl))) is;
    others = λ q apart. omega (arith, each q, ap one_if (ne_eqb id q apart));
    total = omega (arith, all, some);
  }
  repinned_fewer (cells.Retired i b pins image) some each all = record {
    ids = λ n. refl;
    value = refl;
    bytes = refl;
    free = refl;
    filling = refl;
    live = refl;
    retired = refl;
    fits = λ t is. unpin_fits t (pin_count m id) (pin_count (repinned m ps snap) id) (cells.Retired i b pins image) (omega (arith, each id, ap one_if (eq-eqb id id refl))) is;
    others = λ q apart. omega (arith, each q, ap one_if (ne_eqb id q apart));
    total = omega (arith, all, some);
  }

-- ---- slots lead to the same storages

module _ (old new : List (Phase Shared)) (same : (n c : ℕ) → has_id n (cell_at new c) ≡ has_id n (cell_at old c)) where
  same_live : (named : ℕ) (live : Option Live) (t : Option Storage) → IsLiveOf old named live t → IsLiveOf new named live t
  same_live named None None is = is
  same_live named None (Some t) is = is
  same_live named (Some live) None is = is
  same_live named (Some live) (Some t) is = (same t.id live.cell ∙ is.0, is.1, is.2)

  same_begun : (begun : Option Begun) (t : Option Storage) → IsBegunOf old begun t → IsBegunOf new begun t
  same_begun None None is = is
  same_begun None (Some t) is = is
  same_begun (Some begun) None is = is
  same_begun (Some begun) (Some t) is = (same t.id begun.cell ∙ is.0, is.1)

counts_path : (a b : Counts) → a.cached ≡ b.cached → a.filling ≡ b.filling → a.live ≡ b.live → a.retired ≡ b.retired → a.named ≡ b.named → a.rows ≡ b.rows → a.bytes ≡ b.bytes → a.pins ≡ b.pins → a ≡ b
counts_path a b cached filling live retired named rows bytes pins j = record { cached = cached j; filling = filling j; live = live j; retired = retired j; named = named j; rows = rows j; bytes = bytes j; pins = pins j }

-- ---- all else is as before

module _ (p : Parts) (m : State) (ps : List Pin) (snap : Option Snap) (open_slot : p.snap ≡ option_map (λ n. n.slot) snap) (id i : ℕ) (now : Phase Shared) (there : has_id id (cell_at p.cells.cells i) ≡ true) (r : Reflects p m) (new : IsRepinned m ps snap id (cell_at p.cells.cells i) now) where
  abbrev before : List (Phase Shared)
  before = p.cells.cells

  abbrev after : List (Phase Shared)
  after = set before i now

  lt : i < length before
  lt = in_range before id i there

  same_id : (n c : ℕ) → has_id n (cell_at after c) ≡ has_id n (cell_at before c)
  same_id n c = same_look before i now lt (has_id n) (new.ids n) c

  same_value : (c : ℕ) → value_of (cell_at after c) ≡ value_of (cell_at before c)
  same_value c = same_look before i now lt value_of new.value c

  each_fits : (c n : ℕ) (t : Storage) → has_id n (cell_at before c) ≡ true → IsCellOf t (pin_count m n) (cell_at before c) → IsCellOf t (pin_count (repinned m ps snap) n) (cell_at after c)
  each_fits c n t e is = at_or_apart c i
      (λ here.
      let same : id ≡ n = one_id id n (cell_at before i) there (ap (λ k. has_id n (cell_at before k)) (sym here) ∙ e) in
      let old : IsCellOf t (pin_count m id) (cell_at before i) = subst (λ k. IsCellOf t (pin_count m k) (cell_at before i)) (sym same) (subst (λ k. IsCellOf t (pin_count m n) (cell_at before k)) here is) in
      let at_here : IsCellOf t (pin_count (repinned m ps snap) id) (cell_at after i) = subst (IsCellOf t (pin_count (repinned m ps snap) id)) (sym (cell_here before i now lt)) (new.fits t old) in
      subst (λ k. IsCellOf t (pin_count (repinned m ps snap) k) (cell_at after c)) same (subst (λ k. IsCellOf t (pin_count (repinned m ps snap) id) (cell_at after k)) (sym here) at_here))
      (λ apart.
      let differs : id ≢ n = λ same. apart (r.cells.apart c i id (ap (λ k. has_id k (cell_at before c)) same ∙ e) there) in
      subst (λ k. IsCellOf t k (cell_at after c)) (sym (new.others n differs)) (subst (IsCellOf t (pin_count m n)) (sym (cell_other before i now lt c apart)) is))

  cells_fit : CellsFit (repinned m ps snap) after
  cells_fit = record {
    all = length-set before i now ∙ r.cells.all;
    free = ap (λ (n : ℕ). n + length m.storages) (same_count before i now lt is_free new.free) ∙ r.cells.free;
    apart = λ a b n e f. r.cells.apart a b n (sym (same_id n a) ∙ e) (sym (same_id n b) ∙ f);
    each = λ c n e. let was : has_id n (cell_at before c) ≡ true = sym (same_id n c) ∙ e in let old = r.cells.each c n was in (old.0, old.1, each_fits c n old.0 was old.2);
    every = λ n t e. let old = r.cells.every n t e in (old.0, same_id n old.0 ∙ old.1);
  }

  same_counts : counts_in (with_cell p i now) ≡ counts_of (repinned m ps snap)
  same_counts = counts_path (counts_in (with_cell p i now)) (counts_of (repinned m ps snap))
      (ap (λ (n : Counts). n.cached) r.counts)
      (same_count before i now lt is_filling new.filling ∙ ap (λ (n : Counts). n.filling) r.counts)
      (same_count before i now lt is_live new.live ∙ ap (λ (n : Counts). n.live) r.counts)
      (same_count before i now lt is_retired new.retired ∙ ap (λ (n : Counts). n.retired) r.counts)
      (ap (λ (n : Counts). n.named) r.counts)
      (ap (λ (n : Counts). n.rows) r.counts)
      (same_sum before i now lt bytes_of new.bytes ∙ ap (λ (n : Counts). n.bytes) r.counts)
      (omega (arith, sum_changed before i now lt pins_of, new.total, ap (λ (n : Counts). n.pins) r.counts))

  pub reflects_repinned : Reflects (with_cell p i now) (repinned m ps snap)
  reflects_repinned = record {
    marks = r.marks;
    placed = λ k s tomb c offset e. let old = r.placed k s tomb c offset e in record {
      storage = old.storage;
      account = old.account;
      live = old.live;
      there = same_id old.storage.id c ∙ old.there;
      row = ap (option_and_then (λ (image : Shared). row_there image.value.rows offset)) (same_value c) ∙ old.row;
      last = old.last;
    };
    held = r.held;
    expected = r.expected;
    rows = r.rows;
    roots = r.roots;
    cleaned = r.cleaned;
    leases = r.leases;
    cells = cells_fit;
    slots = record {
      lives = λ s. same_live before after same_id (named_in m s) (live_at p.map s) (live_storage m s) (r.slots.lives s);
      begins = λ s. same_begun before after same_id (begun_at p.map s) (filling_storage m s) (r.slots.begins s);
    };
    counts = same_counts;
    limit = r.limit;
    next_id = r.next_id;
    snap = open_slot;
  }
