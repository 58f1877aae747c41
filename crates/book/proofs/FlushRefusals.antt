-- What a flush's refusals say of the machine's reply.
use Rattle.std.proofs.Common.{◌≡◌, ℕ, ◌+◌, ◌<◌, ◌≤◌, true, false, List, length, Some, Err, sym, subst, count_by}
use Rattle.cell_table.specs.Phases.{has_id, is_free}
use Rattle.cell_table.specs.Cells.{cell_at, used}
use Rattle.storage_map.specs.declared.entry.Begun.{Begun}
use Rattle.storage_map.specs.Slots.{begun_at}
use Rattle.write_cache.specs.Rows.{rows}
use Rattle.adb_model.specs.Lists.{among}
use Rattle.adb_model.specs.State.{State}
use Rattle.adb_model.specs.Storages.{bytes_of}
use Rattle.adb_model.specs.Call as machine
use Rattle.adb_model.specs.Call.{Event, Refused}
use Rattle.book_parts.specs.Parts.{Parts}
use Rattle.book_parts.specs.Stands.{Stands, After}
use Rattle.flush_plan.specs.Causes.{cell_fault, IsCauseOf}
use Rattle.flush_plan.specs.declared.fault.BeginFault.{BeginFault}
use Rattle.flush_plan.specs.declared.fault.BeginFault.TheVariants as faults
use Rattle.book.specs.declared.refusals.FlushRefusal.{FlushRefusal}
use Rattle.book.specs.declared.refusals.FlushRefusal.TheVariants as flushes
use Rattle.book.specs.Flushing.{IsWhy, IsLackOf, refusal_for}
use Rattle.book.specs.Replies.{flush_reply}

module _ (p : Parts) (m0 : State) (h : List Event) (pass slot : ℕ) where
  -- the parts stand for the history with a flush that was refused so
  abbrev pub RefusedAs : machine.Refusal → Type 0
  RefusedAs refusal = After p m0 h pass (machine.FlushBegin slot) (Some (Refused refusal))

  -- and with one that was answered so
  abbrev pub Answered : FlushRefusal → Type 0
  Answered refusal = After p m0 h pass (machine.FlushBegin slot) (flush_reply (Err refusal))

  abbrev pub Unrooted : Type 0
  Unrooted = among slot p.roots ≡ false → RefusedAs (machine.NotRooted slot)

  abbrev pub Empty : Type 0
  Empty = among slot p.roots ≡ true → length (rows p.cache slot) ≡ 0 → RefusedAs (machine.NothingCached slot)

  abbrev pub Open : Type 0
  Open = (id : ℕ) (b : Begun) → among slot p.roots ≡ true → 0 < length (rows p.cache slot) → begun_at p.map slot ≡ Some b → has_id id (cell_at p.cells.cells b.cell) ≡ true
      → RefusedAs (machine.Flushing slot id)

  pub why_stands : Unrooted → Empty → Open → (r : FlushRefusal) → IsWhy p.roots p.cache p.cells p.map slot r → Answered r
  why_stands unrooted empty is_open (flushes.NotRooted s) w = subst (λ (n : ℕ). RefusedAs (machine.NotRooted n)) (sym w.0) (unrooted w.1)
  why_stands unrooted empty is_open (flushes.NothingCached s) w = subst (λ (n : ℕ). RefusedAs (machine.NothingCached n)) (sym w.0) (empty w.1 w.2)
  why_stands unrooted empty is_open (flushes.Flushing s id) w = subst (λ (n : ℕ). RefusedAs (machine.Flushing n id)) (sym w.0) (is_open id w.3 w.1 w.2 w.4 w.5)
  why_stands unrooted empty is_open (flushes.Full a b c) w = absurd w
  why_stands unrooted empty is_open (flushes.NoCell a) w = absurd w
  why_stands unrooted empty is_open flushes.IdsSpent w = absurd w
  why_stands unrooted empty is_open flushes.NoMemory w = absurd w

  abbrev pub Above : Type 0
  Above = p.cells.limit < used p.cells.cells + bytes_of (rows p.cache slot) → RefusedAs (machine.Full (used p.cells.cells) (bytes_of (rows p.cache slot)) p.cells.limit)

  abbrev pub NoneFree : Type 0
  NoneFree = used p.cells.cells + bytes_of (rows p.cache slot) ≤ p.cells.limit → count_by is_free p.cells.cells ≡ 0 → RefusedAs (machine.NoCell (length p.cells.cells))

  abbrev pub Spent : Type 0
  Spent = used p.cells.cells + bytes_of (rows p.cache slot) ≤ p.cells.limit → 0 < count_by is_free p.cells.cells → RefusedAs machine.IdsSpent

  full_stands : Above → (have want most : ℕ) → have ≡ used p.cells.cells → want ≡ bytes_of (rows p.cache slot) → most ≡ p.cells.limit → most < have + want → RefusedAs (machine.Full have want most)
  full_stands above have want most a b c over =
      let is_over : p.cells.limit < used p.cells.cells + bytes_of (rows p.cache slot) = subst (λ (n : ℕ). n < used p.cells.cells + bytes_of (rows p.cache slot)) c
      (subst (λ (n : ℕ). most < used p.cells.cells + n) b (subst (λ (n : ℕ). most < n + want) a over)) in
      subst (λ (n : ℕ). RefusedAs (machine.Full n want most)) (sym a)
      (subst (λ (n : ℕ). RefusedAs (machine.Full (used p.cells.cells) n most)) (sym b)
      (subst (λ (n : ℕ). RefusedAs (machine.Full (used p.cells.cells) (bytes_of (rows p.cache slot)) n)) (sym c) (above is_over)))

  pub lack_stands : Above → NoneFree → Spent → (r : FlushRefusal) → IsLackOf p.cells (bytes_of (rows p.cache slot)) r → Answered r
  lack_stands above none spent (flushes.Full have want most) w = full_stands above have want most w.0 w.1 w.2 w.3
  lack_stands above none spent (flushes.NoCell limit) w = subst (λ (n : ℕ). RefusedAs (machine.NoCell n)) (sym w.0) (none w.1 w.2)
  lack_stands above none spent flushes.IdsSpent w = spent w.0 w.1
  lack_stands above none spent (flushes.NotRooted s) w = absurd w
  lack_stands above none spent (flushes.NothingCached s) w = absurd w
  lack_stands above none spent (flushes.Flushing s id) w = absurd w
  lack_stands above none spent flushes.NoMemory w = absurd w

  pub fault_stands : Above → NoneFree → Stands p m0 h → (f : BeginFault) → IsCauseOf p.cells (bytes_of (rows p.cache slot)) f → Answered (refusal_for (cell_fault f))
  fault_stands above none st (faults.Full have want most) w = full_stands above have want most w.0 w.1 w.2 w.3
  fault_stands above none st (faults.NoCell limit) w = subst (λ (n : ℕ). RefusedAs (machine.NoCell n)) (sym w.0) (none w.2 w.1)
  fault_stands above none st faults.NoMemory w = st
