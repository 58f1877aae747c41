-- What a shrink's refusals say of the machine's reply.
use Rattle.std.proofs.Common.{◌≡◌, ℕ, ◌+◌, ◌<◌, ◌≤◌, true, List, length, Some, None, Err, sym, subst, count_by}
use Rattle.cell_table.specs.Phases.{has_id, is_free}
use Rattle.cell_table.specs.Cells.{cell_at, used}
use Rattle.storage_map.specs.declared.entry.Begun.{Begun}
use Rattle.storage_map.specs.declared.entry.Live.{Live}
use Rattle.storage_map.specs.Slots.{live_at, begun_at}
use Rattle.adb_model.specs.State.{State}
use Rattle.adb_model.specs.Call as machine
use Rattle.adb_model.specs.Call.{Event, Refused}
use Rattle.book_parts.specs.Parts.{Parts}
use Rattle.book_parts.specs.Stands.{Stands, After}
use Rattle.shrink_plan.specs.Causes.{cell_fault, IsCauseOf}
use Rattle.shrink_plan.specs.declared.fault.BeginFault.{BeginFault}
use Rattle.shrink_plan.specs.declared.fault.BeginFault.TheVariants as faults
use Rattle.book.specs.declared.refusals.ShrinkRefusal.{ShrinkRefusal}
use Rattle.book.specs.declared.refusals.ShrinkRefusal.TheVariants as shrinks
use Rattle.book.specs.Shrinking.{IsWhyNotShrunk, IsLackOf, refusal_for}
use Rattle.book.specs.Replies.{shrink_reply}

module _ (p : Parts) (m0 : State) (h : List Event) (pass slot : ℕ) where
  -- the parts stand for the history with a shrink that was refused so
  abbrev pub RefusedAs : machine.Refusal → Type 0
  RefusedAs refusal = After p m0 h pass (machine.ShrinkBegin slot) (Some (Refused refusal))

  -- and with one that was answered so
  abbrev pub Answered : ShrinkRefusal → Type 0
  Answered refusal = After p m0 h pass (machine.ShrinkBegin slot) (shrink_reply (Err refusal))

  abbrev pub Unstored : Type 0
  Unstored = live_at p.map slot ≡ None → RefusedAs (machine.NoStorage slot)

  abbrev pub Open : Type 0
  Open = (id : ℕ) (live : Live) (b : Begun) → live_at p.map slot ≡ Some live → begun_at p.map slot ≡ Some b → has_id id (cell_at p.cells.cells b.cell) ≡ true
      → RefusedAs (machine.Shrinking slot id)

  abbrev pub Alive : Type 0
  Alive = (live : Live) → live_at p.map slot ≡ Some live → begun_at p.map slot ≡ None → live.alive ≡ live.total → RefusedAs (machine.NothingDead slot)

  pub why_stands : Unstored → Open → Alive → (r : ShrinkRefusal) → IsWhyNotShrunk p.cells p.map slot r → Answered r
  why_stands unstored is_open alive (shrinks.NoStorage s) w = subst (λ (n : ℕ). RefusedAs (machine.NoStorage n)) (sym w.0) (unstored w.1)
  why_stands unstored is_open alive (shrinks.Shrinking s id) w = subst (λ (n : ℕ). RefusedAs (machine.Shrinking n id)) (sym w.0) (is_open id w.1 w.3 w.2 w.4 w.5)
  why_stands unstored is_open alive (shrinks.NothingDead s) w = subst (λ (n : ℕ). RefusedAs (machine.NothingDead n)) (sym w.0) (alive w.1 w.2 w.3 w.4)
  why_stands unstored is_open alive (shrinks.Full a b c) w = absurd w
  why_stands unstored is_open alive (shrinks.NoCell a) w = absurd w
  why_stands unstored is_open alive shrinks.IdsSpent w = absurd w
  why_stands unstored is_open alive shrinks.NoMemory w = absurd w

  -- ---- want of room for a copy of so many bytes

  module _ (bytes : ℕ) where
    abbrev pub Above : Type 0
    Above = p.cells.limit < used p.cells.cells + bytes → RefusedAs (machine.Full (used p.cells.cells) bytes p.cells.limit)

    abbrev pub NoneFree : Type 0
    NoneFree = used p.cells.cells + bytes ≤ p.cells.limit → count_by is_free p.cells.cells ≡ 0 → RefusedAs (machine.NoCell (length p.cells.cells))

    abbrev pub Spent : Type 0
    Spent = used p.cells.cells + bytes ≤ p.cells.limit → 0 < count_by is_free p.cells.cells → RefusedAs machine.IdsSpent

    full_stands : Above → (have want most : ℕ) → have ≡ used p.cells.cells → want ≡ bytes → most ≡ p.cells.limit → most < have + want → RefusedAs (machine.Full have want most)
    full_stands above have want most a b c over =
        let is_over : p.cells.limit < used p.cells.cells + bytes = subst (λ (n : ℕ). n < used p.cells.cells + bytes) c
        (subst (λ (n : ℕ). most < used p.cells.cells + n) b (subst (λ (n : ℕ). most < n + want) a over)) in
        subst (λ (n : ℕ). RefusedAs (machine.Full n want most)) (sym a)
        (subst (λ (n : ℕ). RefusedAs (machine.Full (used p.cells.cells) n most)) (sym b)
        (subst (λ (n : ℕ). RefusedAs (machine.Full (used p.cells.cells) bytes n)) (sym c) (above is_over)))

    pub lack_stands : Above → NoneFree → Spent → (r : ShrinkRefusal) → IsLackOf p.cells bytes r → Answered r
    lack_stands above none spent (shrinks.Full have want most) w = full_stands above have want most w.0 w.1 w.2 w.3
    lack_stands above none spent (shrinks.NoCell limit) w = subst (λ (n : ℕ). RefusedAs (machine.NoCell n)) (sym w.0) (none w.1 w.2)
    lack_stands above none spent shrinks.IdsSpent w = spent w.0 w.1
    lack_stands above none spent (shrinks.NoStorage s) w = absurd w
    lack_stands above none spent (shrinks.Shrinking s id) w = absurd w
    lack_stands above none spent (shrinks.NothingDead s) w = absurd w
    lack_stands above none spent shrinks.NoMemory w = absurd w

    pub fault_stands : Above → NoneFree → Stands p m0 h → (f : BeginFault) → IsCauseOf p.cells bytes f → Answered (refusal_for (cell_fault f))
    fault_stands above none st (faults.Full have want most) w = full_stands above have want most w.0 w.1 w.2 w.3
    fault_stands above none st (faults.NoCell limit) w = subst (λ (n : ℕ). RefusedAs (machine.NoCell n)) (sym w.0) (none w.2 w.1)
    fault_stands above none st faults.NoMemory w = st
