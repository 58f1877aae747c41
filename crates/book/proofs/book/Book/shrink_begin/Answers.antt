use Rattle.std.proofs.Common.{◌≡◌, ◌+◌, true, Option, Some, Ok, Err, sym, ap, subst}
use Rattle.std.specs.Prelude.{Result, IsSomeAnd}
use Rattle.std.specs.Result.{IsErr, IsErrAnd}
use Rattle.cell_table.specs.Phases.{is_live}
use Rattle.cell_table.specs.Cells.{Table, cell_at}
use Rattle.storage_map.specs.declared.entry.Live.{Live}
use Rattle.storage_map.specs.Slots.{Slots}
use Rattle.adb_model.specs.Storages.{bytes_of}
use Rattle.adb_model.specs.Call as machine
use Rattle.adb_model.specs.History.{state_after}
use Rattle.book_parts.specs.Parts.{Shared, Parts}
use Rattle.book_parts.specs.Stands.{Stands, After, with_event}
use Rattle.book_parts.specs.Shrinks.{Copy, IsOpenCopy, copied_rows}
use Rattle.shrink_plan.specs.Causes.{cell_fault}
use Rattle.shrink_plan.specs.declared.fault.BeginFault.{BeginFault}
use Rattle.book.specs.Shrinking.{refusal_for}
use Rattle.book.specs.declared.refusals.ShrinkRefusal.{ShrinkRefusal}
use Rattle.book.specs.Inside.{seen}
use Rattle.book.specs.Replies.{shrink_reply}
use Rattle.book.proofs.DeadRows.{some_dead}
use Rattle.book.proofs.ShrinkRefusals.{Answered, why_stands, lack_stands, fault_stands}
use Rattle.book.proofs.book.Book.shrink_begin.Goals as goal

pub returns-in-Some-clause-stands : goal.returns-in-Some-clause-stands
returns-in-Some-clause-stands c = λ m0 h pass st.
    let p = seen c.self.inside in
    let slot = c.args.slot in
    let stands = subst (λ (q : Parts). Stands q m0 h) (sym c.self.view_is) st in
    let law = c.shrink_begin_stands.ensures in
    subst (λ (q : Parts). Answered q m0 h pass slot c.in-Some.refusal) c.self.view_is
    (why_stands p m0 h pass slot (law.none p m0 h pass slot stands) (λ id live b. law.is_open p m0 h pass slot id live b stands) (λ live. law.nothing_dead p m0 h pass slot live stands)
    c.in-Some.refusal c.in-Some.ensures)

pub no_id_for-requires : goal.no_id_for-requires
no_id_for-requires c =
    let p = seen c.self.inside in
    let i = c.self.invariant in
    let ok = c.in_default.ensures in
    subst (λ (o : Option Live). IsSomeAnd o (λ live. is_live (cell_at p.cells.cells live.cell) ≡ true)) (sym ok.entry)
    (c.shrink_begin_stands.ensures.may p i.start i.history c.args.slot ok.live i.stands ok.entry).0

pub returns-then-id-clause-stands : goal.returns-then-id-clause-stands
returns-then-id-clause-stands c = λ m0 h pass st.
    let p = seen c.self.inside in
    let slot = c.args.slot in
    let stands = subst (λ (q : Parts). Stands q m0 h) (sym c.self.view_is) st in
    let law = c.shrink_begin_stands.ensures in
    let ok = c.in_default.ensures in
    let o = c.no_id_for.ensures in
    let dead = some_dead p.map slot o.0 ok o.2.entry (law.may p m0 h slot o.0 stands o.2.entry).2 in
    subst (λ (q : Parts). Answered q m0 h pass slot c.no_id_for.result) c.self.view_is
    (lack_stands p m0 h pass slot (bytes_of (copied_rows p.index slot o.0.cell o.1.value)) (law.full p m0 h pass slot o.0 o.1 stands o.2 ok.unopened dead)
    (law.no_cell p m0 h pass slot o.0 o.1 stands o.2 ok.unopened dead)
    (λ fits free. law.spent p m0 h pass slot o.0 o.1 stands o.2 ok.unopened dead fits free c.if-id.true) c.no_id_for.result o.3)

pub begin-requires-clause-in_use : goal.begin-requires-clause-in_use
begin-requires-clause-in_use c =
    let p = seen c.self.inside in
    let i = c.self.invariant in
    let ok = c.in_default.ensures in
    subst (λ (o : Option Live). IsSomeAnd o (λ live. is_live (cell_at p.cells.cells live.cell) ≡ true)) (sym ok.entry)
    (c.shrink_begin_stands.ensures.may p i.start i.history c.args.slot ok.live i.stands ok.entry).0

pub begin-requires-clause-unused : goal.begin-requires-clause-unused
begin-requires-clause-unused c =
    let i = c.self.invariant in
    let ok = c.in_default.ensures in
    (c.shrink_begin_stands.ensures.may (seen c.self.inside) i.start i.history c.args.slot ok.live i.stands ok.entry).3

pub begin-requires-clause-pins : goal.begin-requires-clause-pins
begin-requires-clause-pins c =
    let i = c.self.invariant in
    let ok = c.in_default.ensures in
    (c.shrink_begin_stands.ensures.may (seen c.self.inside) i.start i.history c.args.slot ok.live i.stands ok.entry).4

-- ---- want of room or memory

abbrev with_map : Parts → Table Shared → Slots → Parts
with_map p table map = record p { cells = table; map = map }

-- a fault, as the refusal that it becomes
refused : {A : Type 0} (fault : BeginFault) (r : Result A ShrinkRefusal) → IsErr r → IsErrAnd r (λ e. e ≡ refusal_for (cell_fault fault)) → r ≡ Err (refusal_for (cell_fault fault))
refused fault (Ok a) is_err and = absurd and
refused fault (Err e) is_err and = ap Err and

pub returns-in_err-job-clause-stands : goal.returns-in_err-job-clause-stands
returns-in_err-job-clause-stands c = λ m0 h pass st.
    let p = seen c.self.inside in
    let slot = c.args.slot in
    let stands = subst (λ (q : Parts). Stands q m0 h) (sym c.self.view_is) st in
    let law = c.shrink_begin_stands.ensures in
    let same = c.in_err-job.ensures in
    let ok = c.in_default.ensures in
    let o = same.fault in
    let dead = some_dead p.map slot o.0 ok o.2.entry (law.may p m0 h slot o.0 stands o.2.entry).2 in
    let fault = c.in_err-job.field-0.0 in
    let answered = fault_stands p m0 h pass slot (bytes_of (copied_rows p.index slot o.0.cell o.1.value)) (law.full p m0 h pass slot o.0 o.1 stands o.2 ok.unopened dead)
    (law.no_cell p m0 h pass slot o.0 o.1 stands o.2 ok.unopened dead) stands fault o.3 in
    subst (λ (r : Result Copy ShrinkRefusal). After (with_map p c.begin.new.cells c.begin.new.map) m0 h pass (machine.ShrinkBegin slot) (shrink_reply r))
    (sym (refused fault c.from_residual.result c.from_residual.ensures.0 c.from_residual.ensures.1))
    (subst (λ (table : Table Shared). Answered (with_map p table c.begin.new.map) m0 h pass slot (refusal_for (cell_fault fault))) (sym same.cells)
    (subst (λ (map : Slots). Answered (with_map p p.cells map) m0 h pass slot (refusal_for (cell_fault fault))) (sym same.map) answered))

-- ---- a shrink begins

pub invariant_of-self-2 : goal.invariant_of-self-2
invariant_of-self-2 c =
    let i = c.self.invariant in
    let p = seen c.self.inside in
    let slot = c.args.slot in
    let law = c.shrink_begin_stands.ensures in
    let ok = c.in_default.ensures in
    let o = c.in_ok-job.ensures.ok in
    let dead = some_dead p.map slot o.0 ok o.2.entry (law.may p i.start i.history slot o.0 i.stands o.2.entry).2 in
    record {
      start = i.start;
      history = _;
      stands = law.done p i.start i.history 1 slot o.3.0 o.0 o.1 c.begin.new.cells c.begin.new.map i.stands o.2 ok.unopened dead c.if-id.false o.3.2;
    }

pub returns-clause-stands : goal.returns-clause-stands
returns-clause-stands c = λ m0 h pass st.
    let p = seen c.self.inside in
    let slot = c.args.slot in
    let stands = subst (λ (q : Parts). Stands q m0 h) (sym c.self.view_is) st in
    let law = c.shrink_begin_stands.ensures in
    let ok = c.in_default.ensures in
    let o = c.in_ok-job.ensures.ok in
    let dead = some_dead p.map slot o.0 ok o.2.entry (law.may p m0 h slot o.0 stands o.2.entry).2 in
    let done = law.done p m0 h pass slot o.3.0 o.0 o.1 c.begin.new.cells c.begin.new.map stands o.2 ok.unopened dead c.if-id.false o.3.2 in
    subst (λ (j : Copy). After (record p { cells = c.begin.new.cells; map = c.begin.new.map; next_id = p.next_id + 1 }) m0 h pass (machine.ShrinkBegin slot) (Some (machine.ShrinkBegun j.old j.id j.bytes)))
    (sym o.3.1) done

pub returns-clause-opens : goal.returns-clause-opens
returns-clause-opens c = λ m0 h pass st.
    let p = seen c.self.inside in
    let slot = c.args.slot in
    let stands = subst (λ (q : Parts). Stands q m0 h) (sym c.self.view_is) st in
    let law = c.shrink_begin_stands.ensures in
    let ok = c.in_default.ensures in
    let o = c.in_ok-job.ensures.ok in
    let dead = some_dead p.map slot o.0 ok o.2.entry (law.may p m0 h slot o.0 stands o.2.entry).2 in
    let tied = law.tied p m0 h pass slot o.3.0 o.0 o.1 c.begin.new.cells c.begin.new.map stands o.2 ok.unopened dead c.if-id.false o.3.2 in
    subst (λ (j : Copy). IsOpenCopy j (state_after m0 (with_event h pass (machine.ShrinkBegin slot) (Some (machine.ShrinkBegun j.old j.id j.bytes))))) (sym o.3.1) tied

pub returns-clause-slot : goal.returns-clause-slot
returns-clause-slot c = ap (λ (j : Copy). j.slot) c.in_ok-job.ensures.ok.3.1
