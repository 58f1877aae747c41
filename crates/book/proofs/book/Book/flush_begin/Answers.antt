use Rattle.std.proofs.Common.{◌≡◌, ◌≢◌, ℕ, ◌+◌, ◌++◌, ◌∷◌, [], false, eqb, Some, None, Ok, Err, sym, ap, ◌∙◌, subst}
use Rattle.std.specs.Prelude.{Result}
use Rattle.std.specs.Result.{IsErr, IsErrAnd}
use Rattle.std.proofs.lemmas.Bool.{eq-eqb, true≢false}
use Rattle.cell_table.specs.Cells.{Table}
use Rattle.storage_map.specs.Slots.{Slots, begun_at}
use Rattle.accounts_index.specs.Index.{Index}
use Rattle.write_cache.specs.Rows.{rows}
use Rattle.adb_model.specs.Storages.{bytes_of, open_flush}
use Rattle.adb_model.specs.Call as machine
use Rattle.adb_model.specs.History.{state_after}
use Rattle.book_parts.specs.Parts.{Shared, Parts}
use Rattle.book_parts.specs.Stands.{Stands, After, with_event}
use Rattle.flush_plan.specs.Causes.{cell_fault}
use Rattle.flush_plan.specs.declared.fault.BeginFault.{BeginFault}
use Rattle.flush_plan.specs.Jobs.{Job, storage_of}
use Rattle.book.specs.Flushing.{refusal_for}
use Rattle.book.specs.declared.refusals.FlushRefusal.{FlushRefusal}
use Rattle.book.specs.Inside.{seen}
use Rattle.book.specs.Replies.{flush_reply}
use Rattle.book.proofs.FlushRefusals.{Answered, why_stands, lack_stands, fault_stands}
use Rattle.book.proofs.book.Book.flush_begin.Goals as goal

pub returns-in-Some-clause-stands : goal.returns-in-Some-clause-stands
returns-in-Some-clause-stands c = λ m0 h pass st.
    let p = seen c.self.inside in
    let slot = c.args.slot in
    let stands = subst (λ (q : Parts). Stands q m0 h) (sym c.self.view_is) st in
    let law = c.flush_begin_stands.ensures in
    subst (λ (q : Parts). Answered q m0 h pass slot c.in-Some.refusal) c.self.view_is
    (why_stands p m0 h pass slot (law.unrooted p m0 h pass slot stands) (law.empty p m0 h pass slot stands) (λ id b. law.is_open p m0 h pass slot id b stands) c.in-Some.refusal c.in-Some.ensures)

pub returns-then-self-clause-stands : goal.returns-then-self-clause-stands
returns-then-self-clause-stands c = λ m0 h pass st.
    let p = seen c.self.inside in
    let slot = c.args.slot in
    let stands = subst (λ (q : Parts). Stands q m0 h) (sym c.self.view_is) st in
    let law = c.flush_begin_stands.ensures in
    let ok = c.in_default.ensures in
    subst (λ (q : Parts). Answered q m0 h pass slot c.spent.result) c.self.view_is
    (lack_stands p m0 h pass slot (law.full p m0 h pass slot stands ok.0 ok.1 ok.2) (law.no_cell p m0 h pass slot stands ok.0 ok.1 ok.2)
    (λ fits free. law.spent p m0 h pass slot stands ok.0 ok.1 ok.2 fits free c.if-self.true) c.spent.result c.spent.ensures)

pub begin-requires-clause-unused : goal.begin-requires-clause-unused
begin-requires-clause-unused c =
    let i = c.self.invariant in
    let ok = c.in_default.ensures in
    (c.flush_begin_stands.ensures.may (seen c.self.inside) i.start i.history c.args.slot i.stands ok.0 ok.1 ok.2).2

pub begin-requires-clause-differ : goal.begin-requires-clause-differ
begin-requires-clause-differ c =
    let i = c.self.invariant in
    let ok = c.in_default.ensures in
    (c.flush_begin_stands.ensures.may (seen c.self.inside) i.start i.history c.args.slot i.stands ok.0 ok.1 ok.2).1

pub begin-requires-clause-fresh : goal.begin-requires-clause-fresh
begin-requires-clause-fresh c = λ k has.
    let i = c.self.invariant in
    let ok = c.in_default.ensures in
    (c.flush_begin_stands.ensures.may (seen c.self.inside) i.start i.history c.args.slot i.stands ok.0 ok.1 ok.2).3 k

-- ---- want of room or memory

abbrev with_map : Parts → Index → Slots → Parts
with_map p index map = record p { index = index; map = map }

-- a fault, as the refusal that it becomes
refused : {A : Type 0} (fault : BeginFault) (r : Result A FlushRefusal) → IsErr r → IsErrAnd r (λ e. e ≡ refusal_for (cell_fault fault)) → r ≡ Err (refusal_for (cell_fault fault))
refused fault (Ok a) is_err and = absurd and
refused fault (Err e) is_err and = ap Err and

pub returns-in_err-job-clause-stands : goal.returns-in_err-job-clause-stands
returns-in_err-job-clause-stands c = λ m0 h pass st.
    let old = seen c.self.inside in
    let p = with_map old c.begin.new.index c.begin.new.map in
    let slot = c.args.slot in
    let before = subst (λ (q : Parts). Stands q m0 h) (sym c.self.view_is) st in
    let law = c.flush_begin_stands.ensures in
    let same = c.in_err-job.ensures in
    let stands = law.kept old m0 h c.begin.new.index c.begin.new.map before same.index same.map in
    let ok = c.in_default.ensures in
    let none : begun_at c.begin.new.map slot ≡ None = same.map.begins slot ∙ ok.2 in
    let answered = fault_stands p m0 h pass slot (law.full p m0 h pass slot stands ok.0 ok.1 none) (law.no_cell p m0 h pass slot stands ok.0 ok.1 none) stands c.in_err-job.field-0.0 same.fault in
    let fault = c.in_err-job.field-0.0 in
    subst (λ (r : Result Job FlushRefusal). After (record p { cells = c.begin.new.cells }) m0 h pass (machine.FlushBegin slot) (flush_reply r)) (sym (refused fault c.from_residual.result c.from_residual.ensures.0 c.from_residual.ensures.1))
    (subst (λ (table : Table Shared). Answered (record p { cells = table }) m0 h pass slot (refusal_for (cell_fault fault))) (sym same.cells) answered)

-- ---- a flush begins

unspent : (id : ℕ) → eqb id 18446744073709551615 ≡ false → id ≢ 18446744073709551615
unspent id e same = true≢false (sym (eq-eqb id 18446744073709551615 same) ∙ e)

abbrev begun : Parts → Index → Table Shared → Slots → Parts
begun p index table map = record p { index = index; cells = table; map = map; next_id = p.next_id + 1 }

pub invariant_of-self-2 : goal.invariant_of-self-2
invariant_of-self-2 c =
    let i = c.self.invariant in
    let p = seen c.self.inside in
    let slot = c.args.slot in
    let ok = c.in_default.ensures in
    let begins = c.in_ok-job.ensures.ok in
    record {
      start = i.start;
      history = i.history ++ record { pass = 1; call = machine.FlushBegin slot; reply = machine.FlushBegun p.next_id (bytes_of (rows p.cache slot)) } ∷ [];
      stands = c.flush_begin_stands.ensures.done p i.start i.history 1 slot begins.0 c.begin.new.index c.begin.new.cells c.begin.new.map i.stands ok.0 ok.1 ok.2 c.if-self.false begins.1;
    }

pub returns-clause-stands : goal.returns-clause-stands
returns-clause-stands c = λ m0 h pass st.
    let p = seen c.self.inside in
    let slot = c.args.slot in
    let stands = subst (λ (q : Parts). Stands q m0 h) (sym c.self.view_is) st in
    let ok = c.in_default.ensures in
    let begins = c.in_ok-job.ensures.ok in
    let done = c.flush_begin_stands.ensures.done p m0 h pass slot begins.0 c.begin.new.index c.begin.new.cells c.begin.new.map stands ok.0 ok.1 ok.2 c.if-self.false begins.1 in
    subst (λ (j : Job). After (begun p c.begin.new.index c.begin.new.cells c.begin.new.map) m0 h pass (machine.FlushBegin slot) (Some (machine.FlushBegun j.id j.bytes))) (sym c.in_ok-job.ensures.job) done

pub returns-clause-opens : goal.returns-clause-opens
returns-clause-opens c = λ m0 h pass st.
    let p = seen c.self.inside in
    let slot = c.args.slot in
    let stands = subst (λ (q : Parts). Stands q m0 h) (sym c.self.view_is) st in
    let ok = c.in_default.ensures in
    let begins = c.in_ok-job.ensures.ok in
    let tied = c.flush_begin_stands.ensures.tied p m0 h pass slot begins.0 c.begin.new.index c.begin.new.cells c.begin.new.map stands ok.0 ok.1 ok.2 c.if-self.false begins.1 in
    subst (λ (j : Job). open_flush (state_after m0 (with_event h pass (machine.FlushBegin slot) (Some (machine.FlushBegun j.id j.bytes)))) j.slot ≡ Some (storage_of j)) (sym c.in_ok-job.ensures.job) tied
