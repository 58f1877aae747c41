use Rattle.std.proofs.Common.{rules, cond, Bool, ◌≡◌, ◌↔◌, ℕ, ◌<◌, true, Some, refl, sym, ap, subst, ◌∙◌}
use Rattle.cell_table.specs.Phases.{has_id, pins_of, is_live}
use Rattle.cell_table.specs.Cells.{Table, cell_at}
use Rattle.book_parts.specs.Parts.{Shared}
use Rattle.book_parts.specs.Shrinks.{is_in_use_at, shrink_of}
use Rattle.adb_model.specs.Shrink.{installed, copy_dropped}
use Rattle.book_parts.specs.Reflects.{Reflects}
use Rattle.shrink_plan.specs.States.{having}
use Rattle.shrink_plan.proofs.Installed.{same_from, in_use_live}
use Rattle.shrink_plan.proofs.Standing.{as_many}
use Rattle.shrink_plan.proofs.Cells.{unpinned_live}
use Rattle.shrink_plan.proofs.ending.end.Goals as goal

pub returns-then-not-is_in_use_at-clause-superseded : goal.returns-then-not-is_in_use_at-clause-superseded
returns-then-not-is_in_use_at-clause-superseded c = λ from cell is no. (refl, c.abort.ensures.parts from cell is)

pub rehome_rows-requires : goal.rehome_rows-requires
rehome_rows-requires c = as_many c.args.sealed.value c.args.places.now c.args.job.rows c.requires.placed

pub retire-requires : goal.retire-requires
retire-requires c =
    let o = c.requires.open in
    let f = c.in-Some.from in
    let cells = c.args.cells.now in
    let looked = subst (λ (n : ℕ). (k : ℕ) → (Some f ≡ Some k) ↔ (has_id n (cell_at cells.cells k) ≡ true)) c.old.ensures c.in-Some.ensures in
    let same = same_from c.args.job o.0 o.1 cells c.args.map.now o.2 f looked in
    let some = subst (λ (k : ℕ). 0 < pins_of (cell_at cells.cells k)) (sym same) o.2.pinned in
    let yes : c.is_in_use_at.result ≡ true = search rules in
    let there : is_in_use_at c.args.map.now c.args.job.slot f ≡ true = ap (λ (s : ℕ). is_in_use_at c.args.map.now s f) (sym c.slot-slot.ensures) ∙ sym c.is_in_use_at.ensures ∙ yes in
    let live = in_use_live c.args.job o.0 o.1 cells c.args.map.now o.2 f there in
    ap (λ (t : Table Shared). is_live (cell_at t.cells f)) c.unpin.ensures ∙ unpinned_live cells f some live

-- ---- too late

pub returns-then-not-is_in_use_at-clause-current : goal.returns-then-not-is_in_use_at-clause-current
returns-then-not-is_in_use_at-clause-current c = search rules

pub returns-then-not-is_in_use_at-clause-answer : goal.returns-then-not-is_in_use_at-clause-answer
returns-then-not-is_in_use_at-clause-answer c = λ p m h r o.
    let q = having p c.args.index.now c.args.cells.now c.args.map.now in
    let may = c.open_shrink_reflects.ensures.cells q m c.args.job h r o in
    returns-then-not-is_in_use_at-clause-current c may.0 may.1 may.2 ∙ c.open_shrink_reflects.ensures.current q m c.args.job may.0 may.1 h r o may.2

pub returns-then-not-is_in_use_at-clause-state : goal.returns-then-not-is_in_use_at-clause-state
returns-then-not-is_in_use_at-clause-state c = λ p m h r o of_image.
    let q = having p c.args.index.now c.args.cells.now c.args.map.now in
    let new = having p c.args.index.now c.abort.new.cells c.abort.new.map in
    subst (λ (b : Bool). Reflects new (cond b (installed m (shrink_of c.args.job)) (copy_dropped m (shrink_of c.args.job))))
    (returns-then-not-is_in_use_at-clause-answer c p m h r o) (c.abort.ensures.state q m h r o)

-- ---- in time

pub returns-clause-current : goal.returns-clause-current
returns-clause-current c = search rules

pub returns-clause-installed : goal.returns-clause-installed
returns-clause-installed c = search rules

pub returns-clause-answer : goal.returns-clause-answer
returns-clause-answer c = λ p m h r o.
    let q = having p c.args.index.now c.args.cells.now c.args.map.now in
    let may = c.open_shrink_reflects.ensures.cells q m c.args.job h r o in
    returns-clause-current c may.0 may.1 may.2 ∙ c.open_shrink_reflects.ensures.current q m c.args.job may.0 may.1 h r o may.2

pub returns-clause-state : goal.returns-clause-state
returns-clause-state c = λ p m h r o of_image.
    let q = having p c.args.index.now c.args.cells.now c.args.map.now in
    let new = having p c.unhold_dead.new.index c.publish.new.self c.publish-2.new.self in
    let may = c.open_shrink_reflects.ensures.cells q m c.args.job h r o in
    let there = sym (returns-clause-current c may.0 may.1 may.2) in
    subst (λ (b : Bool). Reflects new (cond b (installed m (shrink_of c.args.job)) (copy_dropped m (shrink_of c.args.job)))) (returns-clause-answer c p m h r o)
    (c.installed_shrink_reflects.ensures q m c.args.job may.0 may.1 c.args.sealed c.args.places.now c.unhold_dead.new.index c.publish.new.self c.publish-2.new.self
    h r o may.2 there of_image c.requires.placed (returns-clause-installed c may.0 may.1 may.2 refl))
