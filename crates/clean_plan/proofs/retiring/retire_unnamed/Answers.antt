use Rattle.std.proofs.Common.{refl, sym, subst, ◌∙◌}
use Rattle.adb_model.specs.State.{State}
use Rattle.adb_model.specs.Sound.{IsSound}
use Rattle.clean_plan.specs.Leaving.{StandWith}
use Rattle.clean_plan.proofs.retiring.retire_unnamed.Goals as goal

pub loop-slot-init : goal.loop-slot-init
loop-slot-init c = λ p m stands. (m, stands, refl)

pub retire-requires-clause-some : goal.retire-requires-clause-some
retire-requires-clause-some c =
    let way = c.loop-slot.invariant c.requires.0 c.requires.1 c.requires.2 in
    (c.requires.0, way.0, way.1)

pub loop-slot-preserved : goal.loop-slot-preserved
loop-slot-preserved c = λ p m stands.
    let way = c.loop-slot.invariant p m stands in
    let next = c.retire.ensures.parts p way.0 way.1 in
    (next.0, next.1, next.2 ∙ way.2)

pub returns-clause-sound : goal.returns-clause-sound
returns-clause-sound c = λ p m stands.
    let way = c.loop-slot.invariant p m stands in
    let n = way.0 in
    let named = c.retired_storage_reflects.ensures.all_named (record p { index = c.loop-slot.index; cells = c.loop-slot.cells; map = c.loop-slot.map }) n way.1.parts c.in_default.ensures in
    let done = c.unnamed_storages_retire.ensures.none n way.1.midway.sound named in
    subst IsSound (sym done.0 ∙ way.2) done.1

pub returns-clause-parts : goal.returns-clause-parts
returns-clause-parts c = λ p m stands.
    let way = c.loop-slot.invariant p m stands in
    let n = way.0 in
    let named = c.retired_storage_reflects.ensures.all_named (record p { index = c.loop-slot.index; cells = c.loop-slot.cells; map = c.loop-slot.map }) n way.1.parts c.in_default.ensures in
    let done = c.unnamed_storages_retire.ensures.none n way.1.midway.sound named in
    subst (λ (o : State). StandWith p c.loop-slot.index c.loop-slot.cells c.loop-slot.map o) (sym done.0 ∙ way.2) way.1
