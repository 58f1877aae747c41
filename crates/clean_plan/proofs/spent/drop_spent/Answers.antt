use Rattle.std.proofs.Common.{[], arith, subst}
use Rattle.adb_model.specs.State.{State}
use Rattle.adb_model.specs.Reclaimable.{is_spent}
use Rattle.adb_model.specs.Reclaim.{drop_spent}
use Rattle.clean_plan.specs.Leaving.{rooted, StandAs}
use Rattle.clean_plan.proofs.Taking.{none_taken, next_taken, all_taken}
use Rattle.clean_plan.proofs.spent.drop_spent.Goals as goal

pub loop-key-init : goal.loop-key-init
loop-key-init c = λ p m stands. (m, stands, none_taken is_spent drop_spent c.args.keys.now m)

pub drop_spent_of-requires : goal.drop_spent_of-requires
drop_spent_of-requires c =
    let way = c.loop-key.invariant c.requires.0 c.requires.1 c.requires.2 in
    (c.requires.0, way.0, way.1)

pub loop-key-preserved : goal.loop-key-preserved
loop-key-preserved c = λ p m stands.
    let way = c.loop-key.invariant p m stands in
    let next = c.drop_spent_of.ensures p way.0 way.1 in
    (next.0, next.1, next_taken is_spent drop_spent c.args.keys.now c.loop-key.key-index (record { 0 = [] }) m way.0 next.0 c.loop-key-test.true way.2 next.2)

pub returns : goal.returns
returns c = λ p m stands.
    let way = c.loop-key.invariant p m stands in
    let all = all_taken is_spent drop_spent c.args.keys.now c.loop-key.key-index m way.0 (omega (arith, c.loop-key-test.false)) (omega (arith, c.loop-key.auto.key-index-end))
    (λ o ks none. c.spent_pairs_leave.ensures.none o ks none) way.2 in
    subst (λ (n : State). StandAs (rooted p p.roots c.args.cleaned) c.loop-key.index c.loop-key.map n) all way.1
