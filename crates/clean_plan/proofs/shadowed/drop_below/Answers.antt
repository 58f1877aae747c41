use Rattle.std.proofs.Common.{arith}
use Rattle.clean_plan.proofs.Dropping.{Laws, going_first, named_there, going_more, going_done, before_more}
use Rattle.clean_plan.proofs.shadowed.drop_below.Goals as goal

pub loop-from-init : goal.loop-from-init
loop-from-init c = record {
  going = λ p m stands newest. (m, going_first p c.args.key.now.0 c.args.root c.args.index.now c.args.map.now m stands newest);
  before = λ s lt. absurd (omega (arith, lt));
}

pub drop_pair-requires : goal.drop_pair-requires
drop_pair-requires c =
    let laws : Laws = record {
      named = c.stored_versions_stand.ensures.named;
      newest = c.stored_versions_stand.ensures.newest;
      sound = c.shadowed_pairs_leave.ensures.sound;
      once = c.names_leave.ensures.once;
      others = c.shadowed_pairs_leave.ensures.others;
      rest = c.shadowed_pairs_leave.ensures.rest;
      without = c.lookups_follow_edits.ensures.without;
    } in
    let way = c.loop-from.invariant.going c.requires.0 c.requires.1 c.requires.2 c.requires.3 in
    (c.requires.0, way.0, way.1.stands, named_there laws c.requires.0 c.args.key.now.0 c.args.root c.loop-from.index c.loop-from.map c.requires.1 way.0 way.1 c.in-Some.slot c.in-Some.ensures.first.2)

pub loop-from-preserved : goal.loop-from-preserved
loop-from-preserved c =
    let laws : Laws = record {
      named = c.stored_versions_stand.ensures.named;
      newest = c.stored_versions_stand.ensures.newest;
      sound = c.shadowed_pairs_leave.ensures.sound;
      once = c.names_leave.ensures.once;
      others = c.shadowed_pairs_leave.ensures.others;
      rest = c.shadowed_pairs_leave.ensures.rest;
      without = c.lookups_follow_edits.ensures.without;
    } in
    let key = c.args.key.now.0 in
    let root = c.args.root in
    let slot = c.in-Some.slot in record {
      going = λ p m stands newest.
          let way = c.loop-from.invariant.going p m stands newest in
          let named = named_there laws p key root c.loop-from.index c.loop-from.map m way.0 way.1 slot c.in-Some.ensures.first.2 in (
            _,
            going_more laws p key root c.loop-from.index c.loop-from.map m way.0 way.1 slot c.drop_pair.new.index c.drop_pair.new.map c.in-Some.ensures.first.1 c.in-Some.ensures.first.2
                c.drop_pair.ensures.index (c.drop_pair.ensures.parts p way.0 way.1.stands named),
          );
      before = before_more laws.without key c.loop-from.index c.drop_pair.new.index c.loop-from.from root slot c.in-Some.next c.loop-from.invariant.before c.in-Some.ensures.first c.in-Some.ensures.alone c.drop_pair.ensures.index;
    }

pub returns-in_default : goal.returns-in_default
returns-in_default c = λ p m stands newest.
    let laws : Laws = record {
      named = c.stored_versions_stand.ensures.named;
      newest = c.stored_versions_stand.ensures.newest;
      sound = c.shadowed_pairs_leave.ensures.sound;
      once = c.names_leave.ensures.once;
      others = c.shadowed_pairs_leave.ensures.others;
      rest = c.shadowed_pairs_leave.ensures.rest;
      without = c.lookups_follow_edits.ensures.without;
    } in
    let way = c.loop-from.invariant.going p m stands newest in
    (way.0, way.1.stands, going_done laws p c.args.key.now.0 c.args.root c.loop-from.index c.loop-from.map m way.0 way.1 c.loop-from.from c.loop-from.invariant.before c.in_default.ensures.first)

-- no slot is left to look at
pub returns : goal.returns
returns c = λ p m stands newest.
    let laws : Laws = record {
      named = c.stored_versions_stand.ensures.named;
      newest = c.stored_versions_stand.ensures.newest;
      sound = c.shadowed_pairs_leave.ensures.sound;
      once = c.names_leave.ensures.once;
      others = c.shadowed_pairs_leave.ensures.others;
      rest = c.shadowed_pairs_leave.ensures.rest;
      without = c.lookups_follow_edits.ensures.without;
    } in
    let way = c.loop-from.invariant.going p m stands newest in (
      way.0,
      way.1.stands,
      going_done laws p c.args.key.now.0 c.args.root c.loop-from.index c.loop-from.map m way.0 way.1 c.loop-from.from c.loop-from.invariant.before
          (λ s from below. absurd (omega (arith, from, below, c.loop-from-test.false))),
    )
