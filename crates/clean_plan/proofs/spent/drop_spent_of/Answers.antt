use Rattle.clean_plan.specs.Leaving.{rooted}
use Rattle.clean_plan.proofs.Spending.{Laws, named_spent, left_spent, none_spent}
use Rattle.clean_plan.proofs.spent.drop_spent_of.Goals as goal

pub drop_pair-requires : goal.drop_pair-requires
drop_pair-requires c =
    let p = rooted c.requires.0 c.requires.0.roots c.args.cleaned in
    let m = c.requires.1 in
    let stands = c.requires.2 in
    (p, m, stands, named_spent m c.in-Some.slot c.args.key.now.0 ((c.stored_versions_stand.ensures.spent (record p { index = c.args.index.now; map = c.args.map.now }) m stands.midway stands.parts c.in-Some.slot c.args.key.now.0).1 c.in-Some.ensures))

pub returns-in-Some : goal.returns-in-Some
returns-in-Some c = λ p m stands.
    let laws : Laws = record {
      spent = c.stored_versions_stand.ensures.spent;
      sound = c.spent_pairs_leave.ensures.sound;
      once = c.names_leave.ensures.once;
      others = c.spent_pairs_leave.ensures.others;
      rest = c.spent_pairs_leave.ensures.rest;
    } in
    left_spent laws (rooted p p.roots c.args.cleaned) c.args.index.now c.args.map.now m stands c.args.key.now.0 c.in-Some.slot c.in-Some.ensures c.drop_pair.new.index c.drop_pair.new.map
    (λ named. c.drop_pair.ensures.parts (rooted p p.roots c.args.cleaned) m stands named)

pub returns-in_default : goal.returns-in_default
returns-in_default c = λ p m stands. (
  m,
  stands,
  none_spent c.stored_versions_stand.ensures.spent (rooted p p.roots c.args.cleaned) c.args.index.now c.args.map.now m stands c.args.key.now.0 c.in_default.ensures,
)
