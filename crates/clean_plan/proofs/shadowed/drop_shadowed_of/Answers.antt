use Rattle.std.proofs.Common.{refl}
use Rattle.clean_plan.specs.Leaving.{rooted}
use Rattle.clean_plan.proofs.shadowed.drop_shadowed_of.Goals as goal

pub drop_below-requires : goal.drop_below-requires
drop_below-requires c = (rooted c.requires.0 c.args.roots.now c.args.cleaned, c.requires.1, c.requires.2, c.in-Some.ensures)

pub returns-in-Some : goal.returns-in-Some
returns-in-Some c = λ p m stands. c.drop_below.ensures (rooted p c.args.roots.now c.args.cleaned) m stands c.in-Some.ensures

-- nothing is shadowed
pub returns-in_default : goal.returns-in_default
returns-in_default c = λ p m stands. (
  m,
  stands,
  record {
    rest = λ keys taken. refl;
    none = c.stored_versions_stand.ensures.none (record p { roots = c.args.roots.now; cleaned = c.args.cleaned; index = c.args.index.now; map = c.args.map.now }) m stands.midway stands.parts
        c.args.key.now.0 c.in_default.ensures;
    others = λ s k none. none;
  },
)
