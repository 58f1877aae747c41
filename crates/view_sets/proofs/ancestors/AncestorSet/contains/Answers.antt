use Rattle.std.proofs.Common.{ap, sym, ◌∙◌}
use Rattle.std.specs.FinSet as set
use Rattle.std.specs.FinSet.{contains-from_list_nat}
use Rattle.view_sets.specs.Slots.{among}
use Rattle.view_sets.proofs.ancestors.AncestorSet.contains.Goals as goal

pub returns : goal.returns
returns c =
    c.is_among.ensures ∙ ap (among c.args.slot) c.deref.ensures.value ∙ sym (contains-from_list_nat c.self.inside.slots.items c.args.slot)
    ∙ ap (λ s. set.contains s c.args.slot) c.self.view_is
