use Rattle.std.proofs.Common.{◌≡◌, ◌<◌, [], length, arith}
use Rattle.std.proofs.lemmas.Grind.{common_steps}
use Rattle.accounts_index.proofs.Grouped.{bins_in-grown, whole_some}
use Rattle.accounts_index.proofs.groups.grow.Goals as goal

pub returns-in_ok-group-clause-same : goal.returns-in_ok-group-clause-same
returns-in_ok-group-clause-same c =
    let none : c.args.group.now.items ≡ [] = grind (arith, common_steps) in
    bins_in-grown c.args.group.now.items c.in_ok-group.field-0.items none c.in_ok-group.ensures.every c.in_ok-group.ensures.empty

pub returns-else-is_empty-clause-grown : goal.returns-else-is_empty-clause-grown
returns-else-is_empty-clause-grown c =
    let some : 0 < length c.args.group.now.items = grind (arith, common_steps) in
    whole_some c.args.group.now.items c.requires some
