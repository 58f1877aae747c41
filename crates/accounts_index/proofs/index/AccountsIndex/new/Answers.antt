use Rattle.accounts_index.proofs.Grouped.{no_bins, AreGroups_empty}
use Rattle.accounts_index.proofs.Lists.{no_lists}
use Rattle.accounts_index.proofs.index.AccountsIndex.new.Goals as goal

pub returns : goal.returns
returns c =
    no_bins c.in_ok-empty_groups.field-0.items c.in_ok-empty_groups.ensures.empty

pub invariant_of-result : goal.invariant_of-result
invariant_of-result c =
    let groups = c.in_ok-empty_groups.field-0.items in
    let empty = c.in_ok-empty_groups.ensures.empty in
    (AreGroups_empty groups c.in_ok-empty_groups.ensures.every empty, no_lists _ (no_bins groups empty))
