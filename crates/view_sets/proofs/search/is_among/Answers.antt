use Rattle.std.proofs.Common.{◌∙◌}
use Rattle.std.proofs.lemmas.List.Sorted.{searched}
use Rattle.view_sets.proofs.Searches.{is_ok-IsFound, IsStrictlyIncreasing-le}
use Rattle.view_sets.proofs.search.is_among.Goals as goal

pub returns : goal.returns
returns c =
    let xs = c.args.slots.now in
    c.is_ok.ensures.value ∙ is_ok-IsFound xs c.args.slot c.binary_search.result (searched xs c.args.slot c.binary_search.result c.binary_search.ensures.position (IsStrictlyIncreasing-le xs c.requires))
