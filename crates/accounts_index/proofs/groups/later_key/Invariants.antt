use Rattle.std.proofs.Common.{◌≡◌, drop, option_map}
use Rattle.accounts_index.specs.Bins.{joined, all_bins}
use Rattle.accounts_index.specs.Index.{key_after}
use Rattle.accounts_index.proofs.groups.later_key.Given as goal

abbrev pub invariant-loop-group : goal.invariant-loop-group
invariant-loop-group l =
    let after = option_map (λ k. k.now.0) l.after in
    key_after (joined (all_bins (drop l.group-index l.groups))) after ≡ key_after (joined (all_bins l.groups)) after
