use Rattle.std.proofs.Common.{◌≡◌, ◌≤◌, ◌++◌, length, take, drop, map, option_map}
use Rattle.accounts_index.specs.Bins.{joined, all_bins}
use Rattle.accounts_index.specs.Index.{crowded_after}
use Rattle.accounts_index.proofs.groups.later_crowded.Given as goal

abbrev pub invariant-loop-group : goal.invariant-loop-group
invariant-loop-group l =
    let after = option_map (λ k. k.now.0) l.after in record {
      crowded : take l.most (map (λ k. k.0) l.into.items ++ crowded_after (joined (all_bins (drop l.group-index l.groups))) after)
          ≡ take l.most (map (λ k. k.0) l.fn.into.items ++ crowded_after (joined (all_bins l.groups)) after);
      few : length l.into.items ≤ l.most;
    }
