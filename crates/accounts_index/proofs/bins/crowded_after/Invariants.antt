use Rattle.std.proofs.Common.{◌≡◌, ◌≤◌, ◌++◌, length, take, drop, map, option_map}
use Rattle.accounts_index.specs.Bins.{joined}
use Rattle.accounts_index.specs.Index.{crowded_after}
use Rattle.accounts_index.proofs.bins.crowded_after.Given as goal

abbrev pub invariant-loop-bin : goal.invariant-loop-bin
invariant-loop-bin l =
    let after = option_map (λ k. k.now.0) l.after in record {
      crowded : take l.most (map (λ k. k.0) l.into.items ++ crowded_after (joined (drop l.bin-index l.bins)) after)
          ≡ take l.most (map (λ k. k.0) l.fn.into.items ++ crowded_after (joined l.bins) after);
      few : length l.into.items ≤ l.most;
    }
