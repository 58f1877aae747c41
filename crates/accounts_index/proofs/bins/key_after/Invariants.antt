use Rattle.std.proofs.Common.{◌≡◌, drop, option_map}
use Rattle.accounts_index.specs.Bins.{joined}
use Rattle.accounts_index.specs.Index.{key_after}
use Rattle.accounts_index.proofs.bins.key_after.Given as goal

abbrev pub invariant-loop-bin : goal.invariant-loop-bin
invariant-loop-bin l =
    let after = option_map (λ k. k.now.0) l.after in
    key_after (joined (drop l.bin-index l.bins)) after ≡ key_after (joined l.bins) after
