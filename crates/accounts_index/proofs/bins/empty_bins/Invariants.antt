use Rattle.std.proofs.Common.{◌≡◌, [], length, All}
use Rattle.accounts_index.proofs.bins.empty_bins.Given as goal

abbrev pub invariant-loop : goal.invariant-loop
invariant-loop l = record {
  made : length l.bins.items ≡ l.counter;
  empty : All (λ bin. bin ≡ []) l.bins.items;
}
