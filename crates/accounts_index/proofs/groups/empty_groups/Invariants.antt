use Rattle.std.proofs.Common.{◌≡◌, [], length, All}
use Rattle.accounts_index.proofs.groups.empty_groups.Given as goal

abbrev pub invariant-loop : goal.invariant-loop
invariant-loop l = record {
  made : length l.groups.items ≡ l.counter;
  empty : All (λ group. group.items ≡ []) l.groups.items;
}
