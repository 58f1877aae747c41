use Rattle.std.proofs.Common.{◌≡◌, ◌≤◌, ◌++◌, length, drop, map, filter}
use Rattle.accounts_index.specs.Index.{is_crowded}
use Rattle.accounts_index.proofs.walk.first_crowded.Given as goal

abbrev pub invariant-loop-entry : goal.invariant-loop-entry
invariant-loop-entry l = record {
  crowded : map (λ k. k.0) l.into.items ++ map (λ e. e.key.0) (filter (λ e. is_crowded e.lists.value.list.versions) (drop l.entry-index l.entries)) ≡ map (λ k. k.0) l.fn.into.items ++ map (λ e. e.key.0) (filter (λ e. is_crowded e.lists.value.list.versions) l.entries);
  few : length l.into.items ≤ l.most;
}
