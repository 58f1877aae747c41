use Rattle.std.proofs.Common.{◌≡◌, ◌+◌, ◌-◌, ◌*◌, ◌^◌, ◌≤◌, length}
use Rattle.std.specs.List.{AllWithin}
use Rattle.std.specs.declared.cmp.Ordering.TheVariants.{Less, Greater}
use Rattle.accounts_index.specs.Index.{key_cmp}
use Rattle.accounts_index.proofs.search.place_of.Given as goal

abbrev pub invariant-loop-low : goal.invariant-loop-low
invariant-loop-low g l = record {
  order : l.low ≤ l.high;
  within : l.high ≤ length l.entries;
  lower : AllWithin (λ e. key_cmp e.key.0 l.key.0 ≡ Less) l.entries 0 l.low;
  higher : AllWithin (λ e. key_cmp e.key.0 l.key.0 ≡ Greater) l.entries l.high (length l.entries);
  later : l.fn.steps ≤ l.steps;
  left : 2 ^ (l.steps - l.fn.steps) * (l.high - l.low) ≤ length l.entries;
  few : 2 ^ (l.steps - l.fn.steps) ≤ 2 * length l.entries + 1;
}

abbrev pub decreases-loop-low : goal.decreases-loop-low
decreases-loop-low g l = l.high - l.low
