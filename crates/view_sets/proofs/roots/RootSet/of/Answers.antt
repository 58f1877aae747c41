use Rattle.std.proofs.Common.{ap, sym, ◌∙◌, eqb}
use Rattle.std.proofs.lemmas.List.Filters.{dedup_is}
use Rattle.std.proofs.lemmas.List.Sorted.{list_any-IsPermutation}
use Rattle.std.proofs.lemmas.Map.Keys.{IsStrictlyIncreasing-dedup}
use Rattle.view_sets.specs.Slots.{among}
use Rattle.view_sets.proofs.Searches.{any_dedup}
use Rattle.view_sets.proofs.roots.RootSet.of.Goals as goal

pub invariant_of-result : goal.invariant_of-result
invariant_of-result c = rw (dedup_is _ _ _ c.dedup.ensures.filtered) (IsStrictlyIncreasing-dedup _ c.sort_unstable.ensures.sorted)

pub returns-clause-rise : goal.returns-clause-rise
returns-clause-rise c = rw (dedup_is _ _ _ c.dedup.ensures.filtered) (IsStrictlyIncreasing-dedup _ c.sort_unstable.ensures.sorted)

pub returns-clause-each : goal.returns-clause-each
returns-clause-each c = λ slot.
    ap (among slot) (dedup_is _ _ _ c.dedup.ensures.filtered)
    ∙ any_dedup (λ s. eqb s slot) _
    ∙ sym (list_any-IsPermutation (λ s. eqb s slot) _ _ c.sort_unstable.ensures.permutation)
