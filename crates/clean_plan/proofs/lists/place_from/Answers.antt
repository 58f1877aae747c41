use Rattle.std.proofs.Common.{◌≡◌, ltb, true, false, rules, of_calls}
use Rattle.std.specs.List.Sorted.{IsPartitionPoint}
use Rattle.std.proofs.lemmas.Bool.{ltb-true, ltb-false}
use Rattle.std.proofs.lemmas.List.Sorted.{IsPartitionedBy-ltb}
use Rattle.std.proofs.lemmas.Fn.{always_returns_same}
use Rattle.slot_list.specs.declared.Version.{Version}
use Rattle.clean_plan.proofs.Searches.{not_falling}
use Rattle.clean_plan.proofs.lists.place_from.Goals as goal

pub returns-clause-below : goal.returns-clause-below
returns-clause-below c = λ k d lo hi.
    let vs = c.args.versions.now in
    let from = c.args.from in
    let parts : IsPartitionPoint (λ (v : Version). ltb v.slot from ≡ true) (λ v. ltb v.slot from ≡ false) vs c.partition_point.result =
    c.partition_point.ensures.partitioned (λ v. ltb v.slot from) (always_returns_same _ _ _ (λ a r f k. search (rules, of_calls))) (IsPartitionedBy-ltb (λ v. v.slot) vs from (not_falling vs c.requires)) in
    ltb-true _ _ (parts.0 k d lo hi)

pub returns-clause-above : goal.returns-clause-above
returns-clause-above c = λ k d lo hi.
    let vs = c.args.versions.now in
    let from = c.args.from in
    let parts : IsPartitionPoint (λ (v : Version). ltb v.slot from ≡ true) (λ v. ltb v.slot from ≡ false) vs c.partition_point.result =
    c.partition_point.ensures.partitioned (λ v. ltb v.slot from) (always_returns_same _ _ _ (λ a r f k. search (rules, of_calls))) (IsPartitionedBy-ltb (λ v. v.slot) vs from (not_falling vs c.requires)) in
    ltb-false _ _ (parts.1 k d lo hi)
