use Rattle.std.proofs.Common.{rules}
use Rattle.std.proofs.lemmas.List.Sorted.{IsNonDecreasingBy-from_sort_by_key}
use Rattle.field_codec.proofs.Rising.{sorted_storages}
use Rattle.field_codec.proofs.read.by_rising_slot.Goals as goal

pub returns : goal.returns
returns c =
    sorted_storages c.args.storages.items c.sort_by_key.new.self.items c.requires c.in_ok-sort_by_key.ensures.permutation
    (IsNonDecreasingBy-from_sort_by_key (λ s. s.slot) _ c.in_ok-sort_by_key.ensures.sorted (λ a r q k. search rules))
