use Rattle.std.proofs.Common.{ℕ}
use Rattle.std.proofs.lemmas.List.Kept.{AllPairs-from_increasing}
use Rattle.slot_list.proofs.Places.{searched}
use Rattle.slot_list.proofs.search.place_of_slot.Goals as goal

pub returns : goal.returns
returns c =
    let facts = c.binary_search.ensures in
    searched (λ (s : ℕ). s) c.args.slots.now (AllPairs-from_increasing _ c.requires) c.args.slot c.binary_search.result facts.bound facts.position
