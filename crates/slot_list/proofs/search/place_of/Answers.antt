use Rattle.std.proofs.Common.{rules}
use Rattle.std.proofs.lemmas.List.Sorted.{answers_always}
use Rattle.slot_list.specs.declared.Version.{Version}
use Rattle.slot_list.proofs.Places.{searched}
use Rattle.slot_list.proofs.search.place_of.Goals as goal

pub returns : goal.returns
returns c =
    let facts = c.binary_search_by_key.ensures in
    searched (λ (v : Version). v.slot) c.args.versions.now c.requires c.args.slot c.binary_search_by_key.result facts.bound
    (facts.position (λ v. v.slot) (answers_always _ _ _ (λ f a r g called. search rules)))
