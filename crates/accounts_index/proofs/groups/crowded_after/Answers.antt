use Rattle.std.proofs.Common.{ap, ◌∙◌, ◌+◌, ◌++◌, ◌/◌, ◌%◌, take, drop, map, option_map}
use Rattle.accounts_index.specs.Bins.{joined, bins_in}
use Rattle.accounts_index.specs.Index.{crowded_after}
use Rattle.accounts_index.proofs.Onward.{crowded_after-start}
use Rattle.accounts_index.proofs.Walks.{take_rest}
use Rattle.accounts_index.proofs.groups.crowded_after.Goals as goal

pub returns : goal.returns
returns c =
    let after = option_map (λ k. k.now.0) c.args.after in
    let start = c.start_of-start.result in
    let rest = c.rest_of-rest.ensures ∙ ap (λ l. joined (drop (start % 256) (bins_in l))) c.deref.ensures.value in
    let first = c.crowded_after.ensures ∙ ap (λ l. take c.args.most (map (λ k. k.0) l ++ crowded_after (joined c.rest_of-rest.result.now) after)) c.requires.empty in
    c.later_crowded.ensures ∙ crowded_after-start c.args.groups.now c.requires.groups after start c.start_of-start.ensures.number c.start_of-start.ensures.within c.index-groups-start.result c.index-groups-start.is _ rest _ (take_rest c.args.groups.now (start / 256 + 1)) c.args.most _ first
