use Rattle.std.proofs.Common.{ap, ◌∙◌, ◌+◌, ◌++◌, arith, length, map, take, drop, option_map}
use Rattle.std.proofs.lemmas.List.{length-map, length-take}
use Rattle.accounts_index.specs.Bins.{joined, all_bins}
use Rattle.accounts_index.specs.Index.{crowded_after}
use Rattle.accounts_index.proofs.Onward.{crowded_after-split, groups-drop}
use Rattle.accounts_index.proofs.groups.later_crowded.Goals as goal

pub loop-group-preserved : goal.loop-group-preserved
loop-group-preserved c =
    let after = option_map (λ k. k.now.0) c.args.after in
    let found = map (λ k. k.0) c.loop-group.into.items in
    let bins = c.group-item.result.items in
    let split = groups-drop c.args.groups.now c.loop-group.group-index c.loop-group-test.true c.group-item.result c.group-item.is in
    let next = crowded_after-split after (joined bins) _ _ split c.args.most found in
    let first = c.crowded_after.ensures ∙ ap (λ l. take c.args.most (found ++ crowded_after (joined l) after)) c.deref.ensures.value in
    record {
      crowded = ap (λ l. take c.args.most (l ++ crowded_after (joined (all_bins (drop (c.loop-group.group-index + 1) c.args.groups.now))) after)) first ∙ next ∙ c.loop-group.invariant.crowded;
      few = omega (arith, ap length first, length-map c.crowded_after.new.into.items (λ k. k.0), length-take c.args.most (found ++ crowded_after (joined bins) after));
    }
