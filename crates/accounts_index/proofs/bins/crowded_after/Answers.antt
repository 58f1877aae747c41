use Rattle.std.proofs.Common.{ap, ◌∙◌, ◌+◌, ◌++◌, arith, length, map, take, drop, option_map}
use Rattle.std.proofs.lemmas.List.{length-map, length-take}
use Rattle.accounts_index.specs.Bins.{joined}
use Rattle.accounts_index.specs.Index.{crowded_after}
use Rattle.accounts_index.proofs.Onward.{crowded_after-split, joined-drop}
use Rattle.accounts_index.proofs.bins.crowded_after.Goals as goal

pub loop-bin-preserved : goal.loop-bin-preserved
loop-bin-preserved c =
    let after = option_map (λ k. k.now.0) c.args.after in
    let found = map (λ k. k.0) c.loop-bin.into.items in
    let split = joined-drop c.args.bins.now c.loop-bin.bin-index c.loop-bin-test.true c.bin-item.result c.bin-item.is in
    let next = crowded_after-split after c.bin-item.result _ _ split c.args.most found in
    record {
      crowded = ap (λ l. take c.args.most (l ++ crowded_after (joined (drop (c.loop-bin.bin-index + 1) c.args.bins.now)) after)) c.crowded_after.ensures.first ∙ next ∙ c.loop-bin.invariant.crowded;
      few = omega (arith, ap length c.crowded_after.ensures.first, length-map c.crowded_after.new.into.items (λ k. k.0), length-take c.args.most (found ++ crowded_after c.bin-item.result after));
    }
