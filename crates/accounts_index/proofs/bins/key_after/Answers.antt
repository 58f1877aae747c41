use Rattle.std.proofs.Common.{sym, ap, ◌∙◌, ◌+◌, drop, option_map}
use Rattle.std.specs.Option.{option_or}
use Rattle.accounts_index.specs.Bins.{joined}
use Rattle.accounts_index.specs.Index.{key_after}
use Rattle.accounts_index.proofs.Onward.{key_after-split, joined-drop}
use Rattle.accounts_index.proofs.bins.key_after.Goals as goal

pub returns-in-Some : goal.returns-in-Some
returns-in-Some c =
    let after = option_map (λ k. k.now.0) c.args.after in
    let split = joined-drop c.args.bins.now c.loop-bin.bin-index c.loop-bin-test.true c.bin-item.result c.bin-item.is in
    let next = key_after-split after c.bin-item.result _ _ split in
    ap (λ o. option_or o (key_after (joined (drop (c.loop-bin.bin-index + 1) c.args.bins.now)) after)) c.in-Some.ensures.first ∙ sym next ∙ c.loop-bin.invariant

pub loop-bin-preserved : goal.loop-bin-preserved
loop-bin-preserved c =
    let after = option_map (λ k. k.now.0) c.args.after in
    let split = joined-drop c.args.bins.now c.loop-bin.bin-index c.loop-bin-test.true c.bin-item.result c.bin-item.is in
    let next = key_after-split after c.bin-item.result _ _ split in
    let none = sym (ap (option_map (λ k. k.0)) c.in_default.is) ∙ c.key_after.ensures.first in
    ap (λ o. option_or o (key_after (joined (drop (c.loop-bin.bin-index + 1) c.args.bins.now)) after)) none ∙ sym next ∙ c.loop-bin.invariant
