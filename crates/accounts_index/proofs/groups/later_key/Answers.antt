use Rattle.std.proofs.Common.{sym, ap, ◌∙◌, ◌+◌, drop, option_map}
use Rattle.std.specs.Option.{option_or}
use Rattle.accounts_index.specs.Bins.{joined, all_bins}
use Rattle.accounts_index.specs.Index.{key_after}
use Rattle.accounts_index.proofs.Onward.{key_after-split, groups-drop}
use Rattle.accounts_index.proofs.groups.later_key.Goals as goal

pub returns-in-Some : goal.returns-in-Some
returns-in-Some c =
    let after = option_map (λ k. k.now.0) c.args.after in
    let split = groups-drop c.args.groups.now c.loop-group.group-index c.loop-group-test.true c.group-item.result c.group-item.is in
    let next = key_after-split after (joined c.group-item.result.items) _ _ split in
    let found = sym (ap (option_map (λ k. k.0)) c.in-Some.is) ∙ c.key_after.ensures ∙ ap (λ bins. key_after (joined bins) after) c.deref.ensures.value in
    ap (λ o. option_or o (key_after (joined (all_bins (drop (c.loop-group.group-index + 1) c.args.groups.now))) after)) found ∙ sym next ∙ c.loop-group.invariant

pub loop-group-preserved : goal.loop-group-preserved
loop-group-preserved c =
    let after = option_map (λ k. k.now.0) c.args.after in
    let split = groups-drop c.args.groups.now c.loop-group.group-index c.loop-group-test.true c.group-item.result c.group-item.is in
    let next = key_after-split after (joined c.group-item.result.items) _ _ split in
    let none = sym (ap (option_map (λ k. k.0)) c.in_default.is) ∙ c.key_after.ensures ∙ ap (λ bins. key_after (joined bins) after) c.deref.ensures.value in
    ap (λ o. option_or o (key_after (joined (all_bins (drop (c.loop-group.group-index + 1) c.args.groups.now))) after)) none ∙ sym next ∙ c.loop-group.invariant
