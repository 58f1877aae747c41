use Rattle.std.proofs.Common.{sym, ap, ◌∙◌, ◌+◌, ◌/◌, ◌%◌, Some, None, drop, option_map}
use Rattle.accounts_index.specs.Bins.{joined, bins_in}
use Rattle.accounts_index.proofs.Onward.{key_after-start}
use Rattle.accounts_index.proofs.Walks.{take_rest}
use Rattle.accounts_index.proofs.groups.key_after.Goals as goal

pub returns-in-Some : goal.returns-in-Some
returns-in-Some c =
    let after = option_map (λ k. k.now.0) c.args.after in
    let start = c.start_of-start.result in
    let rest = c.rest_of-rest.ensures ∙ ap (λ l. joined (drop (start % 256) (bins_in l))) c.deref.ensures.value in
    let found = sym (ap (option_map (λ k. k.0)) c.in-Some.is) ∙ c.key_after.ensures in
    key_after-start c.args.groups.now c.requires after start c.start_of-start.ensures.number c.start_of-start.ensures.within c.index-groups-start.result c.index-groups-start.is _ rest _ (take_rest c.args.groups.now (start / 256 + 1)) (Some c.in-Some.key.0) found

pub returns-in-None : goal.returns-in-None
returns-in-None c =
    let after = option_map (λ k. k.now.0) c.args.after in
    let start = c.start_of-start.result in
    let rest = c.rest_of-rest.ensures ∙ ap (λ l. joined (drop (start % 256) (bins_in l))) c.deref.ensures.value in
    let none = sym (ap (option_map (λ k. k.0)) c.in-None.is) ∙ c.key_after.ensures in
    c.later_key.ensures ∙ key_after-start c.args.groups.now c.requires after start c.start_of-start.ensures.number c.start_of-start.ensures.within c.index-groups-start.result c.index-groups-start.is _ rest _ (take_rest c.args.groups.now (start / 256 + 1)) None none
