use Rattle.std.proofs.Common.{◌∙◌, sym, ap, option_map, filter, map, take, ◌++◌}
use Rattle.accounts_index.specs.Index.{is_crowded}
use Rattle.accounts_index.proofs.Walks.{crowded_after-drop, take_rest, seen_rises}
use Rattle.accounts_index.proofs.walk.crowded_after.Goals as goal

pub returns-clause-first : goal.returns-clause-first
returns-clause-first c =
    let shown = map (λ k. k.0) c.args.into.now.items in
    c.first_crowded.ensures
    ∙ ap (λ es. take c.args.most (shown ++ map (λ e. e.key.0) (filter (λ e. is_crowded e.lists.value.list.versions) es))) (take_rest c.args.entries.now c.start_after-start.result)
    ∙ ap (λ keys. take c.args.most (shown ++ keys)) (sym (crowded_after-drop (option_map (λ k. k.now.0) c.args.after) c.args.entries.now c.start_after-start.result c.start_after-start.ensures.within c.start_after-start.ensures.before c.start_after-start.ensures.from))

pub returns-clause-rise : goal.returns-clause-rise
returns-clause-rise c = seen_rises c.args.entries.now c.requires.rise
