use Rattle.std.proofs.Common.{◌∙◌, sym, ap, option_map, length, find, nat_lt}
use Rattle.accounts_index.proofs.Walks.{key_after-drop, take_rest, seen_rises}
use Rattle.accounts_index.proofs.walk.key_after.Goals as goal

pub returns-clause-first : goal.returns-clause-first
returns-clause-first c =
    c.first_present.ensures
    ∙ ap (λ es. option_map (λ e. e.key.0) (find (λ e. nat_lt 0 (length e.lists.value.list.versions)) es)) (take_rest c.args.entries.now c.start_after-start.result)
    ∙ sym (key_after-drop (option_map (λ k. k.now.0) c.args.after) c.args.entries.now c.start_after-start.result c.start_after-start.ensures.within c.start_after-start.ensures.before c.start_after-start.ensures.from)

pub returns-clause-rise : goal.returns-clause-rise
returns-clause-rise c = seen_rises c.args.entries.now c.requires
