use Rattle.std.proofs.Common.{sym, ap, ◌∙◌, drop}
use Rattle.accounts_index.specs.Bins.{joined}
use Rattle.accounts_index.proofs.Grouped.{joined_rest}
use Rattle.accounts_index.proofs.Walks.{take_rest}
use Rattle.accounts_index.proofs.groups.rest_of.Goals as goal

pub returns : goal.returns
returns c = ap joined (take_rest c.args.group.now c.min.result) ∙ ap (λ n. joined (drop n c.args.group.now)) c.min.ensures ∙ sym (joined_rest c.args.group.now c.args.place)
