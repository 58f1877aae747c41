use Rattle.accounts_index.proofs.Ordered.{joined_ordered}
use Rattle.accounts_index.proofs.index.AccountsIndex.in_order.Goals as goal

pub returns-clause-keys : goal.returns-clause-keys
returns-clause-keys c = joined_ordered _ _ c.self.view_is c.self.invariant.0.bins
