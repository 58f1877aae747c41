use Rattle.accounts_index.proofs.Ordered.{joined_ordered}
use Rattle.accounts_index.proofs.index.AccountsIndex.crowded_after.Goals as goal

pub returns-clause-rise : goal.returns-clause-rise
returns-clause-rise c =
    joined_ordered _ _ c.self.view_is c.self.invariant.0.bins
