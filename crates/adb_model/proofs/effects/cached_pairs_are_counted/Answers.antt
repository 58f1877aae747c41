use Rattle.adb_model.proofs.CachedCounts.{cached_more, cached_less}
use Rattle.adb_model.proofs.effects.cached_pairs_are_counted.Goals as goal

pub returns-clause-store : goal.returns-clause-store
returns-clause-store c = cached_more

pub returns-clause-purge : goal.returns-clause-purge
returns-clause-purge c = cached_less
