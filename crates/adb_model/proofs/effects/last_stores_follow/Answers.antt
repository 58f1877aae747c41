use Rattle.adb_model.proofs.LastStores.{last_after, last_purged, stored_last}
use Rattle.adb_model.proofs.effects.last_stores_follow.Goals as goal

pub returns-clause-store : goal.returns-clause-store
returns-clause-store c = last_after

pub returns-clause-purge : goal.returns-clause-purge
returns-clause-purge c = last_purged

pub returns-clause-there : goal.returns-clause-there
returns-clause-there c = stored_last
