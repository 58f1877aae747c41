use Rattle.adb_model.proofs.StoreRows.{rows_here, rows_elsewhere}
use Rattle.adb_model.proofs.FlushRows.{rows_purged}
use Rattle.adb_model.proofs.effects.rows_follow_stores.Goals as goal

pub returns-clause-here : goal.returns-clause-here
returns-clause-here c = rows_here

pub returns-clause-elsewhere : goal.returns-clause-elsewhere
returns-clause-elsewhere c = rows_elsewhere

pub returns-clause-purge : goal.returns-clause-purge
returns-clause-purge c = rows_purged
