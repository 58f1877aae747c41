use Rattle.adb_model.proofs.ReclaimsGoOn.{fewer_left, reclaim_flush}
use Rattle.adb_model.proofs.cleaning.reclaims_go_on.Goals as goal

pub returns-clause-fewer : goal.returns-clause-fewer
returns-clause-fewer c = fewer_left

pub returns-clause-flushes : goal.returns-clause-flushes
returns-clause-flushes c = reclaim_flush
