use Rattle.adb_model.proofs.PairsFollow.{has_purged, cached_purged, present_purged, tomb_purged}
use Rattle.adb_model.proofs.effects.pairs_follow_purges.Goals as goal

pub returns-clause-stored : goal.returns-clause-stored
returns-clause-stored c = has_purged

pub returns-clause-cached : goal.returns-clause-cached
returns-clause-cached c = cached_purged

pub returns-clause-present : goal.returns-clause-present
returns-clause-present c m h slot free s k = present_purged m slot s k h free

pub returns-clause-tomb : goal.returns-clause-tomb
returns-clause-tomb c = tomb_purged
