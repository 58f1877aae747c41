use Rattle.adb_model.proofs.PairsFollow.{has_after, cached_after, present_after, tomb_after}
use Rattle.adb_model.proofs.effects.pairs_follow_stores.Goals as goal

pub returns-clause-stored : goal.returns-clause-stored
returns-clause-stored c = has_after

pub returns-clause-cached : goal.returns-clause-cached
returns-clause-cached c m slot key account free s k = cached_after m slot key account s k free

pub returns-clause-present : goal.returns-clause-present
returns-clause-present c m slot key account free s k = present_after m slot key account s k free

pub returns-clause-tomb : goal.returns-clause-tomb
returns-clause-tomb c = tomb_after
