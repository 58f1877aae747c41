use Rattle.adb_model.proofs.CrowdedKeys.{keys_rise, crowded_is, slots_counted, tomb_is}
use Rattle.adb_model.proofs.cleaning.crowded_keys_follow.Goals as goal

pub returns-clause-rise : goal.returns-clause-rise
returns-clause-rise c = keys_rise

pub returns-clause-each : goal.returns-clause-each
returns-clause-each c = crowded_is

pub returns-clause-slots : goal.returns-clause-slots
returns-clause-slots c = slots_counted

pub returns-clause-tomb : goal.returns-clause-tomb
returns-clause-tomb c = tomb_is
