use Rattle.adb_model.proofs.SnapStorages.{upto_is, ids_differ, first_found, none_waits, all_flushed}
use Rattle.adb_model.proofs.snapping.snaps_begin.Goals as goal

pub returns-clause-storages : goal.returns-clause-storages
returns-clause-storages c = upto_is

pub returns-clause-differ : goal.returns-clause-differ
returns-clause-differ c = ids_differ

pub returns-clause-waits : goal.returns-clause-waits
returns-clause-waits c = first_found

pub returns-clause-none_waits : goal.returns-clause-none_waits
returns-clause-none_waits c = none_waits

pub returns-clause-flushed : goal.returns-clause-flushed
returns-clause-flushed c = all_flushed
