use Rattle.adb_model.proofs.FreshIds.{next_fresh, id_below, next_unpinned, filling_unpinned}
use Rattle.adb_model.proofs.flushing.ids_are_fresh.Goals as goal

pub returns-clause-next : goal.returns-clause-next
returns-clause-next c = next_fresh

pub returns-clause-below : goal.returns-clause-below
returns-clause-below c = id_below

pub returns-clause-next_unpinned : goal.returns-clause-next_unpinned
returns-clause-next_unpinned c = next_unpinned

pub returns-clause-filling_unpinned : goal.returns-clause-filling_unpinned
returns-clause-filling_unpinned c = filling_unpinned
