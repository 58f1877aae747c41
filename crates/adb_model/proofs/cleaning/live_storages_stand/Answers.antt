use Rattle.adb_model.proofs.LiveStorages.{of_slot, in_use, with_own_id, rows_held}
use Rattle.adb_model.proofs.cleaning.live_storages_stand.Goals as goal

pub returns-clause-slot : goal.returns-clause-slot
returns-clause-slot c = of_slot

pub returns-clause-is_live : goal.returns-clause-is_live
returns-clause-is_live c = in_use

pub returns-clause-with_id : goal.returns-clause-with_id
returns-clause-with_id c = with_own_id

pub returns-clause-rows : goal.returns-clause-rows
returns-clause-rows c = rows_held
