use Rattle.adb_model.proofs.ShrinkEndKeeps.{used_same}
use Rattle.adb_model.proofs.ShrinksLeave as left
use Rattle.adb_model.proofs.ShrinkInstalls as installed
use Rattle.adb_model.proofs.shrinking.shrinks_install.Goals as goal

pub returns-clause-held : goal.returns-clause-held
returns-clause-held c = installed.held_installed

pub returns-clause-with_id : goal.returns-clause-with_id
returns-clause-with_id c = installed.with_id_installed

pub returns-clause-live : goal.returns-clause-live
returns-clause-live c = installed.live_installed

pub returns-clause-filling : goal.returns-clause-filling
returns-clause-filling c = installed.filling_installed

pub returns-clause-flush : goal.returns-clause-flush
returns-clause-flush c = installed.flush_installed

pub returns-clause-shrink : goal.returns-clause-shrink
returns-clause-shrink c = left.shrink_closed

pub returns-clause-pinned : goal.returns-clause-pinned
returns-clause-pinned c m h slot g e id = left.pins_left m slot g e h id

pub returns-clause-bytes : goal.returns-clause-bytes
returns-clause-bytes c m g = used_same g m.storages

pub returns-clause-storages : goal.returns-clause-storages
returns-clause-storages c = installed.length_installed

pub returns-clause-filling_count : goal.returns-clause-filling_count
returns-clause-filling_count c = installed.filling_count

pub returns-clause-live_count : goal.returns-clause-live_count
returns-clause-live_count c = installed.live_count

pub returns-clause-retired_count : goal.returns-clause-retired_count
returns-clause-retired_count c = installed.retired_count

pub returns-clause-row_count : goal.returns-clause-row_count
returns-clause-row_count c = installed.row_count

pub returns-clause-pin_total : goal.returns-clause-pin_total
returns-clause-pin_total c m h slot g e = left.pins_counted m slot g e h

pub returns-clause-retired : goal.returns-clause-retired
returns-clause-retired c = installed.retired_installed

pub returns-clause-used : goal.returns-clause-used
returns-clause-used c = installed.used_installed

pub returns-clause-others : goal.returns-clause-others
returns-clause-others c = installed.others_installed
