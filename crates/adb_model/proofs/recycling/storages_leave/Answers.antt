use Rattle.adb_model.proofs.Recycled as left
use Rattle.adb_model.proofs.recycling.storages_leave.Goals as goal

pub returns-clause-with_id : goal.returns-clause-with_id
returns-clause-with_id c = left.with_id_left

pub returns-clause-live : goal.returns-clause-live
returns-clause-live c = left.live_left

pub returns-clause-filling : goal.returns-clause-filling
returns-clause-filling c = left.filling_left

pub returns-clause-flush : goal.returns-clause-flush
returns-clause-flush c = left.flush_left

pub returns-clause-held : goal.returns-clause-held
returns-clause-held c = left.held_left

pub returns-clause-bytes : goal.returns-clause-bytes
returns-clause-bytes c = left.bytes_left

pub returns-clause-storages : goal.returns-clause-storages
returns-clause-storages c = left.length_left

pub returns-clause-filling_count : goal.returns-clause-filling_count
returns-clause-filling_count c = left.filling_counted

pub returns-clause-live_count : goal.returns-clause-live_count
returns-clause-live_count c = left.live_counted

pub returns-clause-retired_count : goal.returns-clause-retired_count
returns-clause-retired_count c = left.retired_counted

pub returns-clause-row_count : goal.returns-clause-row_count
returns-clause-row_count c = left.rows_counted

pub returns-clause-reply : goal.returns-clause-reply
returns-clause-reply c = left.replied
