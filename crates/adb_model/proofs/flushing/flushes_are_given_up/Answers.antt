use Rattle.adb_model.proofs.FlushDrops as dropped
use Rattle.adb_model.proofs.flushing.flushes_are_given_up.Goals as goal

pub returns-clause-held : goal.returns-clause-held
returns-clause-held c = dropped.held_dropped

pub returns-clause-with_id : goal.returns-clause-with_id
returns-clause-with_id c = dropped.with_id_dropped

pub returns-clause-live : goal.returns-clause-live
returns-clause-live c = dropped.live_dropped

pub returns-clause-filling : goal.returns-clause-filling
returns-clause-filling c = dropped.filling_dropped

pub returns-clause-flush : goal.returns-clause-flush
returns-clause-flush c = dropped.flush_dropped_too

pub returns-clause-bytes : goal.returns-clause-bytes
returns-clause-bytes c = dropped.bytes_dropped

pub returns-clause-storages : goal.returns-clause-storages
returns-clause-storages c = dropped.length_dropped

pub returns-clause-filling_count : goal.returns-clause-filling_count
returns-clause-filling_count c = dropped.filling_counted

pub returns-clause-live_count : goal.returns-clause-live_count
returns-clause-live_count c = dropped.live_counted

pub returns-clause-retired_count : goal.returns-clause-retired_count
returns-clause-retired_count c = dropped.retired_counted

pub returns-clause-row_count : goal.returns-clause-row_count
returns-clause-row_count c = dropped.rows_counted
