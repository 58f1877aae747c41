use Rattle.adb_model.proofs.FlushEnds as pairs
use Rattle.adb_model.proofs.FlushEndCounts as counts
use Rattle.adb_model.proofs.flushing.flushes_end.Goals as goal

pub returns-clause-present : goal.returns-clause-present
returns-clause-present c = pairs.present_ended

pub returns-clause-cached : goal.returns-clause-cached
returns-clause-cached c = pairs.cached_ended

pub returns-clause-named : goal.returns-clause-named
returns-clause-named c = pairs.named_ended

pub returns-clause-held : goal.returns-clause-held
returns-clause-held c = pairs.held_ended

pub returns-clause-flushed : goal.returns-clause-flushed
returns-clause-flushed c = pairs.flushed_ended

pub returns-clause-with_id : goal.returns-clause-with_id
returns-clause-with_id c = pairs.with_id_ended

pub returns-clause-live : goal.returns-clause-live
returns-clause-live c = pairs.live_ended

pub returns-clause-filling : goal.returns-clause-filling
returns-clause-filling c = pairs.filling_ended

pub returns-clause-flush : goal.returns-clause-flush
returns-clause-flush c = pairs.flush_ended

pub returns-clause-bytes : goal.returns-clause-bytes
returns-clause-bytes c = counts.bytes_ended

pub returns-clause-storages : goal.returns-clause-storages
returns-clause-storages c = counts.length_ended

pub returns-clause-filling_count : goal.returns-clause-filling_count
returns-clause-filling_count c = counts.filling_ended

pub returns-clause-live_count : goal.returns-clause-live_count
returns-clause-live_count c = counts.live_ended

pub returns-clause-retired_count : goal.returns-clause-retired_count
returns-clause-retired_count c = counts.retired_ended

pub returns-clause-row_count : goal.returns-clause-row_count
returns-clause-row_count c = counts.rows_ended

pub returns-clause-named_count : goal.returns-clause-named_count
returns-clause-named_count c = counts.names_ended

pub returns-clause-named_in : goal.returns-clause-named_in
returns-clause-named_in c = counts.named_in_ended

pub returns-clause-cached_count : goal.returns-clause-cached_count
returns-clause-cached_count c = counts.cached_ended
