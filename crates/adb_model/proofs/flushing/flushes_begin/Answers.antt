use Rattle.adb_model.proofs.FlushBegins.{none_filling, with_id_begun, live_begun, filling_begun, flush_begun, held_begun, bytes_begun, length_begun, filling_counted, live_counted, retired_counted, rows_counted}
use Rattle.adb_model.proofs.flushing.flushes_begin.Goals as goal

pub returns-clause-with_id : goal.returns-clause-with_id
returns-clause-with_id c m h slot rows id = with_id_begun m slot rows h id

pub returns-clause-live : goal.returns-clause-live
returns-clause-live c = live_begun

pub returns-clause-filling : goal.returns-clause-filling
returns-clause-filling c = filling_begun

pub returns-clause-flush : goal.returns-clause-flush
returns-clause-flush c m h slot rows none s = flush_begun m slot rows h none s

pub returns-clause-none_filling : goal.returns-clause-none_filling
returns-clause-none_filling c = none_filling

pub returns-clause-held : goal.returns-clause-held
returns-clause-held c = held_begun

pub returns-clause-bytes : goal.returns-clause-bytes
returns-clause-bytes c = bytes_begun

pub returns-clause-storages : goal.returns-clause-storages
returns-clause-storages c = length_begun

pub returns-clause-filling_count : goal.returns-clause-filling_count
returns-clause-filling_count c = filling_counted

pub returns-clause-live_count : goal.returns-clause-live_count
returns-clause-live_count c = live_counted

pub returns-clause-retired_count : goal.returns-clause-retired_count
returns-clause-retired_count c = retired_counted

pub returns-clause-row_count : goal.returns-clause-row_count
returns-clause-row_count c = rows_counted
