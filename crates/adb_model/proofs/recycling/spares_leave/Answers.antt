use Rattle.adb_model.proofs.SparesLeave as left
use Rattle.adb_model.proofs.recycling.spares_leave.Goals as goal

pub returns-clause-sound : goal.returns-clause-sound
returns-clause-sound c = left.sound_left

pub returns-clause-once : goal.returns-clause-once
returns-clause-once c = left.once_left

pub returns-clause-fills_once : goal.returns-clause-fills_once
returns-clause-fills_once c = left.fills_left

pub returns-clause-have_bytes : goal.returns-clause-have_bytes
returns-clause-have_bytes c = left.bytes_kept

pub returns-clause-with_id : goal.returns-clause-with_id
returns-clause-with_id c = left.with_id_gone

pub returns-clause-live : goal.returns-clause-live
returns-clause-live c = left.live_same

pub returns-clause-filling : goal.returns-clause-filling
returns-clause-filling c = left.filling_same

pub returns-clause-flush : goal.returns-clause-flush
returns-clause-flush c = left.flush_same

pub returns-clause-held : goal.returns-clause-held
returns-clause-held c = left.held_same

pub returns-clause-bytes : goal.returns-clause-bytes
returns-clause-bytes c = left.bytes_gone

pub returns-clause-storages : goal.returns-clause-storages
returns-clause-storages c = left.length_gone

pub returns-clause-filling_count : goal.returns-clause-filling_count
returns-clause-filling_count c = left.filling_counted

pub returns-clause-live_count : goal.returns-clause-live_count
returns-clause-live_count c = left.live_counted

pub returns-clause-retired_count : goal.returns-clause-retired_count
returns-clause-retired_count c = left.retired_counted

pub returns-clause-row_count : goal.returns-clause-row_count
returns-clause-row_count c = left.rows_counted

pub returns-clause-fewer : goal.returns-clause-fewer
returns-clause-fewer c = left.fewer_spares

pub returns-clause-rest : goal.returns-clause-rest
returns-clause-rest c = left.rest_same

pub returns-clause-none : goal.returns-clause-none
returns-clause-none c = left.none_spare
