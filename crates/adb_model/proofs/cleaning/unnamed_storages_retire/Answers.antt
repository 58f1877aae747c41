use Rattle.adb_model.proofs.StoragesRetire as storages
use Rattle.adb_model.proofs.StoragesRetireCounts as counts
use Rattle.adb_model.proofs.cleaning.unnamed_storages_retire.Goals as goal

pub returns-clause-sound : goal.returns-clause-sound
returns-clause-sound c = storages.sound_retired

pub returns-clause-once : goal.returns-clause-once
returns-clause-once c = storages.once_with_retired

pub returns-clause-have_bytes : goal.returns-clause-have_bytes
returns-clause-have_bytes c = storages.bytes_with_retired

pub returns-clause-rest : goal.returns-clause-rest
returns-clause-rest c = storages.rest_retired

pub returns-clause-none : goal.returns-clause-none
returns-clause-none c = storages.none_retires

pub returns-clause-held : goal.returns-clause-held
returns-clause-held c = storages.held_retired

pub returns-clause-with_id : goal.returns-clause-with_id
returns-clause-with_id c = storages.with_id_retired

pub returns-clause-live : goal.returns-clause-live
returns-clause-live c = storages.live_retired

pub returns-clause-filling : goal.returns-clause-filling
returns-clause-filling c = storages.filling_retired

pub returns-clause-flush : goal.returns-clause-flush
returns-clause-flush c = storages.flush_retired

pub returns-clause-bytes : goal.returns-clause-bytes
returns-clause-bytes c = counts.used_retired

pub returns-clause-storages : goal.returns-clause-storages
returns-clause-storages c = counts.length_retired

pub returns-clause-filling_count : goal.returns-clause-filling_count
returns-clause-filling_count c = counts.filling_count

pub returns-clause-live_count : goal.returns-clause-live_count
returns-clause-live_count c = counts.live_count

pub returns-clause-retired_count : goal.returns-clause-retired_count
returns-clause-retired_count c = counts.retired_count

pub returns-clause-row_count : goal.returns-clause-row_count
returns-clause-row_count c = counts.row_count
