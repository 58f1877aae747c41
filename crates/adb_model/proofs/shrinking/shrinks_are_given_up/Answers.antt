use Rattle.adb_model.proofs.ShrinksLeave as left
use Rattle.adb_model.proofs.ShrinkDrops as dropped
use Rattle.adb_model.proofs.shrinking.shrinks_are_given_up.Goals as goal

pub returns-clause-held : goal.returns-clause-held
returns-clause-held c = dropped.held_dropped

pub returns-clause-with_id : goal.returns-clause-with_id
returns-clause-with_id c = dropped.with_id_dropped

pub returns-clause-live : goal.returns-clause-live
returns-clause-live c = dropped.live_dropped

pub returns-clause-filling : goal.returns-clause-filling
returns-clause-filling c = dropped.filling_dropped

pub returns-clause-flush : goal.returns-clause-flush
returns-clause-flush c = dropped.flush_dropped

pub returns-clause-shrink : goal.returns-clause-shrink
returns-clause-shrink c = left.shrink_closed

pub returns-clause-pinned : goal.returns-clause-pinned
returns-clause-pinned c m h slot g e id = left.pins_left m slot g e h id

pub returns-clause-bytes : goal.returns-clause-bytes
returns-clause-bytes c = dropped.bytes_dropped

pub returns-clause-storages : goal.returns-clause-storages
returns-clause-storages c = dropped.length_dropped

pub returns-clause-filling_count : goal.returns-clause-filling_count
returns-clause-filling_count c = dropped.filling_count

pub returns-clause-live_count : goal.returns-clause-live_count
returns-clause-live_count c = dropped.live_count

pub returns-clause-retired_count : goal.returns-clause-retired_count
returns-clause-retired_count c = dropped.retired_count

pub returns-clause-row_count : goal.returns-clause-row_count
returns-clause-row_count c = dropped.row_count

pub returns-clause-pin_total : goal.returns-clause-pin_total
returns-clause-pin_total c m h slot g e = left.pins_counted m slot g e h
