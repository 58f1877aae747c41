use Rattle.adb_model.specs.Shrink.{shrink_rows}
use Rattle.adb_model.proofs.FlushBegins as filled
use Rattle.adb_model.proofs.ShrinkBegins as begun
use Rattle.adb_model.proofs.shrinking.shrinks_begin.Goals as goal

pub returns-clause-with_id : goal.returns-clause-with_id
returns-clause-with_id c m h old id = filled.with_id_begun m old.slot (shrink_rows m old) h id

pub returns-clause-live : goal.returns-clause-live
returns-clause-live c m old s = filled.live_begun m old.slot (shrink_rows m old) s

pub returns-clause-filling : goal.returns-clause-filling
returns-clause-filling c m h slot old e closed s = begun.filling_copy_begun m slot old e closed h s

pub returns-clause-flush : goal.returns-clause-flush
returns-clause-flush c m h old s = begun.flush_begun m old h s

pub returns-clause-shrink : goal.returns-clause-shrink
returns-clause-shrink c = begun.shrink_begun

pub returns-clause-held : goal.returns-clause-held
returns-clause-held c m old s k = filled.held_begun m old.slot (shrink_rows m old) s k

pub returns-clause-pinned : goal.returns-clause-pinned
returns-clause-pinned c = begun.pins_begun

pub returns-clause-bytes : goal.returns-clause-bytes
returns-clause-bytes c m old = filled.bytes_begun m old.slot (shrink_rows m old)

pub returns-clause-storages : goal.returns-clause-storages
returns-clause-storages c m old = filled.length_begun m old.slot (shrink_rows m old)

pub returns-clause-filling_count : goal.returns-clause-filling_count
returns-clause-filling_count c m old = filled.filling_counted m old.slot (shrink_rows m old)

pub returns-clause-live_count : goal.returns-clause-live_count
returns-clause-live_count c m old = filled.live_counted m old.slot (shrink_rows m old)

pub returns-clause-retired_count : goal.returns-clause-retired_count
returns-clause-retired_count c m old = filled.retired_counted m old.slot (shrink_rows m old)

pub returns-clause-row_count : goal.returns-clause-row_count
returns-clause-row_count c m old = filled.rows_counted m old.slot (shrink_rows m old)

pub returns-clause-pin_total : goal.returns-clause-pin_total
returns-clause-pin_total c = begun.pins_counted
