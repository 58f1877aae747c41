use Rattle.adb_model.proofs.CopiedRows as copied
use Rattle.adb_model.proofs.CopiedCount.{rows_counted}
use Rattle.adb_model.proofs.shrinking.shrinks_copy_named_rows.Goals as goal

pub returns-clause-slot : goal.returns-clause-slot
returns-clause-slot c m slot old e = (copied.in_use m slot old e).at

pub returns-clause-keys : goal.returns-clause-keys
returns-clause-keys c = copied.keys_named

pub returns-clause-differ : goal.returns-clause-differ
returns-clause-differ c = copied.keys_differ

pub returns-clause-accounts : goal.returns-clause-accounts
returns-clause-accounts c = copied.accounts_last

pub returns-clause-last : goal.returns-clause-last
returns-clause-last c = copied.lasts

pub returns-clause-flushed : goal.returns-clause-flushed
returns-clause-flushed c = copied.flushed

pub returns-clause-no_flush : goal.returns-clause-no_flush
returns-clause-no_flush c = copied.no_flush

pub returns-clause-none_filling : goal.returns-clause-none_filling
returns-clause-none_filling c = copied.none_filling

pub returns-clause-count : goal.returns-clause-count
returns-clause-count c = rows_counted
