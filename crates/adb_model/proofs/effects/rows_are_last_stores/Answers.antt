use Rattle.adb_model.proofs.FlushRows.{account_of_key, rows_differ, a_row_a_key}
use Rattle.adb_model.proofs.effects.rows_are_last_stores.Goals as goal

pub returns-clause-account : goal.returns-clause-account
returns-clause-account c = account_of_key

pub returns-clause-differ : goal.returns-clause-differ
returns-clause-differ c = rows_differ

pub returns-clause-length : goal.returns-clause-length
returns-clause-length c = a_row_a_key
