use Rattle.adb_model.proofs.RowBytes.{fresh_takes, opened_takes, step_takes, history_takes}
use Rattle.adb_model.proofs.counting.rows_have_bytes.Goals as goal

pub returns-clause-start : goal.returns-clause-start
returns-clause-start c = fresh_takes

pub returns-clause-open : goal.returns-clause-open
returns-clause-open c = opened_takes

pub returns-clause-step : goal.returns-clause-step
returns-clause-step c = step_takes

pub returns-clause-history : goal.returns-clause-history
returns-clause-history c = history_takes
