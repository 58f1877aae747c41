use Rattle.adb_model.proofs.FillsOnce.{fresh_fills, opened_fills, step_fills, history_fills}
use Rattle.adb_model.proofs.shrinking.filling_rows_differ.Goals as goal

pub returns-clause-start : goal.returns-clause-start
returns-clause-start c = fresh_fills

pub returns-clause-open : goal.returns-clause-open
returns-clause-open c = opened_fills

pub returns-clause-step : goal.returns-clause-step
returns-clause-step c = step_fills

pub returns-clause-history : goal.returns-clause-history
returns-clause-history c = history_fills
