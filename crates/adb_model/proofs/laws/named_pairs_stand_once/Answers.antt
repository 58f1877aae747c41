use Rattle.adb_model.proofs.OnceKeeps.{fresh_once, opened_once, step_once, history_once}
use Rattle.adb_model.proofs.laws.named_pairs_stand_once.Goals as goal

pub returns-clause-start : goal.returns-clause-start
returns-clause-start c = fresh_once

pub returns-clause-open : goal.returns-clause-open
returns-clause-open c = opened_once

pub returns-clause-step : goal.returns-clause-step
returns-clause-step c = step_once

pub returns-clause-history : goal.returns-clause-history
returns-clause-history c = history_once
