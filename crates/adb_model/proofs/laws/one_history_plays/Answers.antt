use Rattle.adb_model.proofs.OneHistory.{one_history}
use Rattle.adb_model.proofs.laws.one_history_plays.Goals as goal

pub returns : goal.returns
returns c = one_history
