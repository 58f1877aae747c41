use Rattle.adb_model.proofs.OpenShrink.{between, current_in_use, not_current}
use Rattle.adb_model.proofs.shrinking.open_shrinks_stand.Goals as goal

pub returns-clause-between : goal.returns-clause-between
returns-clause-between c = between

pub returns-clause-current : goal.returns-clause-current
returns-clause-current c = current_in_use

pub returns-clause-not_current : goal.returns-clause-not_current
returns-clause-not_current c = not_current
