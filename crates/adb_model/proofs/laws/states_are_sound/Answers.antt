use Rattle.adb_model.proofs.OpenedSound.{opened_sound}
use Rattle.adb_model.proofs.StepKeeps.{fresh_sound, step_keeps, history_keeps}
use Rattle.adb_model.proofs.laws.states_are_sound.Goals as goal

pub returns-clause-start : goal.returns-clause-start
returns-clause-start c = fresh_sound

pub returns-clause-step : goal.returns-clause-step
returns-clause-step c = step_keeps

pub returns-clause-history : goal.returns-clause-history
returns-clause-history c = history_keeps

pub returns-clause-open : goal.returns-clause-open
returns-clause-open c = opened_sound
