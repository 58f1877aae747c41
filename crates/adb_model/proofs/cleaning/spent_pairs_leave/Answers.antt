use Rattle.adb_model.proofs.SpentPairs.{spent_sound, spent_others, spent_rest, no_spent}
use Rattle.adb_model.proofs.cleaning.spent_pairs_leave.Goals as goal

pub returns-clause-sound : goal.returns-clause-sound
returns-clause-sound c = spent_sound

pub returns-clause-others : goal.returns-clause-others
returns-clause-others c = spent_others

pub returns-clause-rest : goal.returns-clause-rest
returns-clause-rest c = spent_rest

pub returns-clause-none : goal.returns-clause-none
returns-clause-none c = no_spent
