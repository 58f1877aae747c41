use Rattle.adb_model.proofs.ShadowedPairs.{shadowed_sound, shadowed_others, shadowed_rest, no_shadowed}
use Rattle.adb_model.proofs.cleaning.shadowed_pairs_leave.Goals as goal

pub returns-clause-sound : goal.returns-clause-sound
returns-clause-sound c = shadowed_sound

pub returns-clause-others : goal.returns-clause-others
returns-clause-others c = shadowed_others

pub returns-clause-rest : goal.returns-clause-rest
returns-clause-rest c = shadowed_rest

pub returns-clause-none : goal.returns-clause-none
returns-clause-none c = no_shadowed
