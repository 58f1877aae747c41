use Rattle.adb_model.proofs.ReclaimKeeps as reclaim
use Rattle.adb_model.proofs.OnceKeeps.{once_dropped, once_retired}
use Rattle.adb_model.proofs.cleaning.reclaims_are_sound.Goals as goal

pub returns-clause-midway : goal.returns-clause-midway
returns-clause-midway c = reclaim.midway

pub returns-clause-shadowed : goal.returns-clause-shadowed
returns-clause-shadowed c = λ m keys h. reclaim.shadowed_dropped m h keys

pub returns-clause-spent : goal.returns-clause-spent
returns-clause-spent c = λ m keys h. reclaim.spent_dropped m h keys

pub returns-clause-retired : goal.returns-clause-retired
returns-clause-retired c = reclaim.retires

pub returns-clause-once_shadowed : goal.returns-clause-once_shadowed
returns-clause-once_shadowed c = λ m keys o. once_dropped m _ o

pub returns-clause-once_spent : goal.returns-clause-once_spent
returns-clause-once_spent c = λ m keys o. once_dropped m _ o

pub returns-clause-once_retired : goal.returns-clause-once_retired
returns-clause-once_retired c = once_retired
