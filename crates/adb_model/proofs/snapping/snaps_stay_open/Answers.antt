use Rattle.adb_model.proofs.SnapsStay as stay
use Rattle.adb_model.proofs.snapping.snaps_stay_open.Goals as goal

pub returns-clause-pinned : goal.returns-clause-pinned
returns-clause-pinned c = stay.pinned

pub returns-clause-begun : goal.returns-clause-begun
returns-clause-begun c = stay.begun

pub returns-clause-may : goal.returns-clause-may
returns-clause-may c = stay.may

pub returns-clause-ended : goal.returns-clause-ended
returns-clause-ended c = stay.ended
