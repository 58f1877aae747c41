use Rattle.adb_model.proofs.ShrinksStay as stay
use Rattle.adb_model.proofs.shrinking.shrinks_stay_open.Goals as goal

pub returns-clause-begun : goal.returns-clause-begun
returns-clause-begun c = stay.begun

pub returns-clause-ended : goal.returns-clause-ended
returns-clause-ended c = stay.ended

pub returns-clause-aborted : goal.returns-clause-aborted
returns-clause-aborted c = stay.aborted

pub returns-clause-flush_begun : goal.returns-clause-flush_begun
returns-clause-flush_begun c = stay.flush_begun

pub returns-clause-flush_ended : goal.returns-clause-flush_ended
returns-clause-flush_ended c = stay.flush_ended

pub returns-clause-flush_aborted : goal.returns-clause-flush_aborted
returns-clause-flush_aborted c = stay.flush_aborted
