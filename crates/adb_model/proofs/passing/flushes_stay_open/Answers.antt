use Rattle.adb_model.proofs.FlushesStay as stay
use Rattle.adb_model.proofs.passing.flushes_stay_open.Goals as goal

pub returns-clause-same : goal.returns-clause-same
returns-clause-same c = stay.same_flushes

pub returns-clause-begun : goal.returns-clause-begun
returns-clause-begun c = stay.begun

pub returns-clause-id : goal.returns-clause-id
returns-clause-id c = stay.begun_id

pub returns-clause-bytes : goal.returns-clause-bytes
returns-clause-bytes c = stay.begun_bytes

pub returns-clause-refused : goal.returns-clause-refused
returns-clause-refused c = stay.begin_refused

pub returns-clause-ended : goal.returns-clause-ended
returns-clause-ended c = stay.ended

pub returns-clause-end_done : goal.returns-clause-end_done
returns-clause-end_done c = stay.end_done

pub returns-clause-aborted : goal.returns-clause-aborted
returns-clause-aborted c = stay.aborted

pub returns-clause-abort_done : goal.returns-clause-abort_done
returns-clause-abort_done c = stay.abort_done

pub returns-clause-no_end : goal.returns-clause-no_end
returns-clause-no_end c = stay.no_end

pub returns-clause-no_abort : goal.returns-clause-no_abort
returns-clause-no_abort c = stay.no_abort

pub returns-clause-budget : goal.returns-clause-budget
returns-clause-budget c = stay.budget_same
