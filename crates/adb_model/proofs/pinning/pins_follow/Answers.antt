use Rattle.adb_model.proofs.PinCounts.{pinned_count, pinned_by, pinned_of, pinned_length, taken_count, taken_by, taken_of, taken_length}
use Rattle.adb_model.proofs.pinning.pins_follow.Goals as goal

pub returns-clause-pinned : goal.returns-clause-pinned
returns-clause-pinned c = pinned_count

pub returns-clause-pinned_by : goal.returns-clause-pinned_by
returns-clause-pinned_by c = pinned_by

pub returns-clause-pinned_of : goal.returns-clause-pinned_of
returns-clause-pinned_of c = pinned_of

pub returns-clause-pinned_length : goal.returns-clause-pinned_length
returns-clause-pinned_length c = pinned_length

pub returns-clause-taken : goal.returns-clause-taken
returns-clause-taken c = taken_count

pub returns-clause-taken_by : goal.returns-clause-taken_by
returns-clause-taken_by c = taken_by

pub returns-clause-taken_of : goal.returns-clause-taken_of
returns-clause-taken_of c = taken_of

pub returns-clause-taken_length : goal.returns-clause-taken_length
returns-clause-taken_length c = taken_length
