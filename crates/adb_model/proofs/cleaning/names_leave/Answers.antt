use Rattle.adb_model.proofs.NamesLeave as names
use Rattle.adb_model.proofs.cleaning.names_leave.Goals as goal

pub returns-clause-named : goal.returns-clause-named
returns-clause-named c = names.named_left

pub returns-clause-present : goal.returns-clause-present
returns-clause-present c = names.present_left

pub returns-clause-once : goal.returns-clause-once
returns-clause-once c = λ m slot key o. names.once_left m slot key o

pub returns-clause-named_in : goal.returns-clause-named_in
returns-clause-named_in c = names.named_in_left

pub returns-clause-named_count : goal.returns-clause-named_count
returns-clause-named_count c = names.named_count_left
