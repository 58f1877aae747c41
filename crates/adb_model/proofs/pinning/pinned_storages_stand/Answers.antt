use Rattle.adb_model.proofs.PinCounts.{own_pins, pinned_some, some_pins, pinned_there, pinned_filled, few_pins, few_shrinks, few_counted}
use Rattle.adb_model.proofs.pinning.pinned_storages_stand.Goals as goal

pub returns-clause-own : goal.returns-clause-own
returns-clause-own c = own_pins

pub returns-clause-counted : goal.returns-clause-counted
returns-clause-counted c = pinned_some

pub returns-clause-own_counted : goal.returns-clause-own_counted
returns-clause-own_counted c = some_pins

pub returns-clause-there : goal.returns-clause-there
returns-clause-there c = pinned_there

pub returns-clause-filled : goal.returns-clause-filled
returns-clause-filled c = pinned_filled

pub returns-clause-few : goal.returns-clause-few
returns-clause-few c = few_pins

pub returns-clause-few_shrinks : goal.returns-clause-few_shrinks
returns-clause-few_shrinks c = few_shrinks

pub returns-clause-few_counted : goal.returns-clause-few_counted
returns-clause-few_counted c = few_counted
