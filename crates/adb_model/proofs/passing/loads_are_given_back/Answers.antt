use Rattle.adb_model.proofs.OwnPins.{given_back, cached_changes_nothing, none_changes_nothing, refused_changes_nothing}
use Rattle.adb_model.proofs.passing.loads_are_given_back.Goals as goal

pub returns-clause-back : goal.returns-clause-back
returns-clause-back c = given_back

pub returns-clause-cached : goal.returns-clause-cached
returns-clause-cached c = cached_changes_nothing

pub returns-clause-none : goal.returns-clause-none
returns-clause-none c = none_changes_nothing

pub returns-clause-refused : goal.returns-clause-refused
returns-clause-refused c = refused_changes_nothing
