use Rattle.adb_model.proofs.NamedRows.{rows_within, names_within, named_in_within}
use Rattle.adb_model.proofs.counting.counts_are_bounded.Goals as goal

pub returns-clause-rows : goal.returns-clause-rows
returns-clause-rows c = rows_within

pub returns-clause-named : goal.returns-clause-named
returns-clause-named c = names_within

pub returns-clause-named_in : goal.returns-clause-named_in
returns-clause-named_in c = named_in_within
