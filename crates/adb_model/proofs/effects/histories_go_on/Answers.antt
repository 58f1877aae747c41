use Rattle.std.proofs.Common.{[], ◌∷◌}
use Rattle.adb_model.proofs.Histories.{state_append, legal_append, legal_front, legal_rest, legal_push, passes_push}
use Rattle.adb_model.proofs.effects.histories_go_on.Goals as goal

pub returns-clause-state : goal.returns-clause-state
returns-clause-state c m h e = state_append m h (e ∷ [])

pub returns-clause-legal : goal.returns-clause-legal
returns-clause-legal c = legal_push

pub returns-clause-passes : goal.returns-clause-passes
returns-clause-passes c = passes_push

pub returns-clause-state_of_both : goal.returns-clause-state_of_both
returns-clause-state_of_both c = state_append

pub returns-clause-both_legal : goal.returns-clause-both_legal
returns-clause-both_legal c = legal_append

pub returns-clause-each_legal : goal.returns-clause-each_legal
returns-clause-each_legal c m h g legal = (legal_front m h g legal, legal_rest m h g legal)
