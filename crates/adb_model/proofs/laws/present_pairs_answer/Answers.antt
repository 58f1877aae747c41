use Rattle.adb_model.proofs.LawOfAnswers.{answers, answer_is_kept, answers_none, answers_greatest}
use Rattle.adb_model.proofs.laws.present_pairs_answer.Goals as goal

pub returns-clause-same : goal.returns-clause-same
returns-clause-same c = answers

pub returns-clause-kept : goal.returns-clause-kept
returns-clause-kept c = answer_is_kept

pub returns-clause-none : goal.returns-clause-none
returns-clause-none c = answers_none

pub returns-clause-some : goal.returns-clause-some
returns-clause-some c = answers_greatest
