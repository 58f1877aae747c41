use Rattle.book_parts.specs.Stands.{HasHistoryWithPins}
use Rattle.book.proofs.tests.a_book_answers_as_the_rows_say.Given as goal

abbrev pub invariant-loop-ask : goal.invariant-loop-ask
invariant-loop-ask g l = HasHistoryWithPins l.book l.pins
