use Rattle.script.proofs.DataLemmas.{digits_fit, digits_too_long}
use Rattle.script.proofs.data_words.read_digits.Goals as goal
use Rattle.script.proofs.data_words.read_digits.Goals.{then-are_pairs, else-are_pairs}

pub returns-then-word-clause-too_long : goal.returns-then-word-clause-too_long
returns-then-word-clause-too_long c =
    elim c.if-are_pairs.branch [
      | then-are_pairs w ↦ λ told. digits_too_long c.args.word.now (c.are_pairs.ensures.0 w.if-are_pairs.true) c.if-word-lt2.false c.if-word.true
      | else-are_pairs w ↦ λ told. absurd (cc (told, w.error-is))
    ]

pub returns-in-Some-clause-data : goal.returns-in-Some-clause-data
returns-in-Some-clause-data c =
    let read = rw c.in-Some.is at c.in_ok-bytes.ensures in digits_fit c.args.word.now c.in-Some.bytes.items read c.if-word-lt2.false c.if-word.false
