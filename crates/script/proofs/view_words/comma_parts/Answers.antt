use Rattle.std.proofs.Common.{eqb, rules}
use Rattle.std.proofs.lemmas.Iterator.Consumers.{map_from_collect}
use Rattle.std.proofs.lemmas.Iterator.Splits.{YieldsList-from_slice_split}
use borrow.Author.Tests.{tests}
use Rattle.script.proofs.ViewLemmas.{as_many}
use Rattle.script.proofs.view_words.comma_parts.Goals as goal

pub returns-clause-parts : goal.returns-clause-parts
returns-clause-parts c =
    map_from_collect _ c.collect.ensures.ran (YieldsList-from_slice_split _ (λ b. eqb b 44) c.args.word.now c.split.ensures.rest c.split.ensures.done c.split.ensures.closure (λ x b q k. search (rules, tests)))

pub returns-clause-len : goal.returns-clause-len
returns-clause-len c = as_many (λ p. p.now) c.collect.result _ (returns-clause-parts c)
