use Rattle.std.proofs.Common.{◌∙◌, eqb, refl, rules}
use Rattle.std.specs.Prelude.{reverse}
use Rattle.std.proofs.lemmas.Iterator.Adapters.{YieldsList-from_rev_slice}
use Rattle.std.proofs.lemmas.Iterator.Search.{YieldsList-from_take_while}
use Rattle.std.proofs.lemmas.Iterator.Consumers.{count_from_yields_List}
use Rattle.std.proofs.lemmas.List.Folds.{length-prefix_len}
use borrow.Author.Tests.{tests}
use Rattle.text_fields.proofs.key.printed_len.Goals as goal

pub returns-clause-len : goal.returns-clause-len
returns-clause-len c =
    let zeros = count_from_yields_List c.take_while.result _ c.count-zeros.ensures.ran
    (YieldsList-from_take_while _ (λ b. eqb b 0) (YieldsList-from_rev_slice c.args.bytes.now (cc)) c.take_while.ensures.closure c.take_while.ensures.done (λ x b q k. search (rules, tests)))
    ∙ length-prefix_len (λ b. eqb b 0) (reverse c.args.bytes.now) in
    rw (c.max.ensures, c.saturating_sub.ensures, zeros) refl
