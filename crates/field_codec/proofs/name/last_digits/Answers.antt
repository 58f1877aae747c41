use Rattle.std.proofs.Common.{ℕ, ◌-◌, length, drop, ap, ◌∙◌, rules}
use Rattle.std.specs.Prelude.{reverse}
use Rattle.std.specs.Char.{is_ascii_digit}
use Rattle.std.proofs.lemmas.Iterator.Adapters.{YieldsList-from_rev_slice}
use Rattle.std.proofs.lemmas.Iterator.Search.{YieldsList-from_take_while}
use Rattle.std.proofs.lemmas.Iterator.Consumers.{count_from_yields_List}
use Rattle.std.proofs.lemmas.List.Folds.{length-prefix_len}
use borrow.Author.Tests.{tests}
use Rattle.field_codec.proofs.name.last_digits.Goals as goal

pub returns : goal.returns
returns c =
    let count = count_from_yields_List c.take_while.result _ c.count-count.ensures.ran
    (YieldsList-from_take_while _ (λ b. is_ascii_digit b) (YieldsList-from_rev_slice c.args.path.now (cc)) c.take_while.ensures.closure c.take_while.ensures.done (λ x b q k. search (rules, tests)))
    ∙ length-prefix_len (λ b. is_ascii_digit b) (reverse c.args.path.now) in
    c.split_at.ensures.back ∙ ap (λ (n : ℕ). drop (length c.args.path.now - n) c.args.path.now) count
