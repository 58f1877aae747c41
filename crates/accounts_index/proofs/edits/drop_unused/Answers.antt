use Rattle.std.proofs.Common.{◌≡◌, true, sym, ◌∙◌}
use Rattle.std.proofs.lemmas.Bool.{true≢false}
use Rattle.accounts_index.proofs.Changes.{kept-remove}
use Rattle.accounts_index.proofs.edits.drop_unused.Goals as goal

pub returns-then-not-is_used-clause-kept : goal.returns-then-not-is_used-clause-kept
returns-then-not-is_used-clause-kept c = λ q.
    let es = c.args.entries.now.items in
    rw c.remove.ensures.items (kept-remove es c.args.place c.index.result.now c.requires.rise c.requires.in_range c.index.ensures
    (λ used. let test : c.is_used.result ≡ true = c.is_used.ensures.1 used in true≢false (sym test ∙ c.if-not-is_used.true)) q)
