use Rattle.std.proofs.lemmas.Bool.{false≢true}
use Rattle.book.proofs.Versions.{version_there}
use Rattle.book.proofs.Entering.{no_row_there, has_rows, rows_back}
use Rattle.book.proofs.storing.enter.Goals as goal

pub take_last-requires : goal.take_last-requires
take_last-requires c =
    let index = c.args.index.now in
    let cache = c.args.cache.now in
    let slot = c.args.slot in
    let key = c.args.key.0 in
    let none = no_row_there index cache slot key c.requires (λ there. false≢true (c.in-Err.ensures.replaces (version_there index slot key there))) in
    has_rows cache c.insert.new.self slot key c.args.account.value none c.in_ok-replaced.ensures.rows

pub returns-in-Err-clause-cache : goal.returns-in-Err-clause-cache
returns-in-Err-clause-cache c =
    let index = c.args.index.now in
    let cache = c.args.cache.now in
    let slot = c.args.slot in
    let key = c.args.key.0 in
    let none = no_row_there index cache slot key c.requires (λ there. false≢true (c.in-Err.ensures.replaces (version_there index slot key there))) in
    rows_back cache c.insert.new.self slot key c.args.account.value none c.in_ok-replaced.ensures.rows c.take_last.new.self c.in_ok-replaced.ensures.total c.take_last.ensures.rows c.take_last.ensures.total
