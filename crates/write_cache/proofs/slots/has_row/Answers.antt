use Rattle.std.proofs.Common.{ap, sym, ◌∙◌}
use Rattle.std.specs.Option.{is_some}
use Rattle.write_cache.specs.Rows.{account_at}
use Rattle.write_cache.proofs.Entries.{rows_some, rows_none, is_some-account_at}
use Rattle.write_cache.proofs.slots.has_row.Goals as goal

pub returns-in-Some : goal.returns-in-Some
returns-in-Some c =
    let is = rows_some c.args.slots.now.entries c.args.slot c.in-Some.rows.now c.in-Some.ensures.value in
    c.contains_key.ensures ∙ sym (ap (λ r. is_some (account_at r c.args.key.now.0)) is ∙ is_some-account_at c.in-Some.rows.now.entries c.args.key.now)

pub returns-in-None : goal.returns-in-None
returns-in-None c = sym (ap (λ r. is_some (account_at r c.args.key.now.0)) (rows_none c.args.slots.now.entries c.args.slot c.in-None.ensures.value))
