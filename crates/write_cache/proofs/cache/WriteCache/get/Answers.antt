use Rattle.std.proofs.Common.{Option, ap, sym, ◌∙◌}
use Rattle.std.specs.Option.{option_map}
use Rattle.std.specs.declared.sync.Arc.{Arc}
use Rattle.adb_model.specs.Account.{Account}
use Rattle.write_cache.specs.Rows.{rows, account_at}
use Rattle.write_cache.proofs.Entries.{rows_some, rows_none, account_at-lookup}
use Rattle.write_cache.proofs.cache.WriteCache.get.Goals as goal

pub returns-in-Some : goal.returns-in-Some
returns-in-Some c =
    let es = c.self.inside.slots.entries in
    let key = c.args.key.now in
    let had = rows_some es c.args.slot c.in-Some.rows.now c.in-Some.ensures.value in
    ap (λ (o : Option (Arc Account _)). option_map (λ (a : Arc Account _). a.value) o) c.get-in-Some.ensures.value
    ∙ sym (account_at-lookup c.in-Some.rows.now.entries key) ∙ sym (ap (λ r. account_at r key.0) had)
    ∙ ap (λ v. account_at (rows v c.args.slot) key.0) c.self.view_is

pub returns-in-None : goal.returns-in-None
returns-in-None c =
    sym (ap (λ r. account_at r c.args.key.now.0) (rows_none c.self.inside.slots.entries c.args.slot c.in-None.ensures.value))
    ∙ ap (λ v. account_at (rows v c.args.slot) c.args.key.now.0) c.self.view_is
