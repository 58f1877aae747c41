use Rattle.std.proofs.Common.{Option, ap, sym, ◌∙◌, map}
use Rattle.std.specs.Option.{is_some, option_map}
use Rattle.std.specs.declared.sync.Arc.{Arc}
use Rattle.adb_model.specs.Account.{Account}
use Rattle.std.proofs.lemmas.Bool.{false≢true}
use Rattle.write_cache.specs.Inside.{row_of}
use Rattle.write_cache.proofs.Entries.{rows-insert_entry, is_some-account_at, account_at-lookup}
use Rattle.write_cache.proofs.slots.put_in_rows.Goals as goal

pub returns-clause-rows : goal.returns-clause-rows
returns-clause-rows c = ap (map row_of) c.in_ok-replaced.ensures.entries ∙ rows-insert_entry c.args.rows.now.entries c.args.key c.args.account

pub returns-clause-replaced : goal.returns-clause-replaced
returns-clause-replaced c =
    ap (λ (o : Option (Arc Account _)). option_map (λ (a : Arc Account _). a.value) o) c.in_ok-replaced.ensures.old ∙ sym (account_at-lookup c.args.rows.now.entries c.args.key)

pub returns-in_err-replaced-clause-replaces : goal.returns-in_err-replaced-clause-replaces
returns-in_err-replaced-clause-replaces c = λ there.
    absurd (false≢true (sym (is_some-account_at c.args.rows.now.entries c.args.key ∙ ap is_some c.in_err-replaced.ensures.absent) ∙ there))
