use Rattle.std.proofs.Common.{ap, refl, subst, sym}
use Rattle.accounts_index.specs.declared.entry.Entry.{Entry}
use Rattle.accounts_index.specs.Inside.{kept_of, HasRoom, IsUsed}
use Rattle.accounts_index.proofs.Lookups.{IsWith-insert}
use Rattle.accounts_index.proofs.Changes.{IsWith-to, AreEntries-new}
use Rattle.accounts_index.proofs.edits.insert.Goals as goal

pub returns-clause-ok : goal.returns-clause-ok
returns-clause-ok c =
    let key = c.args.key.0 in
    let now : Entry = record { key = c.args.key; lists = c.in_ok-lists.lists } in
    rw c.in_ok-insert.ensures.items (IsWith-to _ _ key _ _ (IsWith-insert c.args.entries.now.items key c.args.place c.requires.gap now refl) (ap kept_of c.in_ok-lists.ensures.ok))

pub returns-clause-entries : goal.returns-clause-entries
returns-clause-entries c =
    let now : Entry = record { key = c.args.key; lists = c.in_ok-lists.lists } in
    let room = subst HasRoom (sym c.in_ok-lists.ensures.ok) c.requires.room in
    let used = subst IsUsed (sym c.in_ok-lists.ensures.ok) c.requires.used in
    rw c.in_ok-insert.ensures.items (AreEntries-new c.args.entries.now.items c.args.key.0 c.args.place c.requires.gap now refl c.requires.entries room used)
