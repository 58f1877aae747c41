use Rattle.std.proofs.Common.{ap, sym, ◌∙◌, refl}
use Rattle.std.proofs.lemmas.Bool.{false≢true}
use Rattle.slot_list.specs.Versions.{without, KeySlots}
use Rattle.accounts_index.specs.declared.entry.Entry.{Entry}
use Rattle.accounts_index.specs.Index.{Kept}
use Rattle.accounts_index.specs.Inside.{kept_of}
use Rattle.accounts_index.proofs.Lookups.{kept_gap}
use Rattle.accounts_index.proofs.Changes.{reached, read_reached, IsWith-to, read_kept, IsWith-write}
use Rattle.accounts_index.proofs.edits.drop_version.Goals as goal

pub returns-clause-kept : goal.returns-clause-kept
returns-clause-kept c = λ q.
    let es = c.args.entries.now.items in
    let key = c.args.key.now.0 in
    let found = rw c.deref.ensures.value at c.in-Ok.ensures.found in
    let e = reached c.index_mut.result.now c.deref_mut-lists.result.now in
    let read = read_reached es c.in-Ok.place c.index_mut.result.now c.deref_mut-lists.result.now c.deref_mut-lists.ensures.value c.index_mut.ensures.value in
    let lists = e.lists.value in
    let now : Entry = record e { lists = record e.lists { value = record lists { list = c.take.new.self } } } in
    let made = ap (λ (l : KeySlots). kept_of (record lists { list = l })) c.take.ensures.list in
    c.drop_unused.ensures.kept q ∙ IsWith-to _ _ key _ _ (IsWith-write es key c.in-Ok.place found e read now refl)
    (made ∙ ap (λ (k : Kept). record k { versions = without c.args.slot k.versions }) (sym (read_kept es key c.in-Ok.place found e read))) q

-- the key is there
pub unreachable-requires : goal.unreachable-requires
unreachable-requires c =
    let gap = rw c.deref.ensures.value at c.in-Err.ensures.absent in
    false≢true (rw (kept_gap c.args.entries.now.items c.args.key.now.0 c.in-Err.field-0 gap) at c.requires.there)
