use Rattle.std.proofs.Common.{List, ap, sym, ◌∙◌, refl}
use Rattle.slot_list.specs.Versions.{without_slot}
use Rattle.accounts_index.specs.declared.entry.Entry.{Entry}
use Rattle.accounts_index.specs.Index.{Kept}
use Rattle.accounts_index.proofs.Lookups.{kept_gap}
use Rattle.accounts_index.proofs.Changes.{reached, read_reached, IsWith-to, IsWith-same, read_kept, IsWith-write}
use Rattle.accounts_index.proofs.edits.unhold.Goals as goal

pub returns-in-Ok-clause-kept : goal.returns-in-Ok-clause-kept
returns-in-Ok-clause-kept c = λ q.
    let es = c.args.entries.now.items in
    let key = c.args.key.now.0 in
    let found = rw c.deref.ensures.value at c.in-Ok.ensures.found in
    let e = reached c.index_mut.result.now c.deref_mut-lists.result.now in
    let read = read_reached es c.in-Ok.place c.index_mut.result.now c.deref_mut-lists.result.now c.deref_mut-lists.ensures.value c.index_mut.ensures.value in
    let lists = e.lists.value in
    let now : Entry = record e { lists = record e.lists { value = record lists { list = c.unhold.new.self } } } in
    let made = ap (λ (x : List _). record { versions = c.unhold.new.self.versions; held = x; expected = lists.expected.items }) c.unhold.ensures.held
    ∙ ap (λ (x : List _). record { versions = x; held = without_slot c.args.slot lists.list.held; expected = lists.expected.items }) c.unhold.ensures.versions in
    c.drop_unused.ensures.kept q ∙ IsWith-to _ _ key _ _ (IsWith-write es key c.in-Ok.place found e read now refl)
    (made ∙ ap (λ (k : Kept). record k { held = without_slot c.args.slot k.held }) (sym (read_kept es key c.in-Ok.place found e read))) q

-- the key is not there, and nothing is kept of it
pub returns-in_default-clause-kept : goal.returns-in_default-clause-kept
returns-in_default-clause-kept c = λ q.
    let es = c.args.entries.now.items in
    let key = c.args.key.now.0 in
    let gap = rw c.deref.ensures.value at c.in_default.ensures.absent in
    IsWith-to _ _ key _ _ (IsWith-same es key c.in_default.field-0 gap)
    (sym (ap (λ (k : Kept). record k { held = without_slot c.args.slot k.held }) (kept_gap es key c.in_default.field-0 gap))) q
