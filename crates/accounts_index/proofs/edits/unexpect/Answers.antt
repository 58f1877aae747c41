use Rattle.std.proofs.Common.{List, length, ap, sym, ◌∙◌, refl, arith}
use Rattle.slot_list.specs.Versions.{without_slot}
use Rattle.accounts_index.specs.declared.entry.Entry.{Entry}
use Rattle.accounts_index.specs.Index.{Kept}
use Rattle.accounts_index.specs.Inside.{HasRoom}
use Rattle.accounts_index.proofs.Lookups.{kept_gap}
use Rattle.accounts_index.proofs.Changes.{reached, read_reached, IsWith-to, IsWith-same, read_kept, read_room, IsWith-write, AreEntriesBut-write, without_le}
use Rattle.accounts_index.proofs.edits.unexpect.Goals as goal

pub drop_unused-requires : goal.drop_unused-requires
drop_unused-requires c =
    let es = c.args.entries.now.items in
    let key = c.args.key.now.0 in
    let found = rw c.deref.ensures.value at c.in-Ok.ensures.found in
    let e = reached c.index_mut.result.now c.deref_mut-lists.result.now in
    let read = read_reached es c.in-Ok.place c.index_mut.result.now c.deref_mut-lists.result.now c.deref_mut-lists.ensures.value c.index_mut.ensures.value in
    let lists = e.lists.value in
    let now : Entry = record e { lists = record e.lists { value = record lists { expected = c.forget.new.slots } } } in
    let room : HasRoom now.lists.value = omega (arith, ap length c.forget.ensures, without_le c.args.slot lists.expected.items, read_room es key c.in-Ok.place found e read c.requires) in
    AreEntriesBut-write es key c.in-Ok.place found e read now refl c.requires room

pub returns-in-Ok-clause-kept : goal.returns-in-Ok-clause-kept
returns-in-Ok-clause-kept c = λ q.
    let es = c.args.entries.now.items in
    let key = c.args.key.now.0 in
    let found = rw c.deref.ensures.value at c.in-Ok.ensures.found in
    let e = reached c.index_mut.result.now c.deref_mut-lists.result.now in
    let read = read_reached es c.in-Ok.place c.index_mut.result.now c.deref_mut-lists.result.now c.deref_mut-lists.ensures.value c.index_mut.ensures.value in
    let lists = e.lists.value in
    let now : Entry = record e { lists = record e.lists { value = record lists { expected = c.forget.new.slots } } } in
    let made = ap (λ (x : List _). record { versions = lists.list.versions; held = lists.list.held; expected = x }) c.forget.ensures in
    c.drop_unused.ensures.kept q ∙ IsWith-to _ _ key _ _ (IsWith-write es key c.in-Ok.place found e read now refl)
    (made ∙ ap (λ (k : Kept). record k { expected = without_slot c.args.slot k.expected }) (sym (read_kept es key c.in-Ok.place found e read))) q

-- the key is not there, and nothing is kept of it
pub returns-in_default-clause-kept : goal.returns-in_default-clause-kept
returns-in_default-clause-kept c = λ q.
    let es = c.args.entries.now.items in
    let key = c.args.key.now.0 in
    let gap = rw c.deref.ensures.value at c.in_default.ensures.absent in
    IsWith-to _ _ key _ _ (IsWith-same es key c.in_default.field-0 gap)
    (sym (ap (λ (k : Kept). record k { expected = without_slot c.args.slot k.expected }) (kept_gap es key c.in_default.field-0 gap))) q
