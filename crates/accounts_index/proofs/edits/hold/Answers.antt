use Rattle.std.proofs.Common.{List, length, ap, sym, ◌∙◌, refl, arith}
use Rattle.std.proofs.lemmas.Bool.{false≢true}
use Rattle.std.proofs.Common.{ltb, filter}
use Rattle.slot_list.specs.Versions.{with_slot, without_slot, KeySlots}
use Rattle.accounts_index.specs.declared.entry.Entry.{Entry}
use Rattle.accounts_index.specs.Index.{Kept}
use Rattle.accounts_index.specs.Inside.{kept_of, HasRoom, IsUsed}
use Rattle.accounts_index.proofs.Lookups.{kept_gap}
use Rattle.accounts_index.proofs.Changes.{reached, read_reached, IsWith-to, read_kept, read_room, IsWith-write, AreEntries-write, without_there, some_with}
use Rattle.accounts_index.proofs.edits.hold.Goals as goal

pub hold-requires-clause-room : goal.hold-requires-clause-room
hold-requires-clause-room c =
    let es = c.args.entries.now.items in
    let key = c.args.key.now.0 in
    let found = rw c.deref.ensures.value at c.in-Ok.ensures.found in
    let e = reached c.index_mut.result.now c.deref_mut-lists.result.now in
    let read = read_reached es c.in-Ok.place c.index_mut.result.now c.deref_mut-lists.result.now c.deref_mut-lists.ensures.value c.index_mut.ensures.value in
    let lists = e.lists.value in
    let expected = rw (read_kept es key c.in-Ok.place found e read) at c.requires.expected in
    omega (arith, without_there c.args.slot lists.expected.items expected, read_room es key c.in-Ok.place found e read c.requires.entries)

pub hold-requires-clause-absent : goal.hold-requires-clause-absent
hold-requires-clause-absent c =
    let es = c.args.entries.now.items in
    let key = c.args.key.now.0 in
    let found = rw c.deref.ensures.value at c.in-Ok.ensures.found in
    let e = reached c.index_mut.result.now c.deref_mut-lists.result.now in
    let read = read_reached es c.in-Ok.place c.index_mut.result.now c.deref_mut-lists.result.now c.deref_mut-lists.ensures.value c.index_mut.ensures.value in
    let lists = e.lists.value in
    rw (read_kept es key c.in-Ok.place found e read) at c.requires.absent

pub returns-clause-kept : goal.returns-clause-kept
returns-clause-kept c =
    let es = c.args.entries.now.items in
    let key = c.args.key.now.0 in
    let found = rw c.deref.ensures.value at c.in-Ok.ensures.found in
    let e = reached c.index_mut.result.now c.deref_mut-lists.result.now in
    let read = read_reached es c.in-Ok.place c.index_mut.result.now c.deref_mut-lists.result.now c.deref_mut-lists.ensures.value c.index_mut.ensures.value in
    let lists = e.lists.value in
    let now : Entry = record e { lists = record e.lists { value = record lists { list = c.hold.new.self; expected = c.forget.new.slots } } } in
    let made = ap (λ (l : KeySlots). kept_of (record lists { list = l; expected = c.forget.new.slots })) c.hold.ensures in
    let left = ap (λ (x : List _). record { versions = lists.list.versions; held = with_slot c.args.slot lists.list.held; expected = x }) c.forget.ensures in
    IsWith-to _ _ key _ _ (IsWith-write es key c.in-Ok.place found e read now refl)
    (made ∙ left ∙ ap (λ (k : Kept). record k { held = with_slot c.args.slot k.held; expected = without_slot c.args.slot k.expected }) (sym (read_kept es key c.in-Ok.place found e read)))

pub returns-clause-entries : goal.returns-clause-entries
returns-clause-entries c =
    let es = c.args.entries.now.items in
    let key = c.args.key.now.0 in
    let found = rw c.deref.ensures.value at c.in-Ok.ensures.found in
    let e = reached c.index_mut.result.now c.deref_mut-lists.result.now in
    let read = read_reached es c.in-Ok.place c.index_mut.result.now c.deref_mut-lists.result.now c.deref_mut-lists.ensures.value c.index_mut.ensures.value in
    let lists = e.lists.value in
    let expected = rw (read_kept es key c.in-Ok.place found e read) at c.requires.expected in
    let now : Entry = record e { lists = record e.lists { value = record lists { list = c.hold.new.self; expected = c.forget.new.slots } } } in
    let room : HasRoom now.lists.value = omega (arith, ap (λ (l : KeySlots). l.spare) c.hold.ensures, ap length c.forget.ensures, without_there c.args.slot lists.expected.items expected, read_room es key c.in-Ok.place found e read c.requires.entries) in
    let used : IsUsed now.lists.value = omega (arith, ap (λ (l : KeySlots). length l.held) c.hold.ensures, some_with (filter (λ s. ltb s c.args.slot) lists.list.held) (filter (λ s. ltb c.args.slot s) lists.list.held) c.args.slot) in
    AreEntries-write es key c.in-Ok.place found e read now refl c.requires.entries room used

-- the key is there
pub unreachable-requires : goal.unreachable-requires
unreachable-requires c =
    let gap = rw c.deref.ensures.value at c.in-Err.ensures.absent in
    false≢true (rw (kept_gap c.args.entries.now.items c.args.key.now.0 c.in-Err.field-0 gap) at c.requires.expected)
