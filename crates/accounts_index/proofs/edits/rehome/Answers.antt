use Rattle.std.proofs.Common.{◌+◌, length, ap, sym, ◌∙◌, refl, arith}
use Rattle.std.proofs.lemmas.Bool.{false≢true}
use Rattle.std.proofs.Common.{cond, eqb}
use Rattle.std.proofs.lemmas.List.{length-map}
use Rattle.slot_list.specs.declared.Version.{Version}
use Rattle.slot_list.specs.Versions.{rehomed, KeySlots}
use Rattle.accounts_index.specs.declared.entry.Entry.{Entry}
use Rattle.accounts_index.specs.Index.{Kept}
use Rattle.accounts_index.specs.Inside.{kept_of, HasRoom, IsUsed}
use Rattle.accounts_index.proofs.Lookups.{kept_gap}
use Rattle.accounts_index.proofs.Changes.{reached, read_reached, IsWith-to, read_kept, read_room, read_used, IsWith-write, AreEntries-write}
use Rattle.accounts_index.proofs.edits.rehome.Goals as goal

pub rehome-requires : goal.rehome-requires
rehome-requires c =
    let es = c.args.entries.now.items in
    let key = c.args.key.now.0 in
    let found = rw c.deref.ensures.value at c.in-Ok.ensures.found in
    let e = reached c.index_mut.result.now c.deref_mut-lists.result.now in
    let read = read_reached es c.in-Ok.found c.index_mut.result.now c.deref_mut-lists.result.now c.deref_mut-lists.ensures.value c.index_mut.ensures.value in
    let lists = e.lists.value in
    rw (read_kept es key c.in-Ok.found found e read) at c.requires.there

pub returns-clause-kept : goal.returns-clause-kept
returns-clause-kept c =
    let es = c.args.entries.now.items in
    let key = c.args.key.now.0 in
    let found = rw c.deref.ensures.value at c.in-Ok.ensures.found in
    let e = reached c.index_mut.result.now c.deref_mut-lists.result.now in
    let read = read_reached es c.in-Ok.found c.index_mut.result.now c.deref_mut-lists.result.now c.deref_mut-lists.ensures.value c.index_mut.ensures.value in
    let lists = e.lists.value in
    let now : Entry = record e { lists = record e.lists { value = record lists { list = c.rehome.new.self } } } in
    let made = ap (λ (l : KeySlots). kept_of (record lists { list = l })) c.rehome.ensures in
    IsWith-to _ _ key _ _ (IsWith-write es key c.in-Ok.found found e read now refl)
    (made ∙ ap (λ (k : Kept). record k { versions = rehomed c.args.slot c.args.place k.versions }) (sym (read_kept es key c.in-Ok.found found e read)))

pub returns-clause-entries : goal.returns-clause-entries
returns-clause-entries c =
    let es = c.args.entries.now.items in
    let key = c.args.key.now.0 in
    let found = rw c.deref.ensures.value at c.in-Ok.ensures.found in
    let e = reached c.index_mut.result.now c.deref_mut-lists.result.now in
    let read = read_reached es c.in-Ok.found c.index_mut.result.now c.deref_mut-lists.result.now c.deref_mut-lists.ensures.value c.index_mut.ensures.value in
    let lists = e.lists.value in
    let now : Entry = record e { lists = record e.lists { value = record lists { list = c.rehome.new.self } } } in
    let room : HasRoom now.lists.value = omega (arith, ap (λ (l : KeySlots). l.spare) c.rehome.ensures, read_room es key c.in-Ok.found found e read c.requires.entries) in
    let used : IsUsed now.lists.value = omega (arith, ap (λ (l : KeySlots). length l.versions + length l.held) c.rehome.ensures, length-map lists.list.versions (λ (v : Version). cond (eqb v.slot c.args.slot) (record v { place = c.args.place }) v), read_used es key c.in-Ok.found found e read c.requires.entries) in
    AreEntries-write es key c.in-Ok.found found e read now refl c.requires.entries room used

-- the key is there
pub unreachable-requires : goal.unreachable-requires
unreachable-requires c =
    let gap = rw c.deref.ensures.value at c.in-Err.ensures.absent in
    false≢true (rw (kept_gap c.args.entries.now.items c.args.key.now.0 c.in-Err.field-0 gap) at c.requires.there)
