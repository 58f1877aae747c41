use Rattle.std.proofs.Common.{◌≡◌, ◌+◌, [], ◌∷◌, length, filter, ltb, ap, sym, ◌∙◌, refl, arith}
use Rattle.std.proofs.lemmas.Bool.{false≢true}
use Rattle.std.proofs.lemmas.Result.{on_ok_weaker, on_err_weaker}
use Rattle.slot_list.specs.Versions.{put, KeySlots}
use Rattle.accounts_index.specs.declared.entry.Entry.{Entry}
use Rattle.accounts_index.specs.Index.{Kept}
use Rattle.accounts_index.specs.Inside.{kept_of, HasRoom, IsUsed}
use Rattle.accounts_index.proofs.Lookups.{kept_gap}
use Rattle.accounts_index.proofs.Changes.{reached, read_reached, IsWith-to, read_kept, read_room, read_used, IsWith-write, AreEntries-write, seen_same, some_with, either}
use Rattle.accounts_index.proofs.edits.upsert.Goals as goal

-- ---- the key is there

pub returns-in-Ok-clause-ok : goal.returns-in-Ok-clause-ok
returns-in-Ok-clause-ok c =
    let es = c.args.entries.now.items in
    let key = c.args.key.now.0 in
    let found = rw c.deref.ensures.value at c.in-Ok.ensures.found in
    let e = reached c.index_mut.result.now c.deref_mut-lists.result.now in
    let read = read_reached es c.in-Ok.place c.index_mut.result.now c.deref_mut-lists.result.now c.deref_mut-lists.ensures.value c.index_mut.ensures.value in
    let lists = e.lists.value in
    let now : Entry = record e { lists = record e.lists { value = record lists { list = c.put.new.self } } } in
    on_ok_weaker c.put.result (λ made.
    IsWith-to _ _ key _ _ (IsWith-write es key c.in-Ok.place found e read now refl)
    (ap (λ (l : KeySlots). kept_of (record lists { list = l })) made
    ∙ ap (λ (k : Kept). record k { versions = put c.args.version k.versions }) (sym (read_kept es key c.in-Ok.place found e read)))) c.put.ensures.ok

pub returns-in-Ok-clause-err : goal.returns-in-Ok-clause-err
returns-in-Ok-clause-err c =
    let es = c.args.entries.now.items in
    let found = rw c.deref.ensures.value at c.in-Ok.ensures.found in
    let e = reached c.index_mut.result.now c.deref_mut-lists.result.now in
    let read = read_reached es c.in-Ok.place c.index_mut.result.now c.deref_mut-lists.result.now c.deref_mut-lists.ensures.value c.index_mut.ensures.value in
    let lists = e.lists.value in
    let now : Entry = record e { lists = record e.lists { value = record lists { list = c.put.new.self } } } in
    on_err_weaker c.put.result (λ same.
    seen_same es c.in-Ok.place e now found.in_range read refl
    (ap (λ (l : KeySlots). kept_of (record lists { list = l })) same)) c.put.ensures.err

pub returns-in-Ok-clause-replaces : goal.returns-in-Ok-clause-replaces
returns-in-Ok-clause-replaces c =
    let es = c.args.entries.now.items in
    let key = c.args.key.now.0 in
    let found = rw c.deref.ensures.value at c.in-Ok.ensures.found in
    let e = reached c.index_mut.result.now c.deref_mut-lists.result.now in
    let read = read_reached es c.in-Ok.place c.index_mut.result.now c.deref_mut-lists.result.now c.deref_mut-lists.ensures.value c.index_mut.ensures.value in
    let lists = e.lists.value in
    rw (read_kept es key c.in-Ok.place found e read) c.put.ensures.replaces

pub returns-in-Ok-clause-entries : goal.returns-in-Ok-clause-entries
returns-in-Ok-clause-entries c =
    let es = c.args.entries.now.items in
    let key = c.args.key.now.0 in
    let found = rw c.deref.ensures.value at c.in-Ok.ensures.found in
    let e = reached c.index_mut.result.now c.deref_mut-lists.result.now in
    let read = read_reached es c.in-Ok.place c.index_mut.result.now c.deref_mut-lists.result.now c.deref_mut-lists.ensures.value c.index_mut.ensures.value in
    let lists = e.lists.value in
    let now : Entry = record e { lists = record e.lists { value = record lists { list = c.put.new.self } } } in
    let had_room = read_room es key c.in-Ok.place found e read c.requires in
    let room : HasRoom now.lists.value = either c.put.result c.put.ensures.ok c.put.ensures.err
    (λ made. omega (arith, ap (λ (l : KeySlots). l.spare) made, had_room)) (λ same. omega (arith, ap (λ (l : KeySlots). l.spare) same, had_room)) in
    let had_use = read_used es key c.in-Ok.place found e read c.requires in
    let used : IsUsed now.lists.value = either c.put.result c.put.ensures.ok c.put.ensures.err
    (λ made. omega (arith, ap (λ (l : KeySlots). length l.versions) made, some_with (filter (λ v. ltb v.slot c.args.version.slot) lists.list.versions) (filter (λ v. ltb c.args.version.slot v.slot) lists.list.versions) c.args.version))
    (λ same. omega (arith, ap (λ (l : KeySlots). length l.versions + length l.held) same, had_use)) in
    AreEntries-write es key c.in-Ok.place found e read now refl c.requires room used

-- ---- the key is not there

pub returns-in_ok-put-in-Err-clause-ok : goal.returns-in_ok-put-in-Err-clause-ok
returns-in_ok-put-in-Err-clause-ok c =
    let es = c.args.entries.now.items in
    let key = c.args.key.now.0 in
    let gap = rw c.deref.ensures.value at c.in-Err.ensures.absent in
    let none = kept_gap es key c.in-Err.place gap in
    let first = c.in_ok-put-in-Err.ensures.ok in
    let versions : c.put-in-Err.new.self.versions ≡ c.args.version ∷ [] = ap (λ (l : KeySlots). l.versions) first ∙ ap (put c.args.version) c.new-list.ensures.versions in
    let held : c.put-in-Err.new.self.held ≡ [] = ap (λ (l : KeySlots). l.held) first ∙ c.new-list.ensures.held in
    on_ok_weaker c.insert.result (λ made.
    IsWith-to _ _ key _ _ made
    ((λ j. record { versions = versions j; held = held j; expected = c.new.ensures.items j })
    ∙ sym (ap (λ (k : Kept). record k { versions = put c.args.version k.versions }) none))) c.insert.ensures.ok

pub returns-in_ok-put-in-Err-clause-replaces : goal.returns-in_ok-put-in-Err-clause-replaces
returns-in_ok-put-in-Err-clause-replaces c = λ there.
    let gap = rw c.deref.ensures.value at c.in-Err.ensures.absent in
    absurd (false≢true (rw (kept_gap c.args.entries.now.items c.args.key.now.0 c.in-Err.place gap) at there))

pub returns-in_err-put-in-Err-clause-replaces : goal.returns-in_err-put-in-Err-clause-replaces
returns-in_err-put-in-Err-clause-replaces c = λ there.
    let gap = rw c.deref.ensures.value at c.in-Err.ensures.absent in
    absurd (false≢true (rw (kept_gap c.args.entries.now.items c.args.key.now.0 c.in-Err.place gap) at there))
