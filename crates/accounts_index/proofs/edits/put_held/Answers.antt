use Rattle.std.proofs.Common.{◌≡◌, [], ◌∷◌, ap, sym, ◌∙◌, refl}
use Rattle.slot_list.specs.Versions.{put, with_slot, KeySlots}
use Rattle.view_sets.specs.Slots.{among}
use Rattle.accounts_index.specs.declared.entry.Entry.{Entry}
use Rattle.accounts_index.specs.Index.{Kept}
use Rattle.accounts_index.specs.Inside.{kept_of}
use Rattle.accounts_index.proofs.Lookups.{kept_gap}
use Rattle.accounts_index.proofs.Changes.{reached, read_reached, IsWith-to, read_kept, IsWith-write, seen_same, on_err_any}
use Rattle.accounts_index.proofs.edits.put_held.Goals as goal

-- ---- the key is there

pub returns-in_err-room-in-Ok-clause-err : goal.returns-in_err-room-in-Ok-clause-err
returns-in_err-room-in-Ok-clause-err c =
    let es = c.args.entries.now.items in
    let key = c.args.key.now.0 in
    let found = rw c.deref.ensures.value at c.in-Ok.ensures.found in
    let e = reached c.index_mut.result.now c.deref_mut-lists.result.now in
    let read = read_reached es c.in-Ok.place c.index_mut.result.now c.deref_mut-lists.result.now c.deref_mut-lists.ensures.value c.index_mut.ensures.value in
    let lists = e.lists.value in
    let now : Entry = record e { lists = record e.lists { value = record lists { list = c.room.new.self } } } in
    let same : kept_of now.lists.value ≡ kept_of lists = λ j. record { versions = c.room.ensures.versions j; held = c.room.ensures.held j; expected = lists.expected.items } in
    on_err_any c.from_residual.result (seen_same es c.in-Ok.place e now found.in_range read refl same)

pub returns-in_err-put-in-Ok-clause-err : goal.returns-in_err-put-in-Ok-clause-err
returns-in_err-put-in-Ok-clause-err c =
    let es = c.args.entries.now.items in
    let key = c.args.key.now.0 in
    let found = rw c.deref.ensures.value at c.in-Ok.ensures.found in
    let e = reached c.index_mut.result.now c.deref_mut-lists.result.now in
    let read = read_reached es c.in-Ok.place c.index_mut.result.now c.deref_mut-lists.result.now c.deref_mut-lists.ensures.value c.index_mut.ensures.value in
    let lists = e.lists.value in
    let now : Entry = record e { lists = record e.lists { value = record lists { list = c.put.new.self } } } in
    let stays : c.put.new.self ≡ c.room.new.self = c.in_err-put-in-Ok.ensures.err in
    let same : kept_of now.lists.value ≡ kept_of lists =
    ap (λ (l : KeySlots). kept_of (record lists { list = l })) stays
    ∙ (λ j. record { versions = c.room.ensures.versions j; held = c.room.ensures.held j; expected = lists.expected.items }) in
    on_err_any c.from_residual-in_err-put-in-Ok.result (seen_same es c.in-Ok.place e now found.in_range read refl same)

pub returns-in_ok-put-in-Ok-clause-ok : goal.returns-in_ok-put-in-Ok-clause-ok
returns-in_ok-put-in-Ok-clause-ok c =
    let es = c.args.entries.now.items in
    let key = c.args.key.now.0 in
    let found = rw c.deref.ensures.value at c.in-Ok.ensures.found in
    let e = reached c.index_mut.result.now c.deref_mut-lists.result.now in
    let read = read_reached es c.in-Ok.place c.index_mut.result.now c.deref_mut-lists.result.now c.deref_mut-lists.ensures.value c.index_mut.ensures.value in
    let lists = e.lists.value in
    let now : Entry = record e { lists = record e.lists { value = record lists { list = c.keep_held.new.self } } } in
    let made : c.put.new.self ≡ record c.room.new.self { versions = put c.args.version c.room.new.self.versions } = c.in_ok-put-in-Ok.ensures.ok in
    let versions : c.keep_held.new.self.versions ≡ put c.args.version lists.list.versions =
    c.keep_held.ensures.versions ∙ ap (λ (l : KeySlots). l.versions) made ∙ ap (put c.args.version) c.room.ensures.versions in
    let held : c.keep_held.new.self.held ≡ with_slot c.args.version.slot lists.list.held =
    c.keep_held.ensures.held ∙ ap (λ (l : KeySlots). with_slot c.args.version.slot l.held) made ∙ ap (with_slot c.args.version.slot) c.room.ensures.held in
    IsWith-to _ _ key _ _ (IsWith-write es key c.in-Ok.place found e read now refl)
    ((λ j. record { versions = versions j; held = held j; expected = lists.expected.items })
    ∙ ap (λ (k : Kept). record k { versions = put c.args.version k.versions; held = with_slot c.args.version.slot k.held }) (sym (read_kept es key c.in-Ok.place found e read)))

pub returns-in_ok-put-in-Ok-clause-was : goal.returns-in_ok-put-in-Ok-clause-was
returns-in_ok-put-in-Ok-clause-was c =
    let es = c.args.entries.now.items in
    let key = c.args.key.now.0 in
    let found = rw c.deref.ensures.value at c.in-Ok.ensures.found in
    let e = reached c.index_mut.result.now c.deref_mut-lists.result.now in
    let read = read_reached es c.in-Ok.place c.index_mut.result.now c.deref_mut-lists.result.now c.deref_mut-lists.ensures.value c.index_mut.ensures.value in
    let lists = e.lists.value in
    let made : c.put.new.self ≡ record c.room.new.self { versions = put c.args.version c.room.new.self.versions } = c.in_ok-put-in-Ok.ensures.ok in
    c.keep_held.ensures.there
    ∙ ap (λ (l : KeySlots). among c.args.version.slot l.held) made
    ∙ ap (among c.args.version.slot) c.room.ensures.held
    ∙ ap (λ (k : Kept). among c.args.version.slot k.held) (sym (read_kept es key c.in-Ok.place found e read))

-- ---- the key is not there

pub returns-in_ok-insert-in-Err-clause-ok : goal.returns-in_ok-insert-in-Err-clause-ok
returns-in_ok-insert-in-Err-clause-ok c =
    let es = c.args.entries.now.items in
    let key = c.args.key.now.0 in
    let gap = rw c.deref.ensures.value at c.in-Err.ensures.absent in
    let none = kept_gap es key c.in-Err.place gap in
    let made : c.put-in-Err.new.self ≡ record c.room-in-Err.new.self { versions = put c.args.version c.room-in-Err.new.self.versions } = c.in_ok-put-in-Err.ensures.ok in
    let versions : c.hold.new.self.versions ≡ c.args.version ∷ [] =
    ap (λ (l : KeySlots). l.versions) c.hold.ensures ∙ ap (λ (l : KeySlots). l.versions) made
    ∙ ap (put c.args.version) (c.room-in-Err.ensures.versions ∙ c.new-list.ensures.versions) in
    let held : c.hold.new.self.held ≡ c.args.version.slot ∷ [] =
    ap (λ (l : KeySlots). l.held) c.hold.ensures ∙ ap (λ (l : KeySlots). with_slot c.args.version.slot l.held) made
    ∙ ap (with_slot c.args.version.slot) (c.room-in-Err.ensures.held ∙ c.new-list.ensures.held) in
    IsWith-to _ _ key _ _ c.in_ok-insert-in-Err.ensures.ok
    ((λ j. record { versions = versions j; held = held j; expected = c.new.ensures.items j })
    ∙ sym (ap (λ (k : Kept). record k { versions = put c.args.version k.versions; held = with_slot c.args.version.slot k.held }) none))

pub returns-in_ok-insert-in-Err-clause-was : goal.returns-in_ok-insert-in-Err-clause-was
returns-in_ok-insert-in-Err-clause-was c =
    let gap = rw c.deref.ensures.value at c.in-Err.ensures.absent in
    sym (ap (λ (k : Kept). among c.args.version.slot k.held) (kept_gap c.args.entries.now.items c.args.key.now.0 c.in-Err.place gap))
