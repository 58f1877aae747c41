use Rattle.std.proofs.Common.{◌≡◌, List, [], ◌∷◌, ◌++◌, ap, sym, ◌∙◌, refl}
use Rattle.std.proofs.lemmas.Result.{on_ok_weaker}
use Rattle.accounts_index.specs.declared.entry.Entry.{Entry}
use Rattle.accounts_index.specs.Index.{Kept}
use Rattle.accounts_index.specs.Inside.{kept_of}
use Rattle.accounts_index.proofs.Lookups.{kept_gap}
use Rattle.accounts_index.proofs.Changes.{reached, read_reached, IsWith-to, read_kept, IsWith-write, seen_same, on_err_any}
use Rattle.accounts_index.proofs.edits.expect.Goals as goal

-- ---- the key is there

pub returns-in_err-room-in-Ok-clause-err : goal.returns-in_err-room-in-Ok-clause-err
returns-in_err-room-in-Ok-clause-err c =
    let es = c.args.entries.now.items in
    let key = c.args.key.now.0 in
    let found = rw c.deref.ensures.value at c.in-Ok.ensures.found in
    let e = reached c.index_mut.result.now c.deref_mut-lists.result.now in
    let read = read_reached es c.in-Ok.place c.index_mut.result.now c.deref_mut-lists.result.now c.deref_mut-lists.ensures.value c.index_mut.ensures.value in
    let lists = e.lists.value in
    let now : Entry = record e { lists = record e.lists { value = record lists { list = c.room.new.self } } } in
    let same : kept_of now.lists.value ≡ kept_of lists = λ j. record { versions = c.room.ensures.versions j; held = c.room.ensures.held j; expected = lists.expected.items } in
    on_err_any c.from_residual.result (seen_same es c.in-Ok.place e now found.in_range read refl same)

pub returns-in_err-push-in-Ok-clause-err : goal.returns-in_err-push-in-Ok-clause-err
returns-in_err-push-in-Ok-clause-err c =
    let es = c.args.entries.now.items in
    let key = c.args.key.now.0 in
    let found = rw c.deref.ensures.value at c.in-Ok.ensures.found in
    let e = reached c.index_mut.result.now c.deref_mut-lists.result.now in
    let read = read_reached es c.in-Ok.place c.index_mut.result.now c.deref_mut-lists.result.now c.deref_mut-lists.ensures.value c.index_mut.ensures.value in
    let lists = e.lists.value in
    let now : Entry = record e { lists = record e.lists { value = record lists { list = c.room.new.self; expected = c.push.new.self } } } in
    let same : kept_of now.lists.value ≡ kept_of lists = λ j. record { versions = c.room.ensures.versions j; held = c.room.ensures.held j; expected = (c.in_err-push-in-Ok.ensures.err j).items } in
    on_err_any c.from_residual-in_err-push-in-Ok.result (seen_same es c.in-Ok.place e now found.in_range read refl same)

pub returns-in_ok-push-in-Ok-clause-ok : goal.returns-in_ok-push-in-Ok-clause-ok
returns-in_ok-push-in-Ok-clause-ok c =
    let es = c.args.entries.now.items in
    let key = c.args.key.now.0 in
    let found = rw c.deref.ensures.value at c.in-Ok.ensures.found in
    let e = reached c.index_mut.result.now c.deref_mut-lists.result.now in
    let read = read_reached es c.in-Ok.place c.index_mut.result.now c.deref_mut-lists.result.now c.deref_mut-lists.ensures.value c.index_mut.ensures.value in
    let lists = e.lists.value in
    let now : Entry = record e { lists = record e.lists { value = record lists { list = c.room.new.self; expected = c.push.new.self } } } in
    IsWith-to _ _ key _ _ (IsWith-write es key c.in-Ok.place found e read now refl)
    ((λ j. record { versions = c.room.ensures.versions j; held = c.room.ensures.held j; expected = c.in_ok-push-in-Ok.ensures.ok j })
    ∙ ap (λ (k : Kept). record k { expected = k.expected ++ c.args.slot ∷ [] }) (sym (read_kept es key c.in-Ok.place found e read)))

-- ---- the key is not there

pub returns-in_ok-push-in-Err-clause-ok : goal.returns-in_ok-push-in-Err-clause-ok
returns-in_ok-push-in-Err-clause-ok c =
    let es = c.args.entries.now.items in
    let key = c.args.key.now.0 in
    let gap = rw c.deref.ensures.value at c.in-Err.ensures.absent in
    let none = kept_gap es key c.in-Err.place gap in
    let versions : c.room-in-Err.new.self.versions ≡ [] = c.room-in-Err.ensures.versions ∙ c.new-list.ensures.versions in
    let held : c.room-in-Err.new.self.held ≡ [] = c.room-in-Err.ensures.held ∙ c.new-list.ensures.held in
    let expected : c.push-in-Err.new.self.items ≡ c.args.slot ∷ [] = c.in_ok-push-in-Err.ensures.ok ∙ ap (λ (l : List _). l ++ c.args.slot ∷ []) c.new-expected.ensures.items in
    on_ok_weaker c.insert.result (λ made.
    IsWith-to _ _ key _ _ made
    ((λ j. record { versions = versions j; held = held j; expected = expected j })
    ∙ sym (ap (λ (k : Kept). record k { expected = k.expected ++ c.args.slot ∷ [] }) none))) c.insert.ensures.ok
