use Rattle.std.proofs.Common.{◌≡◌, ◌≢◌, ℕ, ◌+◌, Some, cond, length, set, sym, ap, ◌∙◌, subst, refl}
use Rattle.std.proofs.lemmas.Bool.{eq-eqb, ne_eqb}
use Rattle.cell_table.specs.declared.phase.Phase.TheVariants.{Filling}
use Rattle.cell_table.specs.Phases.{pinned}
use Rattle.cell_table.specs.Cells.{Table}
use Rattle.storage_map.specs.Slots.{live_at, begun_with, Becomes}
use Rattle.adb_model.specs.State.{Storage, Shrink, State}
use Rattle.adb_model.specs.Account.{size}
use Rattle.adb_model.specs.Storages.{bytes_of, storage_with, open_shrink}
use Rattle.adb_model.specs.Flush.{filling_with}
use Rattle.adb_model.specs.Shrink.{shrink_rows, shrinking}
use Rattle.adb_model.specs.Laws.{SameRows}
use Rattle.book_parts.specs.Parts.{Shared}
use Rattle.book_parts.specs.Reflects.{Reflects}
use Rattle.book_parts.specs.Shrinks.{copied_rows, with_phase}
use Rattle.book_parts.proofs.Found.{none_some}
use Rattle.book_parts.proofs.BegunShrink.{reflects_begun}
use Rattle.book_parts.proofs.CopiedRows.{Copies, same_copied, left_out}
use Rattle.book_parts.proofs.SameRows.{same_differ, same_length, same_sums}
use Rattle.book_parts.proofs.UsedStorage.{used_image}
use Rattle.book_parts.proofs.shrinking.begun_shrink_reflects.Goals as goal

pub returns-clause-image : goal.returns-clause-image
returns-clause-image c = λ p m slot live image old h r used e. (used_image p m slot live image old h r used e).2

pub returns-clause-same : goal.returns-clause-same
returns-clause-same c = λ p m slot live image old h r used e.
    let f = used_image p m slot live image old h r used e in
    let copies : Copies m slot old = record {
      keys = c.shrinks_copy_named_rows.ensures.keys m h slot old e;
      differ = c.shrinks_copy_named_rows.ensures.differ m old;
      last = c.shrinks_copy_named_rows.ensures.last m h slot old e;
      flushed = c.shrinks_copy_named_rows.ensures.flushed m h slot old e;
    } in
    same_copied p m slot live.cell image old (c.reclaims_are_sound.ensures.midway m h) r e f.0 used.filled used.places copies

pub returns-clause-left : goal.returns-clause-left
returns-clause-left c = λ p m slot live image old h r used e k.
    let f = used_image p m slot live image old h r used e in
    let copies : Copies m slot old = record {
      keys = c.shrinks_copy_named_rows.ensures.keys m h slot old e;
      differ = c.shrinks_copy_named_rows.ensures.differ m old;
      last = c.shrinks_copy_named_rows.ensures.last m h slot old e;
      flushed = c.shrinks_copy_named_rows.ensures.flushed m h slot old e;
    } in
    left_out p m slot live.cell image old (c.reclaims_are_sound.ensures.midway m h) r e f.0 used.filled used.places copies f.2 k

pub returns-clause-differ : goal.returns-clause-differ
returns-clause-differ c = λ p m slot live image old h r used e.
    same_differ (copied_rows p.index slot live.cell image.value) (shrink_rows m old) (returns-clause-same c p m slot live image old h r used e) (c.shrinks_copy_named_rows.ensures.differ m old)

pub returns-clause-bytes : goal.returns-clause-bytes
returns-clause-bytes c = λ p m slot live image old h r used e.
    same_sums (λ r. size r.account) (copied_rows p.index slot live.cell image.value) (shrink_rows m old) (returns-clause-same c p m slot live image old h r used e)

pub returns-clause-done : goal.returns-clause-done
returns-clause-done c = λ p m slot cell live image old table slots h r used e none begins.
    let f = used_image p m slot live image old h r used e in
    let copied = copied_rows p.index slot live.cell image.value in
    let written = shrink_rows m old in
    let same : SameRows copied written = returns-clause-same c p m slot live image old h r used e in
    let bytes : bytes_of copied ≡ bytes_of written = returns-clause-bytes c p m slot live image old h r used e in
    let filled : ℕ → ℕ → Table Shared = λ id n. record p.cells { cells = set p.cells.cells cell (Filling id n) } in
    let filling : begins.filling ≡ filled m.next_id (bytes_of written) = begins.begun.now ∙ ap (λ id. filled id (bytes_of copied)) r.next_id ∙ ap (filled m.next_id) bytes in
    let becomes : Becomes p.map slots slot (live_at p.map slot) (Some (begun_with cell (length written))) =
    subst (λ n. Becomes p.map slots slot (live_at p.map slot) (Some (begun_with cell n))) (same_length copied written same) begins.slots
    in
    subst (λ (t : Table Shared). Reflects (record p { cells = t; map = slots; next_id = p.next_id + 1 }) (shrinking m old)) (sym (begins.pinned ∙ ap (with_phase pinned live.cell) filling))
    (reflects_begun p m slot live.cell cell old slots r (record {
      of_slot = c.shrinks_copy_named_rows.ensures.slot m slot old e;
      fresh = c.ids_are_fresh.ensures.next m h;
      with_id = c.shrinks_begin.ensures.with_id m h old;
      live = c.shrinks_begin.ensures.live m old;
      filling = c.shrinks_begin.ensures.filling m h slot old e none;
      flush = c.shrinks_begin.ensures.flush m h old;
      held = c.shrinks_begin.ensures.held m old;
      pinned = c.shrinks_begin.ensures.pinned m old;
      bytes = c.shrinks_begin.ensures.bytes m old;
      storages = c.shrinks_begin.ensures.storages m old;
      filling_count = c.shrinks_begin.ensures.filling_count m old;
      live_count = c.shrinks_begin.ensures.live_count m old;
      retired_count = c.shrinks_begin.ensures.retired_count m old;
      row_count = c.shrinks_begin.ensures.row_count m old;
      pin_total = c.shrinks_begin.ensures.pin_total m old;
    }) f.0 f.1 begins.begun.within begins.begun.was_free becomes)

pub returns-clause-tied : goal.returns-clause-tied
returns-clause-tied c = λ p m slot live image old h r used e none.
    let f = used_image p m slot live image old h r used e in
    let n : State = shrinking m old in
    let new : Storage = filling_with m old.slot (shrink_rows m old) in
    let there : storage_with m old.id ≡ Some old = c.live_storages_stand.ensures.with_id m (c.reclaims_are_sound.ensures.midway m h) slot old e in
    let apart : m.next_id ≢ old.id = λ same. none_some (sym (c.ids_are_fresh.ensures.next m h) ∙ ap (storage_with m) same ∙ there) in
    let shrink_with : ℕ → ℕ → Shrink = λ i j. record { slot = slot; old = i; new = j } in
    record {
      opened = c.shrinks_begin.ensures.shrink m slot old e none slot ∙ ap (λ b. cond b (Some (shrink_with old.id m.next_id)) (open_shrink m slot)) (eq-eqb slot slot refl)
          ∙ ap (λ i. Some (shrink_with i m.next_id)) (sym f.2.id) ∙ ap (λ j. Some (shrink_with image.value.id j)) (sym r.next_id);
      old = old;
      new = new;
      old_there = ap (storage_with n) f.2.id ∙ c.shrinks_begin.ensures.with_id m h old old.id ∙ ap (λ b. cond b (Some new) (storage_with m old.id)) (ne_eqb m.next_id old.id apart) ∙ there;
      new_there = ap (storage_with n) r.next_id ∙ c.shrinks_begin.ensures.with_id m h old m.next_id ∙ ap (λ b. cond b (Some new) (storage_with m m.next_id)) (eq-eqb m.next_id m.next_id refl);
      same = returns-clause-same c p m slot live image old h r used e;
      differ = returns-clause-differ c p m slot live image old h r used e;
      left = returns-clause-left c p m slot live image old h r used e;
    }
