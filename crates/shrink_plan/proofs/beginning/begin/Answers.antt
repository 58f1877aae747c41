use Rattle.std.proofs.Common.{rules, ◌≡◌, ℕ, length, true, Some, refl, subst, sym, ap, ◌∙◌}
use Rattle.append_vec.specs.Filled.{KeysDiffer}
use Rattle.cell_table.specs.Phases.{has_id, is_live}
use Rattle.cell_table.specs.Cells.{cell_at}
use Rattle.storage_map.specs.Slots.{live_at, begun_with, Becomes}
use Rattle.std.specs.List.Sorted.{IsStrictlyIncreasing}
use Rattle.vec_scan.specs.Image.{Image}
use Rattle.vec_scan.specs.Seal.{offsets_of}
use Rattle.book_parts.specs.Shrinks.{Copy, IsInUse, ShrinkBegins}
use Rattle.adb_model.specs.Shrink.{shrinking}
use Rattle.book_parts.specs.Shrinks.{IsOpenCopy}
use Rattle.shrink_plan.specs.States.{having, with_next}
use Rattle.shrink_plan.proofs.Begun.{AreSorted, has_begun, are_there, rows_differ, sorted_alike, of_entry}
use Rattle.shrink_plan.proofs.Opened.{opens}
use Rattle.shrink_plan.proofs.beginning.begin.Goals as goal

pub new-requires-clause-copied : goal.new-requires-clause-copied
new-requires-clause-copied c =
    are_there c.deref.result.now c.in_ok-image.image.value c.in_ok-rows.rows.copied.items _ (c.deref.ensures ∙ sym c.in_ok-image.ensures.cases) c.in_ok-rows.ensures.copied

pub new-requires-clause-dead : goal.new-requires-clause-dead
new-requires-clause-dead c =
    are_there c.deref.result.now c.in_ok-image.image.value c.in_ok-rows.rows.dead.items _ (c.deref.ensures ∙ sym c.in_ok-image.ensures.cases) c.in_ok-rows.ensures.dead

pub new-requires-clause-differ : goal.new-requires-clause-differ
new-requires-clause-differ c =
    rows_differ c.deref.result.now c.in_ok-image.image.value c.in_ok-rows.rows.copied.items _ (c.deref.ensures ∙ sym c.in_ok-image.ensures.cases) c.in_ok-rows.ensures.copied c.in_ok-rows.ensures.differ

pub returns-clause-ok : goal.returns-clause-ok
returns-clause-ok c =
    let rows = c.in_ok-rows.rows in
    let image = c.get-image.result.now in
    let live = c.in-Some.live in
    let in_use : IsInUse c.args.slot live image c.args.cells.now c.args.map.now = record {
      entry = sym c.in-Some.ensures;
      filled = c.get-image.ensures;
      places = subst (λ (im : Image). IsStrictlyIncreasing (offsets_of im.rows)) c.deref.ensures c.sort_rows.ensures.places;
    } in
    let are : AreSorted c.args.index.now c.args.slot live.cell c.deref.result.now rows = record { copied = c.in_ok-rows.ensures.copied; dead = c.in_ok-rows.ensures.dead; bytes = c.in_ok-rows.ensures.bytes } in
    let count : c.len-copied.result ≡ length rows.copied.items = search rules in
    has_begun c.args.slot c.args.id c.in_ok-begin_storage.field-0 c.args.index.now live image c.in_ok-image.image.value rows c.new.result c.args.cells.now c.begin_storage.new.cells c.pin.new.self
    c.args.map.now c.begin_storage.new.map in_use (sorted_alike c.args.index.now c.args.slot live.cell c.deref.result.now image.value rows c.deref.ensures are)
    c.in_ok-image.ensures.cases c.new.ensures c.in_ok-begin_storage.ensures.cells c.pin.ensures
    (subst (λ (n : ℕ). Becomes c.args.map.now c.begin_storage.new.map c.args.slot (live_at c.args.map.now c.args.slot) (Some (begun_with c.in_ok-begin_storage.field-0 n))) count c.in_ok-begin_storage.ensures.map)

pub returns-clause-open : goal.returns-clause-open
returns-clause-open c =
    let o = returns-clause-ok c in
    let job = c.new.result in
    let from = o.0.cell in
    let begins : ShrinkBegins c.args.slot c.args.id from o.3.0 job.rows c.args.cells.now c.pin.new.self c.args.map.now c.begin_storage.new.map =
    subst (λ rows. ShrinkBegins c.args.slot c.args.id from o.3.0 rows c.args.cells.now c.pin.new.self c.args.map.now c.begin_storage.new.map) (sym (ap (λ (x : Copy). x.rows) o.3.1)) o.3.2 in
    let live = of_entry (live_at c.args.map.now c.args.slot) (λ l. is_live (cell_at c.args.cells.now.cells l.cell) ≡ true) o.0 o.2.entry c.requires.in_use in
    let differ : KeysDiffer job.rows = subst KeysDiffer (sym (ap (λ (x : Copy). x.rows) c.new.ensures))
    (rows_differ c.deref.result.now c.in_ok-image.image.value c.in_ok-rows.rows.copied.items _ (c.deref.ensures ∙ sym c.in_ok-image.ensures.cases) c.in_ok-rows.ensures.copied c.in_ok-rows.ensures.differ) in (
      o.0,
      o.1,
      o.2,
      λ named. (
        o.3.0,
        opens c.args.slot c.args.id from o.3.0 job c.args.cells.now c.pin.new.self c.args.map.now c.begin_storage.new.map begins live
            (ap (λ (x : Copy). x.slot) o.3.1) (ap (λ (x : Copy). x.id) o.3.1)
            (ap (λ (x : Copy). has_id x.old (cell_at c.args.cells.now.cells from)) o.3.1 ∙ named) o.0 o.2.entry refl differ,
      ),
    )

pub returns-clause-begun : goal.returns-clause-begun
returns-clause-begun c = λ p m old h r e none.
    let o = returns-clause-ok c in
    let q = with_next (having p c.args.index.now c.args.cells.now c.args.map.now) c.args.id in
    c.begun_shrink_reflects.ensures.done q m c.args.slot o.3.0 o.0 o.1 old c.pin.new.self c.begin_storage.new.map h r o.2 e none o.3.2

pub returns-clause-tied : goal.returns-clause-tied
returns-clause-tied c = λ p m old h r e none.
    let o = returns-clause-ok c in
    let q = with_next (having p c.args.index.now c.args.cells.now c.args.map.now) c.args.id in
    subst (λ (job : Copy). IsOpenCopy job (shrinking m old)) (sym o.3.1) (c.begun_shrink_reflects.ensures.tied q m c.args.slot o.0 o.1 old h r o.2 e none)
