use Rattle.std.proofs.Common.{◌≡◌, ℕ, ◌+◌, ◌≤◌, Bool, true, false, cond, List, Some, take, ap, sym, subst, ◌∙◌, arith, refl}
use Rattle.std.specs.List.{slice_get}
use Rattle.std.specs.List.Sorted.{IsStrictlyIncreasing}
use Rattle.adb_model.specs.Account.{size}
use Rattle.shrink_plan.specs.Sources.{is_found_at}
use Rattle.shrink_plan.specs.declared.sorting.SortedRows.{SortedRows}
use Rattle.vec_scan.specs.Image.{Placed}
use Rattle.vec_scan.specs.Seal.{placed}
use Rattle.book_parts.specs.Shrinks.{is_found_there, is_dead}
use Rattle.shrink_plan.proofs.RowsSorted.{Sorts, all_rows, bytes_in, next_row, sorts_none, sorts_more}
use Rattle.shrink_plan.proofs.Standing.{found_differ, pass_stand, rise_below}
use Rattle.shrink_plan.proofs.sorting.sort_rows.Goals as goal

pub loop-offset-init : goal.loop-offset-init
loop-offset-init c =
    let rows : SortedRows = record { copied = c.new.result; dead = c.new-2.result; bytes = 0 } in
    record {
      sorts = sorts_none c.args.index.now c.args.slot c.args.cell rows c.new.ensures.items c.new-2.ensures.items refl;
      most = omega arith;
    }

pub loop-offset-preserved : goal.loop-offset-preserved
loop-offset-preserved c =
    let rows = c.args.image.now.rows in
    let n = c.loop-offset.offset-index in
    let p = placed _ c.record_at-record.result in
    let is : slice_get rows n ≡ Some p = sym (c.offsets-offset-items.ensures.rows n c.loop-offset-test.true) ∙ c.record_at-record.ensures.row in
    let copies = is_found_at c.args.cell p.offset c.version-version.result in
    let bytes : c.put.new.self.bytes ≡ c.loop-offset.rows.bytes + cond copies (size p.row.account) 0 =
    c.in_ok-put.ensures.bytes ∙ ap (λ k. c.loop-offset.rows.bytes + cond copies k 0) c.stored_size.ensures in
    let more = sorts_more c.args.index.now c.args.slot c.args.cell (take n rows) p c.version-version.result c.loop-offset.rows c.put.new.self c.version-version.ensures
    c.loop-offset.invariant.sorts c.in_ok-put.ensures.copied c.in_ok-put.ensures.dead bytes in
    record {
      sorts = subst (λ (done : List Placed). Sorts c.args.index.now c.args.slot c.args.cell done c.put.new.self) (sym (next_row rows n p is)) more;
      most = omega (arith, bytes, at_most copies (size p.row.account), c.loop-offset.invariant.most, c.stored_size.ensures, c.stored_size.type_inv);
    }
  where
    at_most : (b : Bool) (k : ℕ) → cond b k 0 ≤ k
    at_most true k = omega arith
    at_most false k = omega arith

pub returns-clause-places : goal.returns-clause-places
returns-clause-places c = subst IsStrictlyIncreasing c.offsets-offset-items.ensures.offsets c.offsets-offset-items.ensures.rise

pub returns-clause-copied : goal.returns-clause-copied
returns-clause-copied c =
    let rows = c.args.image.now.rows in
    let n = c.loop-offset.offset-index in
    let all = all_rows rows c.offsets-offset-items.result.now n c.offsets-offset-items.ensures.offsets (omega (arith, c.loop-offset-test.false)) in
    pass_stand c.args.image.now (is_found_there c.args.index.now c.args.slot c.args.cell) (take n rows) c.loop-offset.rows.copied.items (returns-clause-places c) all c.loop-offset.invariant.sorts.copied

pub returns-clause-dead : goal.returns-clause-dead
returns-clause-dead c =
    let rows = c.args.image.now.rows in
    let n = c.loop-offset.offset-index in
    let all = all_rows rows c.offsets-offset-items.result.now n c.offsets-offset-items.ensures.offsets (omega (arith, c.loop-offset-test.false)) in
    pass_stand c.args.image.now (is_dead c.args.index.now c.args.slot) (take n rows) c.loop-offset.rows.dead.items (returns-clause-places c) all c.loop-offset.invariant.sorts.dead

pub returns-clause-bytes : goal.returns-clause-bytes
returns-clause-bytes c =
    let rows = c.args.image.now.rows in
    let all = all_rows rows c.offsets-offset-items.result.now c.loop-offset.offset-index c.offsets-offset-items.ensures.offsets (omega (arith, c.loop-offset-test.false)) in
    c.loop-offset.invariant.sorts.bytes ∙ ap (bytes_in (is_found_there c.args.index.now c.args.slot c.args.cell)) all

pub returns-clause-differ : goal.returns-clause-differ
returns-clause-differ c = found_differ c.args.index.now c.args.slot c.args.cell c.args.image.now.rows (rise_below c.args.image.now.rows (returns-clause-places c))
