use Rattle.std.proofs.Common.{◌≡◌, ◌+◌, Some, take, ap, sym, ◌∙◌, arith}
use Rattle.std.specs.List.{slice_get}
use Rattle.vec_scan.specs.Seal.{placed}
use Rattle.book_parts.specs.Shrinks.{is_found_there}
use Rattle.shrink_plan.proofs.RowsSorted.{all_rows, bytes_in, bytes_more, next_row}
use Rattle.shrink_plan.proofs.sorting.bytes_to_copy.Goals as goal

pub loop-offset-preserved : goal.loop-offset-preserved
loop-offset-preserved c =
    let rows = c.args.image.now.rows in
    let n = c.loop-offset.offset-index in
    let test = is_found_there c.args.index.now c.args.slot c.args.cell in
    let p = placed _ c.record_at-record.result in
    let is : slice_get rows n ≡ Some p = sym (c.offsets-offset-items.ensures.rows n c.loop-offset-test.true) ∙ c.record_at-record.ensures.row in
    let more = ap (bytes_in test) (next_row rows n p is) ∙ bytes_more test (take n rows) p in
    let invariant = c.loop-offset.invariant in
    record {
      bytes = ap (λ k. k + c.size_to_copy.result) invariant.bytes ∙ ap (λ k. bytes_in test (take n rows) + k) c.size_to_copy.ensures ∙ sym more;
      most = omega (arith, invariant.most, c.size_to_copy.type_inv);
    }

pub returns-clause-bytes : goal.returns-clause-bytes
returns-clause-bytes c =
    let rows = c.args.image.now.rows in
    let all = all_rows rows c.offsets-offset-items.result.now c.loop-offset.offset-index c.offsets-offset-items.ensures.offsets (omega (arith, c.loop-offset-test.false)) in
    c.loop-offset.invariant.bytes ∙ ap (bytes_in (is_found_there c.args.index.now c.args.slot c.args.cell)) all
