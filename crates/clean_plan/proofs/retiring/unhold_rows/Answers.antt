use Rattle.std.proofs.Common.{◌≡◌, List, Some, take, sym, subst, ◌∙◌, arith}
use Rattle.std.specs.List.{slice_get}
use Rattle.vec_scan.specs.Seal.{placed, rows_in}
use Rattle.adb_model.specs.State.{Row}
use Rattle.book_parts.specs.Reclaims.{Unholds}
use Rattle.clean_plan.proofs.Unholding.{all_rows, next_row, unholds_none, unholds_more}
use Rattle.clean_plan.proofs.retiring.unhold_rows.Goals as goal

pub loop-offset-init : goal.loop-offset-init
loop-offset-init c = unholds_none c.args.slot c.args.index.now

pub loop-offset-preserved : goal.loop-offset-preserved
loop-offset-preserved c =
    let image = c.args.image.now in
    let n = c.loop-offset.offset-index in
    let p = placed _ c.record_at-record.result in
    let is : slice_get image.rows n ≡ Some p = sym (c.offsets-offset-items.ensures.rows n c.loop-offset-test.true) ∙ c.record_at-record.ensures.row in
    subst (λ (rows : List Row). Unholds c.args.slot rows c.args.index.now c.unhold.new.self) (sym (next_row image n p is))
    (unholds_more c.args.slot (take n (rows_in image)) p.row c.args.index.now c.loop-offset.index c.unhold.new.self c.loop-offset.invariant c.unhold.ensures)

pub returns : goal.returns
returns c =
    let all = all_rows c.args.image.now c.offsets-offset-items.result.now c.loop-offset.offset-index c.offsets-offset-items.ensures.offsets (omega (arith, c.loop-offset-test.false)) in
    subst (λ (rows : List Row). Unholds c.args.slot rows c.args.index.now c.loop-offset.index) all c.loop-offset.invariant
