use Rattle.std.proofs.Common.{◌≡◌, ℕ, List, length, get_or, take, subst, ap, ◌∙◌, arith}
use Rattle.std.proofs.Math.Seq.{take-length}
use Rattle.std.proofs.lemmas.List.{get_or_default}
use Rattle.adb_model.specs.State.{Row}
use Rattle.vec_scan.specs.Seal.{placed}
use Rattle.book_parts.specs.Reclaims.{Unholds}
use Rattle.shrink_plan.specs.Places.{rows_at}
use Rattle.shrink_plan.proofs.Moves.{unholds_none, unholds_more}
use Rattle.shrink_plan.proofs.Standing.{as_many, some_row, row_read}
use Rattle.shrink_plan.proofs.moving.unhold_rows.Goals as goal

pub loop-offset-init : goal.loop-offset-init
loop-offset-init c = unholds_none c.args.slot c.args.index.now

pub record_at-requires : goal.record_at-requires
record_at-requires c = some_row c.args.image.now c.args.dead.now c.loop-offset.offset-index 0 c.requires c.loop-offset-test.true

pub loop-offset-preserved : goal.loop-offset-preserved
loop-offset-preserved c =
    let n = c.loop-offset.offset-index in
    let all = rows_at c.args.image.now c.args.dead.now in
    let place = get_or c.args.dead.now n 0 in
    let p = placed place c.record_at.result in
    let is = row_read c.args.image.now c.args.dead.now n place p c.requires c.loop-offset-test.true (λ e. get_or_default c.args.dead.now n 0 e c.loop-offset-test.true) c.record_at.ensures.row in
    unholds_more c.args.slot all n p.row c.args.index.now c.loop-offset.index c.unhold.new.self
    (omega (arith, c.loop-offset-test.true, as_many c.args.image.now c.args.dead.now all c.requires)) is c.loop-offset.invariant c.unhold.ensures

pub returns : goal.returns
returns c =
    let n = c.loop-offset.offset-index in
    let all = rows_at c.args.image.now c.args.dead.now in
    let rows : n ≡ length all = omega (arith, c.loop-offset-test.false, c.loop-offset.auto.offset-index-end, as_many c.args.image.now c.args.dead.now all c.requires) in
    subst (λ (rs : List Row). Unholds c.args.slot rs c.args.index.now c.loop-offset.index) (ap (λ (m : ℕ). take m all) rows ∙ take-length all) c.loop-offset.invariant
