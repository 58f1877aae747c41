use Rattle.std.proofs.Common.{◌≡◌, ℕ, ◌<◌, length, get_or, take, ap, ◌∙◌, arith}
use Rattle.std.proofs.Math.Seq.{take-length}
use Rattle.std.proofs.lemmas.List.{get_or_default}
use Rattle.adb_model.specs.Account.{Account}
use Rattle.vec_scan.specs.Seal.{placed}
use Rattle.append_vec.specs.Filled.{row_of, rows_of}
use Rattle.shrink_plan.specs.Places.{rows_at}
use Rattle.shrink_plan.proofs.Moves.{rows_more}
use Rattle.shrink_plan.proofs.Standing.{as_many, some_row, row_read}
use Rattle.shrink_plan.proofs.job.read_accounts.Goals as goal

pub record_at-record-requires : goal.record_at-record-requires
record_at-record-requires c = some_row c.args.image.now c.args.offsets.now c.loop-offset.offset-index 0 c.requires c.loop-offset-test.true

pub loop-offset-preserved : goal.loop-offset-preserved
loop-offset-preserved c =
    let n = c.loop-offset.offset-index in
    let all = rows_at c.args.image.now c.args.offsets.now in
    let place = get_or c.args.offsets.now n 0 in
    let p = placed place c.record_at-record.result in
    let is = row_read c.args.image.now c.args.offsets.now n place p c.requires c.loop-offset-test.true (λ e. get_or_default c.args.offsets.now n 0 e c.loop-offset-test.true) c.record_at-record.ensures.row in
    let account : c.in_ok-account-2.account.value ≡ p.row.account = c.in_ok-account-2.ensures.ok ∙ c.in_ok-account.ensures in
    let row : row_of (c.record_at-record.result.key, c.in_ok-account-2.account) ≡ p.row = ap (λ (a : Account). record { key = c.record_at-record.result.key.0; account = a }) account in
    let within : n < length all = omega (arith, c.loop-offset-test.true, as_many c.args.image.now c.args.offsets.now all c.requires) in
    ap rows_of c.in_ok-push.ensures.items
    ∙ rows_more c.loop-offset.accounts.items (c.record_at-record.result.key, c.in_ok-account-2.account) all n p.row within is row c.loop-offset.invariant

pub returns : goal.returns
returns c =
    let n = c.loop-offset.offset-index in
    let all = rows_at c.args.image.now c.args.offsets.now in
    let rows : n ≡ length all = omega (arith, c.loop-offset-test.false, c.loop-offset.auto.offset-index-end, as_many c.args.image.now c.args.offsets.now all c.requires) in
    c.loop-offset.invariant ∙ ap (λ (m : ℕ). take m all) rows ∙ take-length all
