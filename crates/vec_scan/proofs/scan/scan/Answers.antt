use Rattle.std.proofs.lemmas.Result.{err_from_is_err_and}
use Rattle.vec_scan.proofs.Scanning.{scanned_none, scanned_more, scanned_all, scanned_not}
use Rattle.vec_scan.proofs.scan.scan.Goals as goal

pub loop-at-init : goal.loop-at-init
loop-at-init c = rw c.new-offsets.ensures.items (scanned_none c.args.image.now)

pub returns-in_err-next : goal.returns-in_err-next
returns-in_err-next c =
    let p = err_from_is_err_and c.from_residual.result c.from_residual.ensures.1 in
    rw (p.1, p.2) (scanned_not c.args.image.now c.loop-at.at c.loop-at.offsets.items c.in_err-next.field-0.0 c.loop-at-test.true c.loop-at.invariant c.in_err-next.ensures)

pub loop-at-preserved : goal.loop-at-preserved
loop-at-preserved c =
    rw c.in_ok-push.ensures.items (scanned_more c.args.image.now c.loop-at.at c.in_ok-next.next c.loop-at.offsets.items c.loop-at-test.true c.loop-at.invariant c.in_ok-next.ensures)

pub returns : goal.returns
returns c = scanned_all c.args.image.now c.loop-at.at c.loop-at.offsets.items c.loop-at-test.false c.loop-at.invariant
