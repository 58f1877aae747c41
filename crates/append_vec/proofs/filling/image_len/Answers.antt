use Rattle.std.proofs.Common.{ap, arith}
use Rattle.adb_model.specs.Account as machine
use Rattle.append_vec.proofs.Rows.{room}
use Rattle.append_vec.proofs.filling.image_len.Goals as goal

pub returns-then-size-len : goal.returns-then-size-len
returns-then-size-len c =
    let xs = c.args.accounts.now in
    let most = room xs c.loop-account.account-index c.loop-account-item.result c.loop-account-test.true c.loop-account-item.is in
    let size = c.stored_size-size.ensures in
    let account = ap machine.size c.deref.ensures in
    omega (arith, c.loop-account.invariant.0)
