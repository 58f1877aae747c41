use Rattle.std.proofs.Common.{◌≡◌, ap, ◌∙◌, sym, arith, Some}
use Rattle.std.specs.Prelude.{slice_get}
use Rattle.adb_model.specs.Account.{size}
use Rattle.adb_model.specs.State.{Row}
use Rattle.write_cache.specs.Rows.{rows}
use Rattle.flush_plan.proofs.Cached.{bytes_more}
use Rattle.flush_plan.proofs.rows.stored_bytes.Goals as goal

pub loop-at-preserved : goal.loop-at-preserved
loop-at-preserved c =
    let r : Row = record { key = c.in-Some.field-0-0.0; account = c.in-Some.account.now.value } in
    let all = rows c.args.cache.now c.args.slot in
    let there : slice_get all c.loop-at.at ≡ Some r = sym c.in-Some.ensures in
    let stored : c.stored_size.result ≡ size r.account = c.stored_size.ensures ∙ ap size c.deref.ensures in
    let more = bytes_more all c.loop-at.at r there in
    let fits = c.stored_size.type_inv in
    (omega (arith, c.loop-at.invariant.0), omega (arith, c.loop-at.invariant.1))
