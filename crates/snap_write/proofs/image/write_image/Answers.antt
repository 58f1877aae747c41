use Rattle.std.proofs.Common.{◌≡◌, ◌++◌, Some, ap, sym, subst, ◌∙◌}
use Rattle.std.specs.List.{slice_get}
use Rattle.account_layout.specs.Written.{IsWritable, written_record}
use Rattle.adb_model.specs.Account.{Account}
use Rattle.vec_scan.specs.Seal.{placed}
use Rattle.snap_write.proofs.Laid.{bytes_more, writable_more}
use Rattle.snap_write.proofs.image.write_image.Goals as goal

pub loop-offset-preserved : goal.loop-offset-preserved
loop-offset-preserved c =
    let rows = c.args.image.now.rows in
    let n = c.loop-offset.offset-index in
    let p = placed _ c.record_at-record.result in
    let is : slice_get rows n ≡ Some p = sym (c.offsets-offset-items.ensures.rows n c.loop-offset-test.true) ∙ c.record_at-record.ensures.row in
    let account = c.in_ok-account.ensures in
    record {
      written = bytes_more rows n p is c.loop-offset.bytes.items c.push_record-in-loop-offset.new.bytes.items c.loop-offset.invariant.written
          (c.in_ok-push_record.ensures.written ∙ ap (λ (a : Account). c.loop-offset.bytes.items ++ written_record p.row.key a) account);
      writable = writable_more rows n p is c.loop-offset.invariant.writable (subst (λ (a : Account). IsWritable p.row.key a) account c.in_ok-push_record.ensures.writable);
    }
