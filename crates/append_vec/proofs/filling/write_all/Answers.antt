use Rattle.std.proofs.Common.{◌≡◌, ◌+◌, ℕ, List, length, take, ◌++◌, ap, sym, subst, ◌∙◌, arith}
use Rattle.adb_model.specs.Account as machine
use Rattle.account_layout.specs.Written.{IsWritable, written_record}
use Rattle.append_vec.specs.Filled.{row_of, rows_of, total_size}
use Rattle.append_vec.proofs.Rows.{room, one_more, total-one_more, written-one_more, same_written, whole_back}
use Rattle.append_vec.proofs.filling.write_all.Goals as goal

pub write_at-at-requires : goal.write_at-at-requires
write_at-at-requires c =
    let xs = c.args.accounts.now in
    let most = room xs c.loop-key.key-index c.loop-key-item.result c.loop-key-test.true c.loop-key-item.is in
    let account = ap machine.size c.deref.ensures in
    let items = ap length c.deref_mut.ensures.value in
    omega (arith, c.loop-key.invariant.place, c.loop-key.invariant.whole, c.requires)

-- one more record stands behind the others
pub loop-key-preserved : goal.loop-key-preserved
loop-key-preserved c =
    let xs = c.args.accounts.now in
    let x = c.loop-key-item.result in
    let i = c.loop-key.key-index in
    let at = c.loop-key.at in
    let new = c.write_at-at.new.bytes in
    let account = c.deref.ensures in
    let rows = rows_of (take i xs) in
    let more = one_more xs i x c.loop-key-test.true c.loop-key-item.is in
    let kept : length new ≡ length c.deref_mut.result.now = c.write_at-at.auto.bytes in
    let back = whole_back new c.loop-key.bytes.items c.loop-key.bytes.len (kept ∙ c.deref_mut.ensures.len) in
    let writable = subst (λ (a : machine.Account). IsWritable x.0.0 a) account c.write_at-at.ensures.writable in
    let written = written-one_more rows (row_of x) (take at c.loop-key.bytes.items) c.loop-key.places.items at c.loop-key.invariant.place c.loop-key.invariant.written writable in
    let front =
    ap (λ (bs : List ℕ). take c.write_at-at.result bs) back ∙ c.write_at-at.ensures.front
    ∙ (λ j. take at (c.deref_mut.ensures.value j) ++ written_record x.0.0 (account j)) in
    record {
      place = c.write_at-at.ensures.end ∙ (λ j. c.loop-key.invariant.place j + machine.size (account j)) ∙ sym (total-one_more rows (row_of x)) ∙ sym (ap total_size more);
      written = same_written _ _ _ _ _ _ (sym more) (sym front) (sym c.in_ok-push.ensures.items) written;
      whole = ap length back ∙ kept ∙ ap length c.deref_mut.ensures.value ∙ c.loop-key.invariant.whole;
    }
