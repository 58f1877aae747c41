use Rattle.std.proofs.Common.{◌≡◌, ap, ◌∙◌, sym, Some}
use Rattle.std.specs.Prelude.{slice_get}
use Rattle.write_cache.specs.Rows.{rows}
use Rattle.append_vec.specs.Filled.{row_of, rows_of}
use Rattle.flush_plan.proofs.Cached.{rows_more, same_row}
use Rattle.flush_plan.proofs.rows.cached_rows.Goals as goal

pub loop-at-preserved : goal.loop-at-preserved
loop-at-preserved c =
    let all = rows c.args.cache.now c.args.slot in
    let shared : c.in_ok-clone.field-0.value ≡ c.in-Some.account.now.value = c.in_ok-clone.ensures.cases in
    let there : slice_get all c.loop-at.at ≡ Some (row_of (c.in-Some.key, c.in_ok-clone.field-0)) =
    same_row all c.loop-at.at c.in-Some.key.0 c.in-Some.account.now.value c.in_ok-clone.field-0.value shared (sym c.in-Some.ensures) in
    ap rows_of c.in_ok-push.ensures.items
    ∙ rows_more c.loop-at.accounts.items (c.in-Some.key, c.in_ok-clone.field-0) all c.loop-at.at there c.loop-at.invariant
