use Rattle.std.proofs.Common.{◌<◌, ◌+◌, Some, List, cond, ap, sym, subst, ◌∙◌, refl, arith, length}
use Rattle.std.specs.Option.{is_some}
use Rattle.std.specs.Map.{lookup}
use Rattle.std.specs.BTreeMap as tree
use Rattle.std.specs.BTreeMap.{is_at}
use Rattle.std.specs.Ordering.{nat_cmp}
use Rattle.std.proofs.lemmas.Bool.{false≢true}
use Rattle.std.proofs.lemmas.Result.{on_ok_weaker, on_err_weaker, IfOk-weaker}
use Rattle.std.proofs.lemmas.Map.Views.{All-values-set_value, All-values-insert_entry}
use Rattle.adb_model.specs.State.{Row}
use Rattle.adb_model.specs.Cache.{put_row}
use Rattle.write_cache.specs.Inside.{seen}
use Rattle.write_cache.specs.Rows.{total, account_at, IsWith}
use Rattle.write_cache.proofs.Entries.{rows_some, rows_none, IsWith-updates, total-set_value, total-insert_entry, seen-set_value, filled_there, length-rows_of}
use Rattle.write_cache.proofs.slots.put_in.Goals as goal

-- ---- the slot has rows

pub returns-in-Some-clause-rows : goal.returns-in-Some-clause-rows
returns-in-Some-clause-rows c =
    let es = c.args.slots.now.entries in
    let s = c.args.slot in
    let had = rows_some es s c.in-Some.rows.now c.in-Some.ensures.value in
    let writes = (c.get_mut.follows.holds c.put_in_rows.new.rows).3 (rw (← c.in-Some.ensures.value) refl) in
    on_ok_weaker c.put_in_rows.result (λ made.
    let is = made ∙ ap (λ r. put_row r c.args.key.0 c.args.account.value) (sym had) in
    subst (λ (r : List Row). IsWith (seen es) (seen (c.get_mut.follows.lender c.put_in_rows.new.rows).entries) s r) is
    (IsWith-updates es (c.get_mut.follows.lender c.put_in_rows.new.rows).entries s (Some c.put_in_rows.new.rows) writes.0)) c.put_in_rows.ensures.rows

pub returns-in-Some-clause-err : goal.returns-in-Some-clause-err
returns-in-Some-clause-err c =
    let es = c.args.slots.now.entries in
    on_err_weaker c.put_in_rows.result (λ same.
    ap seen (c.get_mut.follows.holds c.put_in_rows.new.rows).0 ∙ seen-set_value es c.args.slot c.in-Some.rows.now c.put_in_rows.new.rows c.in-Some.ensures.value same) c.put_in_rows.ensures.err

pub returns-in-Some-clause-replaced : goal.returns-in-Some-clause-replaced
returns-in-Some-clause-replaced c =
    let had = rows_some c.args.slots.now.entries c.args.slot c.in-Some.rows.now c.in-Some.ensures.value in
    rw had c.put_in_rows.ensures.replaced

pub returns-in-Some-clause-replaces : goal.returns-in-Some-clause-replaces
returns-in-Some-clause-replaces c =
    let had = rows_some c.args.slots.now.entries c.args.slot c.in-Some.rows.now c.in-Some.ensures.value in
    rw had c.put_in_rows.ensures.replaces

pub returns-in-Some-clause-total : goal.returns-in-Some-clause-total
returns-in-Some-clause-total c =
    let es = c.args.slots.now.entries in
    IfOk-weaker c.put_in_rows.result _ _ (λ replaced longer.
    ap (λ l. total (seen l)) (c.get_mut.follows.holds c.put_in_rows.new.rows).0
    ∙ total-set_value es c.args.slot (cond (is_some replaced) 0 1) c.in-Some.rows.now c.put_in_rows.new.rows c.in-Some.ensures.value longer) c.put_in_rows.ensures.len

pub returns-in-Some-clause-filled : goal.returns-in-Some-clause-filled
returns-in-Some-clause-filled c =
    let es = c.args.slots.now.entries in
    let some = filled_there es c.args.slot c.in-Some.rows.now c.requires c.in-Some.ensures.value in
    let more : 0 < length c.put_in_rows.new.rows.entries = omega (arith, c.put_in_rows.ensures.never_less) in
    rw (c.get_mut.follows.holds c.put_in_rows.new.rows).0 (All-values-set_value (is_at (nat_cmp c.args.slot)) (λ m. 0 < length m.entries) es c.put_in_rows.new.rows c.requires more)

-- ---- the slot has none

pub returns-clause-rows : goal.returns-clause-rows
returns-clause-rows c =
    let es = c.args.slots.now.entries in
    let s = c.args.slot in
    let had = rows_none es s c.in_default.ensures.value in
    let is = c.in_ok-rows.ensures ∙ ap (λ r. put_row r c.args.key.0 c.args.account.value) (sym had) in
    subst (λ (r : List Row). IsWith (seen es) (seen c.insert.new.self.entries) s r) is
    (IsWith-updates es c.insert.new.self.entries s (Some c.in_ok-rows.rows)
    (λ q. c.in_ok-insert.ensures.updates.0 q ∙ ap (λ m. cond (is_at (nat_cmp s) q) (Some c.in_ok-rows.rows) (lookup (is_at (nat_cmp q)) m.entries)) c.get_mut.follows.holds-at-none))

pub returns-clause-replaced : goal.returns-clause-replaced
returns-clause-replaced c =
    sym (ap (λ r. account_at r c.args.key.0) (rows_none c.args.slots.now.entries c.args.slot c.in_default.ensures.value))

pub returns-clause-filled : goal.returns-clause-filled
returns-clause-filled c =
    let es = c.args.slots.now.entries in
    let rows = c.in_ok-rows.rows in
    let now = c.in_ok-insert.ensures.entries ∙ ap (λ m. tree.insert_entry nat_cmp m.entries c.args.slot rows) c.get_mut.follows.holds-at-none in
    let some : 0 < length rows.entries = omega (arith, length-rows_of rows, ap length c.in_ok-rows.ensures) in
    rw now (All-values-insert_entry nat_cmp c.args.slot rows (λ m. 0 < length m.entries) es c.requires some)

pub returns-clause-total : goal.returns-clause-total
returns-clause-total c =
    let es = c.args.slots.now.entries in
    let rows = c.in_ok-rows.rows in
    let now = c.in_ok-insert.ensures.entries ∙ ap (λ m. tree.insert_entry nat_cmp m.entries c.args.slot rows) c.get_mut.follows.holds-at-none in
    let one = sym (length-rows_of rows) ∙ ap length c.in_ok-rows.ensures in
    ap (λ l. total (seen l)) now ∙ total-insert_entry es c.args.slot rows c.get_mut.ensures.ordered c.in_default.ensures.value ∙ ap (λ n. total (seen es) + n) one

pub returns-in_err-rows-clause-replaces : goal.returns-in_err-rows-clause-replaces
returns-in_err-rows-clause-replaces c = λ there.
    absurd (false≢true (rw (rows_none c.args.slots.now.entries c.args.slot c.in_default.ensures.value) at there))

pub returns-in_err-insert-clause-replaces : goal.returns-in_err-insert-clause-replaces
returns-in_err-insert-clause-replaces c = λ there.
    absurd (false≢true (rw (rows_none c.args.slots.now.entries c.args.slot c.in_default.ensures.value) at there))
