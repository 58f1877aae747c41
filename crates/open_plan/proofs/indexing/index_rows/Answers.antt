use Rattle.std.proofs.Common.{◌≡◌, ℕ, ◌+◌, List, [], map, take, get_or, false, cond, subst, sym, ap, ◌∙◌, arith}
use Rattle.accounts_index.specs.Index.{kept}
use Rattle.adb_model.specs.Account.{tomb}
use Rattle.adb_model.specs.Lists.{among}
use Rattle.adb_model.specs.Presence.{has_row}
use Rattle.vec_scan.specs.Image.{Placed}
use Rattle.vec_scan.specs.Seal.{placed}
use Rattle.book_parts.specs.Opening.{Indexes, distinct_keys}
use Rattle.open_plan.proofs.Standing.{some_row, row_next}
use Rattle.open_plan.proofs.Indexed.{indexes_more, held_so_far}
use Rattle.open_plan.proofs.Keys.{counts_next, counts_flag}
use Rattle.open_plan.proofs.indexing.index_rows.Goals as goal

pub record_at-record-requires : goal.record_at-record-requires
record_at-record-requires c =
    let offsets = c.offsets-offset-items in
    some_row c.args.image.now.rows offsets.result.now offsets.ensures.offsets offsets.ensures.rise c.loop-offset.offset-index c.loop-offset-test.true 0
    (record { offset = 0; row = record { key = []; account = tomb } })

pub loop-offset-preserved : goal.loop-offset-preserved
loop-offset-preserved c =
    let rows = c.args.image.now.rows in
    let offsets = c.offsets-offset-items in
    let i = c.loop-offset.offset-index in
    let slot = c.slot-slot.result in
    let repeated = c.loop-offset.repeated + c.from-repeated.result in
    let done = take i rows in
    let p = placed (get_or offsets.result.now i 0) c.record_at-record.result in
    let next = row_next rows offsets.result.now offsets.ensures.offsets offsets.ensures.rise i c.loop-offset-test.true 0 p c.record_at-record.ensures.row in
    let unheld : among slot (kept c.args.index.now p.row.key).held ≡ false = ap (λ (s : ℕ). among s (kept c.args.index.now p.row.key).held) c.slot-slot.ensures ∙ c.requires p.row.key in
    let was = c.in_ok-was_held.ensures.was ∙ held_so_far slot c.args.cell done c.args.index.now c.loop-offset.index p.row.key c.loop-offset.invariant.0 unheld in
    let again : repeated ≡ c.loop-offset.repeated + cond (has_row p.row.key (map (λ (q : Placed). q.row) done)) 1 0 =
    ap (λ (n : ℕ). c.loop-offset.repeated + n) (c.from-repeated.ensures ∙ counts_flag c.in_ok-was_held.was_held _ was) in (
      subst (λ (ps : List Placed). Indexes slot c.args.cell ps c.args.index.now c.index_row.new.index) (sym next)
          (indexes_more slot c.args.cell done p c.args.index.now c.loop-offset.index c.index_row.new.index c.loop-offset.invariant.0 c.in_ok-was_held.ensures.index),
      subst (λ (ps : List Placed). repeated + distinct_keys (map (λ (q : Placed). q.row) ps) ≡ i + 1) (sym next)
          (counts_next done p c.loop-offset.repeated repeated i c.loop-offset.invariant.1 again),
    )
