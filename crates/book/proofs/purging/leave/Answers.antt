use Rattle.std.proofs.Common.{◌≡◌, ℕ, length, take, None, Some, is_some, sym, ap, ◌∙◌, refl, cond, eqb, ◌&&◌, arith}
use Rattle.std.specs.Prelude.{slice_get}
use Rattle.std.specs.Str.{bytes_eq}
use Rattle.std.proofs.lemmas.Bool.{eq-eqb, eqb-true}
use Rattle.std.proofs.Math.Seq.{take-length}
use Rattle.write_cache.specs.Rows.{rows}
use Rattle.adb_model.specs.State.{Row}
use Rattle.adb_model.specs.Presence.{has_row}
use Rattle.book_parts.specs.Reflects.{indexed}
use Rattle.book.proofs.Versions.{entries_without, same_holds, holds_again, version_there, no_entry_there}
use Rattle.book.proofs.Rows.{row_more, row_new, row_there, account_some, gone_more, gone_all}
use Rattle.book.proofs.purging.leave.Goals as goal

pub drop_version-requires : goal.drop_version-requires
drop_version-requires c =
    let slot = c.args.slot in
    let r : Row = record { key = c.in-Some.key.0; account = c.in-Some.field-0-1.now.value } in
    let all = rows c.args.cache.now slot in
    let row : slice_get all c.loop-at.at ≡ Some r = sym c.in-Some.ensures in
    version_there c.loop-at.index slot r.key
    (ap is_some (c.loop-at.invariant.versions r.key slot
    ∙ ap (λ b. cond (b && has_row r.key (take c.loop-at.at all)) None (indexed c.args.index.now slot r.key)) (eq-eqb slot slot refl)
    ∙ ap (λ b. cond b None (indexed c.args.index.now slot r.key)) (row_new all c.loop-at.at r c.requires.differ row))
    ∙ c.requires.agree r.key ∙ account_some all r.key ∙ row_there all c.loop-at.at r row)

pub loop-at-preserved : goal.loop-at-preserved
loop-at-preserved c =
    let slot = c.args.slot in
    let r : Row = record { key = c.in-Some.key.0; account = c.in-Some.field-0-1.now.value } in
    let all = rows c.args.cache.now slot in
    let row : slice_get all c.loop-at.at ≡ Some r = sym c.in-Some.ensures in
    record {
      versions = λ k s. entries_without c.lookups_follow_edits.ensures.without c.loop-at.index c.drop_version.new.self r.key slot c.drop_version.ensures k s
          ∙ ap (cond (eqb slot s && bytes_eq r.key k) None) (c.loop-at.invariant.versions k s)
          ∙ gone_more (eqb slot s) (has_row k (take c.loop-at.at all)) (bytes_eq r.key k) (indexed c.args.index.now s k)
          ∙ ap (λ b. cond (eqb slot s && b) None (indexed c.args.index.now s k)) (sym (row_more all c.loop-at.at r k row));
      holds = holds_again c.args.index.now c.loop-at.index c.drop_version.new.self c.loop-at.invariant.holds (same_holds c.loop-at.index c.drop_version.new.self r.key _ c.drop_version.ensures);
    }

pub returns : goal.returns
returns c =
    let slot = c.args.slot in
    let all = rows c.args.cache.now slot in
    let count = c.count-at-end.ensures in
    let at_end : c.loop-at.at ≡ length all = omega (arith, count) in
    let whole : take c.loop-at.at all ≡ all = ap (λ n. take n all) at_end ∙ take-length all in
    record {
      versions = λ k s. c.loop-at.invariant.versions k s ∙ ap (λ rs. cond (eqb slot s && has_row k rs) None (indexed c.args.index.now s k)) whole
          ∙ gone_all (eqb slot s) (has_row k all) (indexed c.args.index.now s k) (λ here none.
          ap (λ (n : ℕ). indexed c.args.index.now n k) (sym (eqb-true slot s here)) ∙ no_entry_there c.args.index.now slot k (c.requires.agree k ∙ account_some all k ∙ none));
      holds = c.loop-at.invariant.holds;
      dropped = c.drop_slot.ensures.rows;
      counted = c.drop_slot.ensures.total;
      all = c.drop_slot.ensures.count;
    }
