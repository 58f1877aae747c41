use Rattle.std.proofs.Common.{◌≤◌, ap, sym, ◌∙◌, arith}
use Rattle.std.proofs.lemmas.Map.Keys.{le_from_not_gt}
use Rattle.std.proofs.lemmas.Bool.{true≢false}
use Rattle.std.specs.Option.{is_some}
use Rattle.write_cache.proofs.Entries.{rows_some, rows_unless, filled_there, length-rows_of, le_not_above}
use Rattle.write_cache.proofs.slots.next_from.Goals as goal

-- the range begins with the slot
pub returns-in-Some : goal.returns-in-Some
returns-in-Some c =
    let es = c.args.slots.now.entries in
    let all = c.range.ensures.in_range tt in
    let here = rw c.in-Some.ensures.steps at all.1 in
    let least = rw c.in-Some.ensures.steps at all.2 in
    let had = rows_some es c.in-Some.slot.now c.in-Some.field-0-1.now (sym here.1) in (
      le_from_not_gt _ _ here.0.0,
      rw had (omega (arith, length-rows_of c.in-Some.field-0-1.now, filled_there es c.in-Some.slot.now c.in-Some.field-0-1.now c.requires (sym here.1))),
      λ q from below. rows_unless es q (λ some. let le : c.in-Some.slot.now ≤ q = le_from_not_gt _ _ (least q (le_not_above _ _ from, tt) some) in omega arith),
    )

-- nothing is in the range
pub returns-in-None : goal.returns-in-None
returns-in-None c = λ q from.
    let none = (c.range.ensures.in_range tt).5 c.in-None.ensures.steps.0 q (le_not_above _ _ from, tt) in
    rows_unless c.args.slots.now.entries q (λ some. true≢false (sym some ∙ ap is_some none))
