use Rattle.std.proofs.Common.{rules, of_calls, ltb}
use Rattle.std.proofs.lemmas.Fn.{always_returns_same}
use Rattle.adb_model.proofs.Rising.{increasing_from_neighbours}
use Rattle.adb_model.proofs.view.do_rise.Goals as goal

pub returns : goal.returns
returns c =
    let below = always_returns_same _ _ _ (λ a r f k. search (rules, of_calls)) in
    increasing_from_neighbours c.args.slots.now c.is_sorted_by.result (c.is_sorted_by.ensures.cases ltb below)
