use Rattle.std.proofs.Common.{rules, ◌∙◌}
use Rattle.turn_lock.proofs.Views.{passes_as}
use Rattle.turn_lock.proofs.steps.pass_on.Goals as goal

pub fetch_add-requires : goal.fetch_add-requires
fetch_add-requires g c =
    let x = c.exchange.ensures in
    let r = c.requires in
    (x.0 ∙ r.table.0, search rules, passes_as g.V.Standing.stands g.V.Standing.bears _ _ _ _ _ _ _ _ _ _ r.table.2 r.holds x.3 c.step_after.ensures r.own r.stands r.counted)
