use Rattle.std.proofs.Common.{rules, refl, sym, ap, ◌∙◌, Some, ◌∷◌}
use Rattle.atomic_table.specs.Table.{rest}
use Rattle.turn_lock.proofs.Views.{tries_as, try_took}
use Rattle.turn_lock.proofs.steps.attempt.Goals as goal

pub compare_exchange-ticket-requires : goal.compare_exchange-ticket-requires
compare_exchange-ticket-requires g c = (c.requires.table.0, search rules, tries_as _ _ _ _ _ _ c.requires.reads _ _ _ c.requires.rests c.requires.noted.0 refl)

pub exchange-requires : goal.exchange-requires
exchange-requires g c =
    let l = c.compare_exchange-ticket.ensures in
    let h = (l.2.0 (c.if-ticket-serving.true ∙ sym c.requires.noted.0)).0 in
    (l.0 ∙ c.requires.table.0, (Some h.0, h.1 ∙ ap (λ x. (0, Some h.0) ∷ rest x) (sym h.1)))

pub returns-then-ticket-serving-clause-ok : goal.returns-then-ticket-serving-clause-ok
returns-then-ticket-serving-clause-ok g c =
    let x = c.exchange.ensures in
    try_took g.M.Reads.reads g.V.Standing.bears _ _ _ _ _ _ _ c.requires.rests c.compare_exchange-ticket.ensures.2 c.requires.noted.0 c.if-ticket-serving.true x.2 x.3 c.unwrap.ensures
