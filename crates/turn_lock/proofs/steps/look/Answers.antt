use Rattle.std.proofs.Common.{rules, sym, ap, ◌∙◌, Some, ◌∷◌}
use Rattle.atomic_table.specs.Table.{rest}
use Rattle.turn_lock.proofs.Views.{looks_as, got, waits_on, look_took}
use Rattle.turn_lock.proofs.steps.look.Goals as goal

pub load-requires : goal.load-requires
load-requires g c = (c.requires.table.0, search rules, looks_as _ _ _ _ _ _ c.requires.reads _ _ c.requires.queues)

pub exchange-requires : goal.exchange-requires
exchange-requires g c =
    let l = c.load.ensures in
    let h = (got g.M.Reads.reads g.V.Standing.bears _ _ _ _ c.requires.queues l.2 c.if-load-ticket.true).0 in
    (l.0 ∙ c.requires.table.0, (Some h.0, h.1 ∙ ap (λ x. (0, Some h.0) ∷ rest x) (sym h.1)))

pub returns-then-load-ticket-clause-some : goal.returns-then-load-ticket-clause-some
returns-then-load-ticket-clause-some g c =
    let x = c.exchange.ensures in
    look_took g.M.Reads.reads g.V.Standing.bears _ _ _ _ _ _ _ c.requires.queues c.load.ensures.2 c.if-load-ticket.true x.2 x.3 c.unwrap.ensures

pub returns-else-load-ticket-clause-none : goal.returns-else-load-ticket-clause-none
returns-else-load-ticket-clause-none g c = waits_on g.M.Reads.reads g.V.Standing.bears _ _ _ _ c.requires.queues c.load.ensures.2 c.if-load-ticket.false
