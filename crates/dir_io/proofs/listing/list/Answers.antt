use Rattle.dir_io.proofs.Begun.{untold}
use Rattle.dir_io.proofs.listing.list.Goals as goal

pub returns-in_default-pop-clause-names : goal.returns-in_default-pop-clause-names
returns-in_default-pop-clause-names g c =
    untold c.args.prefix.now c.loop.names.keys c.in_ok-in_order.field-0.items c.in_ok-in_order.ensures.all c.in_ok-in_order.ensures.rising c.loop.invariant
