use Rattle.pass_pins.proofs.Pins.{count_of-without_one}
use Rattle.pass_pins.proofs.PassPins.take.Goals as goal

pub returns-clause-each : goal.returns-clause-each
returns-clause-each c = λ q.
    rw (← c.self.view_is, c.take_one.ensures.pins, c.take_one.ensures.there) (count_of-without_one c.args.id q c.self.inside.pins.items)
