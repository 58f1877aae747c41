use Rattle.std.proofs.Common.{ap, ◌∙◌}
use Rattle.pass_pins.specs.Pins.{count_of}
use Rattle.pass_pins.proofs.Pins.{count_of-with_finished}
use Rattle.pass_pins.proofs.PassPins.finish.Goals as goal

pub returns-clause-each : goal.returns-clause-each
returns-clause-each c = λ q.
    ap (count_of q) c.finish_one.ensures.pins ∙ count_of-with_finished c.args.id q c.self.inside.pins.items ∙ ap (λ p. count_of q p.pins) c.self.view_is
