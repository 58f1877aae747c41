use Rattle.adb_model.proofs.OwnPins.{pins_same, others_pins, others_pins_of}
use Rattle.adb_model.proofs.passing.pins_are_own.Goals as goal

pub returns-clause-same : goal.returns-clause-same
returns-clause-same c = pins_same

pub returns-clause-others : goal.returns-clause-others
returns-clause-others c = others_pins

pub returns-clause-others_of : goal.returns-clause-others_of
returns-clause-others_of c = others_pins_of
