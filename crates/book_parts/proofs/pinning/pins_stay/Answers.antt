use Rattle.std.proofs.Common.{Some, None, ap, ◌∙◌}
use Rattle.adb_model.specs.State.{State}
use Rattle.adb_model.specs.Call.{Event}
use Rattle.adb_model.specs.History.{state_after}
use Rattle.book_parts.specs.Stands.{with_event}
use Rattle.book_parts.proofs.HeldPins.{still_held}
use Rattle.book_parts.proofs.pinning.pins_stay.Goals as goal

stay : goal.returns-clause-of_history
stay c pins m0 h pass call None keeps held = held
stay c pins m0 h pass call (Some reply) keeps held =
    let event : Event = record { pass = pass; call = call; reply = reply } in
    still_held pins (state_after m0 h) (state_after m0 (with_event h pass call (Some reply))) (ap (λ (n : State). n.pins) (c.histories_go_on.ensures.state m0 h event) ∙ c.pins_are_own.ensures.same (state_after m0 h) pass call keeps) held

pub returns-clause-of_history : goal.returns-clause-of_history
returns-clause-of_history = stay

pub returns-clause-of_parts : goal.returns-clause-of_parts
returns-clause-of_parts c = λ old new pins call reply keeps after has.
    record {
      start = has.start;
      history = with_event has.history 1 call reply;
      stands = after has.start has.history 1 has.stands;
      pins = stay c pins has.start has.history 1 call reply keeps has.pins;
    }
