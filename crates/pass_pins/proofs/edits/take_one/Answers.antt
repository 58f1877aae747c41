use Rattle.std.proofs.Common.{ℕ, List, Option, ap, sym, ◌∙◌, position}
use Rattle.std.specs.Option.{option_or}
use Rattle.pass_pins.specs.declared.Pin.{Pin}
use Rattle.pass_pins.specs.Pins.{has_id, is_finished}
use Rattle.pass_pins.proofs.Pins.{without_one-remove, without_one_none, some_place, no_place}
use Rattle.pass_pins.proofs.edits.take_one.Goals as goal

-- where a pin of the id is taken
abbrev place : ℕ → List Pin → Option ℕ
place id ps = option_or (position (is_finished id) ps) (position (has_id id) ps)

pub returns-in-Some-clause-there : goal.returns-in-Some-clause-there
returns-in-Some-clause-there c =
    let found = sym (c.in-Some.ensures ∙ ap (place c.args.id) c.as_slice.ensures.value) in
    sym (some_place c.args.id c.args.pins.now.items c.in-Some.place found)

pub returns-in-Some-clause-pins : goal.returns-in-Some-clause-pins
returns-in-Some-clause-pins c =
    let found = sym (c.in-Some.ensures ∙ ap (place c.args.id) c.as_slice.ensures.value) in
    c.remove.ensures.items ∙ sym (without_one-remove c.args.id c.args.pins.now.items c.in-Some.place c.remove.result found)

pub returns-in-None-clause-there : goal.returns-in-None-clause-there
returns-in-None-clause-there c =
    sym (no_place c.args.id c.args.pins.now.items (sym (c.in-None.ensures ∙ ap (place c.args.id) c.as_slice.ensures.value)))

pub returns-in-None-clause-pins : goal.returns-in-None-clause-pins
returns-in-None-clause-pins c = sym (without_one_none c.args.id c.args.pins.now.items (sym (returns-in-None-clause-there c)))
