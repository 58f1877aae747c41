use Rattle.std.proofs.Common.{ap, sym, ◌∙◌, set, length-set, position}
use Rattle.std.specs.Option.{is_some}
use Rattle.arrayvec.proofs.ArrayVecLemmas.{items-with_items}
use Rattle.pass_pins.specs.Pins.{is_unfinished}
use Rattle.pass_pins.proofs.Pins.{any-position, with_finished-set, with_finished_none}
use Rattle.pass_pins.proofs.edits.finish_one.Goals as goal

pub returns-in-Some-clause-there : goal.returns-in-Some-clause-there
returns-in-Some-clause-there c =
    let ps = c.args.pins.now.items in
    let found = sym (c.in-Some.ensures ∙ ap (position (is_unfinished c.args.id)) c.as_slice.ensures.value) in
    sym (any-position (is_unfinished c.args.id) ps ∙ ap is_some found)

-- the slice that was written has the length of the pins, and stands in their place
pub returns-in-Some-clause-pins : goal.returns-in-Some-clause-pins
returns-in-Some-clause-pins c =
    let ps = c.args.pins.now.items in
    let i = c.in-Some.place in
    let found = sym (c.in-Some.ensures ∙ ap (position (is_unfinished c.args.id)) c.as_slice.ensures.value) in
    rw c.deref_mut.ensures.value (items-with_items c.args.pins.now (set ps i _) (length-set ps i _) ∙ sym (with_finished-set c.args.id ps i _ found))

pub returns-in-None-clause-there : goal.returns-in-None-clause-there
returns-in-None-clause-there c =
    let absent = sym (c.in-None.ensures ∙ ap (position (is_unfinished c.args.id)) c.as_slice.ensures.value) in
    sym (any-position (is_unfinished c.args.id) c.args.pins.now.items ∙ ap is_some absent)

pub returns-in-None-clause-pins : goal.returns-in-None-clause-pins
returns-in-None-clause-pins c = sym (with_finished_none c.args.id c.args.pins.now.items (sym (returns-in-None-clause-there c)))
