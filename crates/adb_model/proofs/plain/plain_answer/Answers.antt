use Rattle.std.proofs.Common.{option_map, sym, ap, ◌∙◌}
use Rattle.std.specs.Option.{option_copied}
use Rattle.adb_model.specs.Seen.{found_of}
use Rattle.adb_model.proofs.PlainSearch.{answer_without_slot, answer_without_store, answer_at_store}
use Rattle.adb_model.proofs.plain.plain_answer.Goals as goal

pub returns-in_err-slot : goal.returns-in_err-slot
returns-in_err-slot c =
    ap (option_map found_of) c.from_residual.ensures
    ∙ sym (answer_without_slot c.args.stores.now c.args.roots.now c.args.view.now c.args.key.now.0 (sym c.in_err-slot.was ∙ c.latest_slot.ensures))

pub returns-in_err-stored : goal.returns-in_err-stored
returns-in_err-stored c =
    ap (option_map found_of) c.from_residual-in_err-stored.ensures
    ∙ sym (answer_without_store c.args.stores.now c.args.roots.now c.args.view.now c.args.key.now.0 c.in_ok-slot.slot (sym c.in_ok-slot.was ∙ c.latest_slot.ensures)
    (sym c.last_store.ensures ∙ ap option_copied c.in_err-stored.was))

pub returns : goal.returns
returns c =
    c.unless_tomb.ensures
    ∙ sym (answer_at_store c.args.stores.now c.args.roots.now c.args.view.now c.args.key.now.0 c.in_ok-slot.slot c.in_ok-stored.stored.now (sym c.in_ok-slot.was ∙ c.latest_slot.ensures)
    (sym c.last_store.ensures ∙ ap option_copied c.in_ok-stored.was))
