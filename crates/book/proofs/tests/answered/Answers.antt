use Rattle.std.proofs.Common.{Some, Err, refl}
use Rattle.adb_model.specs.Call as machine
use Rattle.book.specs.Replies.{store_reply, root_reply}
use Rattle.book.proofs.tests.answered.Goals as goal

pub returns-in-Ok : goal.returns-in-Ok
returns-in-Ok c =
    c.pins_stay.ensures.of_parts c.args.book.now c.store.new.self c.args.pins.now (machine.Store c.in-Store.slot c.key.result.0 c.in_ok-account-in-Store.account.value)
    (Some machine.Done) refl c.in-Ok.ensures c.requires

pub returns-in-Err-SlotRooted : goal.returns-in-Err-SlotRooted
returns-in-Err-SlotRooted c =
    c.pins_stay.ensures.of_parts c.args.book.now c.store.new.self c.args.pins.now (machine.Store c.in-Store.slot c.key.result.0 c.in_ok-account-in-Store.account.value)
    (store_reply {U = Unit {0}} (Err c.in-Err-SlotRooted.field-0)) refl c.in-Err-SlotRooted.ensures c.requires

pub returns-in-Ok-root : goal.returns-in-Ok-root
returns-in-Ok-root c =
    c.pins_stay.ensures.of_parts c.args.book.now c.root.new.self c.args.pins.now (machine.Root c.in-Root.slot) (Some machine.Done) refl c.in-Ok-root.ensures c.requires

pub returns-in-Err-RootOrder : goal.returns-in-Err-RootOrder
returns-in-Err-RootOrder c =
    c.pins_stay.ensures.of_parts c.args.book.now c.root.new.self c.args.pins.now (machine.Root c.in-Root.slot) (root_reply {U = Unit {0}} (Err c.in-Err-RootOrder.field-0)) refl c.in-Err-RootOrder.ensures c.requires

pub returns-in-Ok-purge : goal.returns-in-Ok-purge
returns-in-Ok-purge c =
    c.pins_stay.ensures.of_parts c.args.book.now c.purge.new.self c.args.pins.now (machine.Purge c.in-Purge.slot) (Some (machine.Purged c.in-Ok-purge.keys)) refl c.in-Ok-purge.ensures c.requires

pub returns-in-Err : goal.returns-in-Err
returns-in-Err c =
    c.pins_stay.ensures.of_parts c.args.book.now c.purge.new.self c.args.pins.now (machine.Purge c.in-Purge.slot) (Some (machine.Refused (machine.Rooted c.in-Err.field-0.slot))) refl c.in-Err.ensures c.requires
