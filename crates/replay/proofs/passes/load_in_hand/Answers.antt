use Rattle.std.proofs.Common.{◌≡◌, Option, Some, Ok, ap, subst, ◌∙◌}
use Rattle.adb_model.specs.Call as machine
use Rattle.vec_scan.specs.Seal.{row_at}
use Rattle.book.specs.declared.loading.Found.{Found}
use Rattle.book.specs.declared.loading.FoundAt.TheVariants.{Stored}
use Rattle.book.specs.Pinned.{IsThere}
use Rattle.book.specs.Replies.{load_reply, unpin_reply}
use Rattle.book_parts.specs.Stands.{AfterWithPins, with_event}
use Rattle.replay.proofs.Found.{stored_there, told_of}
use Rattle.replay.proofs.passes.load_in_hand.Goals as goal

pub returns-in-Ok-Some-clause-stands : goal.returns-in-Ok-Some-clause-stands
returns-in-Ok-Some-clause-stands c start h st held =
    let found = c.in-Ok-Some in
    let load = machine.Load c.args.view.now c.args.key.now.0 in
    let slot = found.slot in
    let id = c.in-Stored.id in
    let sealed = c.in-Stored.sealed in
    let offset = c.in-Stored.offset in
    let at_is : found.field-0-0.at ≡ Stored id sealed offset = c.in-Stored.is in
    let is : found.field-0 ≡ Some (record { slot = slot; at = Stored id sealed offset }) = found.field-0-is ∙ (λ i. Some (record { slot = found.slot-is i; at = at_is i })) in
    let is_there : IsThere c.args.key.now.0 (Stored id sealed offset) =
    stored_there c.args.key.now.0 c.load.result slot id sealed offset (found.is ∙ ap (λ (o : Option Found). Ok o) is) c.load.ensures.there in
    let told = told_of slot id (row_at sealed.value.rows offset) is_there.0 in
    let loaded : AfterWithPins c.load.new.self c.load.new.pins start h load (Some (machine.Found slot (machine.InStorage id) told.0)) =
    subst (λ (r : Option machine.Reply). AfterWithPins c.load.new.self c.load.new.pins start h load r) (ap (λ (o : Option Found). load_reply (Ok o)) is ∙ told.1) (found.ensures.stands start h st held) in
    let g = with_event h c.load.new.pins.pass load (Some (machine.Found slot (machine.InStorage id) told.0)) in
    c.lanes_go_on.ensures.given_back c.args.book.now c.load.new.self c.unpin.new.self c.unpin.new.pins start h c.load.new.pins.pass slot id c.args.view.now c.args.key.now.0 told.0 (unpin_reply c.unpin.result)
    st c.unpin.ensures.pass loaded.stands (c.unpin.ensures.stands start g loaded.stands loaded.pins)
