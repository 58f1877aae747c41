use Rattle.std.proofs.Common.{Option, sym, subst, refl, ◌∙◌}
use Rattle.adb_model.specs.Call as machine
use Rattle.book_parts.specs.Stands.{AfterWithPins}
use Rattle.replay.proofs.Lanes.{in_hand}
use Rattle.replay.proofs.passes.unpin.Goals as goal

pub unpin-requires : goal.unpin-requires
unpin-requires c =
    let some = c.requires.some.1 in
    record {
      start = some.start;
      history = some.history;
      stands = some.stands.book;
      pins = (in_hand _ some.start some.history c.args.lane c.index_mut-pins.result.now c.requires.lane some.stands c.index_mut-pins.ensures.value).1;
    }

pub returns : goal.returns
returns c p start h st =
    let own = in_hand _ start h c.args.lane c.index_mut-pins.result.now c.requires.lane st c.index_mut-pins.ensures.value in
    c.lanes_go_on.ensures.of_lane _ c.unpin.new.self c.unpin.new.pins start h c.args.lane (machine.Unpin c.args.id) _ refl refl refl c.requires.lane st (c.unpin.ensures.pass ∙ own.0)
    (subst (λ (r : Option machine.Reply). AfterWithPins c.unpin.new.self c.unpin.new.pins start h (machine.Unpin c.args.id) r) (sym c.unpinned.ensures) (c.unpin.ensures.stands start h st.book own.1))
