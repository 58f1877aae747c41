use Rattle.std.proofs.Common.{refl, ◌∙◌}
use Rattle.adb_model.specs.Call as machine
use Rattle.replay.specs.Standing.{told}
use Rattle.replay.proofs.Lanes.{in_hand}
use Rattle.replay.proofs.passes.load.Goals as goal

pub load_in_hand-requires : goal.load_in_hand-requires
load_in_hand-requires c =
    let some = c.requires.some.1 in
    record {
      start = some.start;
      history = some.history;
      stands = some.stands.book;
      pins = (in_hand _ some.start some.history c.args.lane c.index_mut-pins.result.now c.requires.lane some.stands c.index_mut-pins.ensures.value).1;
    }

pub returns : goal.returns
returns c p start h st =
    let own = in_hand _ start h c.args.lane c.index_mut-pins.result.now c.requires.lane st c.index_mut-pins.ensures.value in
    c.lanes_go_on.ensures.of_lane _ c.load_in_hand.new.book c.load_in_hand.new.pins start h c.args.lane (machine.Load c.args.view.now c.args.key.now.0) (told c.load_in_hand.result) refl refl refl c.requires.lane st
    (c.load_in_hand.ensures.pass ∙ own.0) (c.load_in_hand.ensures.stands start h st.book own.1)
