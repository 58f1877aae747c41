use Rattle.std.proofs.Common.{[], refl}
use Rattle.std.proofs.lemmas.List.Elements.{All-from_recursion}
use Rattle.adb_model.specs.State.{fresh}
use Rattle.replay.proofs.running.fresh_player.Goals as goal

pub returns : goal.returns
returns c = c.new-2.ensures (fresh c.args.budget 1) [] c.in_ok-book.ensures (record { pins = refl; shrinks = refl; filling = All-from_recursion _ [] tt; snap = refl })
