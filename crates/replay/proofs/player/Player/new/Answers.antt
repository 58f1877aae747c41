use Rattle.replay.proofs.NoPins.{unpinned_stands}
use Rattle.replay.proofs.player.Player.new.Goals as goal

pub invariant_of-result : goal.invariant_of-result
invariant_of-result c = record {
  start = c.requires.0;
  history = c.requires.1;
  stands = unpinned_stands c.args.book c.in_ok-pins.pins.items c.new-jobs.result.items c.new-shrinks.result.items c.requires.0 c.requires.1 c.in_ok-pins.ensures c.new-jobs.ensures.items c.new-shrinks.ensures.items c.requires.2 c.requires.3;
}

pub returns : goal.returns
returns c start history stands quiet = unpinned_stands c.args.book c.in_ok-pins.pins.items c.new-jobs.result.items c.new-shrinks.result.items start history c.in_ok-pins.ensures c.new-jobs.ensures.items c.new-shrinks.ensures.items stands quiet
