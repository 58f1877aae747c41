use Rattle.std.proofs.Common.{◌∙◌}
use Rattle.book.proofs.Slots.{newest_is}
use Rattle.book.proofs.rooting.newest.Goals as goal

pub returns : goal.returns
returns c = c.newest.ensures.last ∙ newest_is c.args.roots.now
