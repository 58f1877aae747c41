use Rattle.slot_list.specs.Latest.{sees}
use Rattle.slot_list.proofs.Newest.{IsLatest-find}
use Rattle.slot_list.proofs.search.latest_of.Goals as goal

pub returns : goal.returns
returns c = rw c.last_seen.ensures (IsLatest-find (sees c.args.ancestors.now c.args.roots.now c.args.max_root) c.args.versions.now c.requires.versions_rise)
