use Rattle.slot_list.proofs.Lookups.{at-put, at-without, at-rehomed}
use Rattle.slot_list.proofs.laws.lookups_follow_edits.Goals as goal

pub returns : goal.returns
returns c = record { put = at-put; without = at-without; rehomed = at-rehomed }
