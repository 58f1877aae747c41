use Rattle.snap_write.proofs.Apart.{snapshot_kept, one_name, has_version}
use Rattle.snap_write.proofs.laws.snapshots_stand_apart.Goals as goal

pub returns : goal.returns
returns c =
    let law = c.names_of_files_differ.ensures in
    record {
      kept = λ old new name same slot images more h. snapshot_kept name old new same (law.storage name) law.version law.manifest slot images more h;
      one_name = λ name other path is is' pre pre'. one_name name other path is is' pre pre';
      there = λ files name slot images more h. has_version files name (law.version name) slot images more h;
    }
